use Rattle.std.proofs.Common.{◌≡◌, ◌∙◌, ◌++◌, false, codes, map, string_bytes, sym, subst, rules}
use Rattle.std.proofs.Math.ListN.{drop_of_length-le}
use Rattle.serde_json.specs.View.{items_of}
use Rattle.serde_json.specs.Written.{compact_text, items_text}
use Rattle.machine.specs.Found.{tag_found}
use Rattle.machine.specs.Reply.{tag_data, tags_data}
use Rattle.machine.proofs.ListTexts.{list_step, tags_text}
use Rattle.streams.proofs.Lists.{drop_next}
use Rattle.machine.proofs.bodies.tags_found.Goals as goal

pub loop-found-preserved : goal.loop-found-preserved
loop-found-preserved c =
    let tags = c.args.tags.now in
    let item = c.found-item.result in
    let split = drop_next tags c.loop-found.found-index item c.loop-found-test.true c.found-item.is in
    let was = subst (λ l. string_bytes c.loop-found.text ++ (items_text c.loop-found.later (items_of (map tag_data (map tag_found l))) ++ codes "}") ≡ codes "{\"tags\":[" ++ (items_text false (items_of (map tag_data (map tag_found tags))) ++ codes "}")) split c.loop-found.invariant in
    list_step (string_bytes c.loop-found.text) (string_bytes c.add_tag.new.text) c.loop-found.later (tag_data (tag_found item)) _ (codes "}") _ c.in_ok-add_tag.ensures was

pub returns : goal.returns
returns c =
    let tags = c.args.tags.now in
    let ended = drop_of_length-le tags c.loop-found-test.false in
    let was = subst (λ l. string_bytes c.loop-found.text ++ (items_text c.loop-found.later (items_of (map tag_data (map tag_found l))) ++ codes "}") ≡ codes "{\"tags\":[" ++ (items_text false (items_of (map tag_data (map tag_found tags))) ++ codes "}")) ended c.loop-found.invariant in
    let whole : string_bytes c.loop-found.text ++ codes "]}" ≡ compact_text (tags_data (map tag_found tags)) = was ∙ sym (tags_text (map tag_found tags)) in
    search rules
