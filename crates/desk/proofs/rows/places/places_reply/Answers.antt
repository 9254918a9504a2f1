use Rattle.std.proofs.Common.{◌≡◌, ◌∙◌, ◌++◌, false, codes, map, string_bytes, sym, subst, rules}
use Rattle.std.proofs.Math.ListN.{drop_of_length-le}
use Rattle.serde_json.specs.View.{items_of}
use Rattle.serde_json.specs.Written.{comma_if, compact_text, items_text}
use Rattle.machine.specs.Reply.{place_data, places_data}
use Rattle.desk.specs.Steps.RowPlaces.{item_place}
use Rattle.machine.proofs.ListTexts.{list_step, places_text}
use Rattle.streams.proofs.Lists.{drop_next}
use Rattle.desk.proofs.rows.places.places_reply.Goals as goal

pub loop-place-preserved : goal.loop-place-preserved
loop-place-preserved c =
    let places = c.args.places.now in
    let item = c.place-item.result in
    let split = drop_next places c.loop-place.place-index item c.loop-place-test.true c.place-item.is in
    let was = subst (λ l. string_bytes c.loop-place.text ++ (items_text c.loop-place.later (items_of (map place_data (map item_place l))) ++ codes "}") ≡ codes "{\"places\":[" ++ (items_text false (items_of (map place_data (map item_place places))) ++ codes "}")) split c.loop-place.invariant in
    let added = subst (λ uri. string_bytes c.add_place.new.text ≡ string_bytes c.loop-place.text ++ (comma_if c.loop-place.later ++ compact_text (place_data (record { project = item.project.now; place = record { uri = uri; span = item.span } })))) c.as_str.ensures.value c.in_ok-add_place.ensures in
    list_step (string_bytes c.loop-place.text) (string_bytes c.add_place.new.text) c.loop-place.later (place_data (item_place item)) _ (codes "}") _ added was

pub returns : goal.returns
returns c =
    let places = c.args.places.now in
    let ended = drop_of_length-le places c.loop-place-test.false in
    let was = subst (λ l. string_bytes c.loop-place.text ++ (items_text c.loop-place.later (items_of (map place_data (map item_place l))) ++ codes "}") ≡ codes "{\"places\":[" ++ (items_text false (items_of (map place_data (map item_place places))) ++ codes "}")) ended c.loop-place.invariant in
    let whole : string_bytes c.loop-place.text ++ codes "]}" ≡ compact_text (places_data (map item_place places)) = was ∙ sym (places_text (map item_place places)) in
    search rules
