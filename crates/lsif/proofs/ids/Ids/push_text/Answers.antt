use Rattle.std.proofs.Common.{◌≡◌, ◌∙◌, ◌+◌, [], ◌∷◌, ◌++◌, length, string_bytes, rules, sym, ap, subst}
use Rattle.std.proofs.lemmas.Str.{IsUtf8-string_bytes}
use Rattle.lsif.specs.IdValues.{greatest_id}
use Rattle.lsif.specs.IdValues.{text as text_value}
use Rattle.lsif.specs.Steps.IdLists.{AreCut, ids_of}
use Rattle.lsif.proofs.IdLists.{text_more}
use Rattle.lsif.proofs.ids.Ids.push_text.Goals as goal

pub invariant_of-self-else-is_err : goal.invariant_of-self-else-is_err
invariant_of-self-else-is_err c =
    let text = c.args.text.now in
    let entries = c.self.inside.entries.items in
    let texts = string_bytes c.self.inside.texts in
    let items : c.push.new.self.items ≡ entries ++ (greatest_id + length text) ∷ [] = search rules in
    let bytes : string_bytes c.push_str.new.self ≡ texts ++ text = search rules in
    let more = text_more entries texts text c.requires (IsUtf8-string_bytes c.self.inside.texts) c.utf8.text c.self.invariant in
    subst (λ l. AreCut l (string_bytes c.push_str.new.self)) (sym items) (subst (AreCut (entries ++ (greatest_id + length text) ∷ [])) (sym bytes) more.1)

pub returns : goal.returns
returns c =
    let text = c.args.text.now in
    let entries = c.self.inside.entries.items in
    let texts = string_bytes c.self.inside.texts in
    let items : c.push.new.self.items ≡ entries ++ (greatest_id + length text) ∷ [] = search rules in
    let bytes : string_bytes c.push_str.new.self ≡ texts ++ text = search rules in
    let more = text_more entries texts text c.requires (IsUtf8-string_bytes c.self.inside.texts) c.utf8.text c.self.invariant in
    ap (λ l. ids_of l (string_bytes c.push_str.new.self)) items ∙ ap (ids_of (entries ++ (greatest_id + length text) ∷ [])) bytes ∙ more.0 ∙ ap (λ l. l ++ text_value text ∷ []) c.self.view_is
