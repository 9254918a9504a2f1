use Rattle.std.proofs.Common.{◌≡◌, ◌∙◌, ◌++◌, ◌∷◌, [], Some, None, true, option_map, map, string_bytes, sym, ap}
use Rattle.std.proofs.lemmas.List.{map-append}
use Rattle.tags.specs.Escapes.{decoded}
use Rattle.tags.specs.Fields.{name_in, value_in}
use Rattle.tags.specs.Steps.Gathering.{gathered}
use Rattle.tags.specs.Views.{field_value}
use Rattle.tags.proofs.FieldLemmas.{good_other, good_kind}
use Rattle.tags.proofs.fields.Gathered.add.Goals as goal

pub returns-in_ok-push-in-Some : goal.returns-in_ok-push-in-Some
returns-in_ok-push-in-Some c =
    let old = c.args.self.now in
    let some : decoded (value_in c.args.field.now) ≡ Some (string_bytes c.in_ok-value.value) = rw c.name_and_value.ensures.value at c.in_ok-value.ensures in
    let name : name_in c.args.field.now ≡ Some c.in-Some.name.now = sym c.name_and_value.ensures.name ∙ ap (option_map (λ s. s.now)) c.in-Some.is in
    let pushed : map field_value c.push.new.self.items ≡ map field_value old.others.items ++ record { name = c.in-Some.name.now; value = string_bytes c.in_ok-value.value } ∷ [] =
    ap (map field_value) c.in_ok-push-in-Some.ensures.items ∙ map-append field_value old.others.items _
    ∙ ap (λ n. map field_value old.others.items ++ record { name = n; value = string_bytes c.in_ok-value.value } ∷ []) (c.in_ok-name-in-Some.ensures.ok ∙ c.text_of.ensures) in
    λ rest good. ap (λ xs. gathered true (option_map (λ s. string_bytes s) old.kind) xs rest) pushed
    ∙ good_other (option_map (λ s. string_bytes s) old.kind) (map field_value old.others.items) c.args.field.now c.in-Some.name.now (string_bytes c.in_ok-value.value) rest name some good

pub returns-in-None : goal.returns-in-None
returns-in-None c =
    let old = c.args.self.now in
    let some : decoded (value_in c.args.field.now) ≡ Some (string_bytes c.in_ok-value.value) = rw c.name_and_value.ensures.value at c.in_ok-value.ensures in
    let name : name_in c.args.field.now ≡ None = sym c.name_and_value.ensures.name ∙ ap (option_map (λ s. s.now)) c.in-None.is in
    λ rest good. good_kind (option_map (λ s. string_bytes s) old.kind) (map field_value old.others.items) c.args.field.now (string_bytes c.in_ok-value.value) rest name some good
