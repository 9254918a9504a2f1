use Rattle.std.proofs.Common.{◌≡◌, ◌∙◌, None, Some, is_some, option_map, true, false, sym, ap}
use Rattle.tags.specs.Fields.{is_empty, name_in, value_in}
use Rattle.tags.specs.Escapes.{decoded}
use Rattle.tags.proofs.FieldLemmas.{noted-escape, noted-other, noted-bad_name, noted-empty, noted-first_kind, noted-second_kind}
use Rattle.tags.proofs.fields.Noted.add.Goals as goal
use Rattle.tags.proofs.fields.Noted.add.Goals.{in_default-via-in-Some+else-is_field_name, in_default-via-in-None+then-not-is_empty+else-not-self, in_default-via-in-None+else-not-is_empty}

pub returns-then-not-is_decodable : goal.returns-then-not-is_decodable
returns-then-not-is_decodable c =
    let none : is_some (decoded (value_in c.args.field.now)) ≡ false = rw (← c.name_and_value.ensures.value) (sym c.is_decodable.ensures ∙ c.if-not-is_decodable.true) in
    λ kind others rest. noted-escape c.args.self.now.good kind others c.args.field.now rest none

pub returns-in-Some : goal.returns-in-Some
returns-in-Some c =
    let some : is_some (decoded (value_in c.args.field.now)) ≡ true = rw (← c.name_and_value.ensures.value) (sym c.is_decodable.ensures ∙ c.if-not-is_decodable.false) in
    let name : name_in c.args.field.now ≡ Some c.in-Some.name.now = sym c.name_and_value.ensures.name ∙ ap (option_map (λ s. s.now)) c.in-Some.is in
    λ kind others stands. noted-other c.args.self.now.has_kind c.args.self.now.good kind others c.args.field.now c.in-Some.name.now name (sym c.if-is_field_name.ensures) some stands

pub returns-in-None : goal.returns-in-None
returns-in-None c =
    let some : is_some (decoded (value_in c.args.field.now)) ≡ true = rw (← c.name_and_value.ensures.value) (sym c.is_decodable.ensures ∙ c.if-not-is_decodable.false) in
    let name : name_in c.args.field.now ≡ None = sym c.name_and_value.ensures.name ∙ ap (option_map (λ s. s.now)) c.in-None.is in
    let full : is_empty (value_in c.args.field.now) ≡ false = rw c.name_and_value.ensures.value at (sym c.if-not-is_empty.ensures) in
    λ kind others stands. noted-first_kind c.args.self.now.good kind others c.args.field.now name full some (stands ∙ c.if-not-self.true)

pub returns-in_default : goal.returns-in_default
returns-in_default c =
    let some : is_some (decoded (value_in c.args.field.now)) ≡ true = rw (← c.name_and_value.ensures.value) (sym c.is_decodable.ensures ∙ c.if-not-is_decodable.false) in
    elim c.in_default.branch [
      | in_default-via-in-Some+else-is_field_name w ↦
          let name : name_in c.args.field.now ≡ Some w.in-Some.name.now = sym c.name_and_value.ensures.name ∙ ap (option_map (λ s. s.now)) w.in-Some.is in
          λ kind others stands. noted-bad_name c.args.self.now.has_kind c.args.self.now.good kind others c.args.field.now w.in-Some.name.now name (sym w.if-is_field_name.ensures) some stands
      | in_default-via-in-None+then-not-is_empty+else-not-self w ↦
          let name : name_in c.args.field.now ≡ None = sym c.name_and_value.ensures.name ∙ ap (option_map (λ s. s.now)) w.in-None.is in
          λ kind others stands. noted-second_kind c.args.self.now.has_kind c.args.self.now.good kind others c.args.field.now name some w.if-not-self.false stands
      | in_default-via-in-None+else-not-is_empty w ↦
          let name : name_in c.args.field.now ≡ None = sym c.name_and_value.ensures.name ∙ ap (option_map (λ s. s.now)) w.in-None.is in
          let empty : is_empty (value_in c.args.field.now) ≡ true = rw c.name_and_value.ensures.value at (sym w.is_empty.ensures ∙ w.if-not-is_empty.false) in
          λ kind others stands. noted-empty c.args.self.now.has_kind c.args.self.now.good kind others c.args.field.now name empty some stands
    ]
