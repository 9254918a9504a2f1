use Rattle.std.proofs.Common.{◌≡◌, ◌∙◌, [], None, Some, true, map, option_map, string_bytes, sym, ap}
use Rattle.tags.specs.Steps.Cutting.{each_field}
use Rattle.tags.specs.Steps.Faults.{fault_in}
use Rattle.tags.specs.Steps.Fields.{fields_of}
use Rattle.tags.specs.Steps.Gathering.{gathered, gathered_in}
use Rattle.tags.specs.Views.{field_value}
use Rattle.tags.proofs.FieldLemmas.{fields_of-gathered, gathered-end, good_escape}
use Rattle.tags.proofs.fields.gather.Goals as goal

pub loop-rest-init : goal.loop-rest-init
loop-rest-init c = record {
  text = c.requires.text;
  fields = ap (λ xs. gathered true None (map field_value xs) (each_field (option_map (λ bs. bs.now) c.args.fields))) c.new.ensures.items ∙ fields_of-gathered (each_field (option_map (λ bs. bs.now) c.args.fields));
}

pub add-requires-clause-good : goal.add-requires-clause-good
add-requires-clause-good c =
    let found = c.loop-rest.found in
    let first = ap (λ fields. gathered_in found fields) c.first_field.ensures.value in
    let before : gathered_in found (each_field (Some c.in-Some.bytes.now)) ≡ fields_of (each_field (option_map (λ bs. bs.now) c.args.fields)) = rw c.in-Some.is at c.loop-rest.invariant.fields in
    good_escape (option_map (λ s. string_bytes s) found.kind) (map field_value found.others.items) c.first_field.result.0.now (each_field (option_map (λ bs. bs.now) c.first_field.result.1)) (ap fault_in (sym first ∙ before) ∙ c.requires.good)

pub returns : goal.returns
returns c =
    let found = c.loop-rest.found in
    let before : gathered_in found [] ≡ fields_of (each_field (option_map (λ bs. bs.now) c.args.fields)) = rw c.in_default.is at c.loop-rest.invariant.fields in
    sym before ∙ gathered-end (option_map (λ s. string_bytes s) found.kind) (map field_value found.others.items)
