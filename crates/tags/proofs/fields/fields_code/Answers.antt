use Rattle.std.proofs.Common.{◌≡◌, ◌∙◌, [], None, Some, true, refl, sym, ap, option_map}
use Rattle.tags.specs.Steps.Cutting.{each_field}
use Rattle.tags.specs.Steps.Faults.{fault_in}
use Rattle.tags.specs.Steps.Fields.{fields_of}
use Rattle.tags.specs.Steps.Gathering.{Notes, gathered}
use Rattle.tags.proofs.FieldLemmas.{fields_of-gathered, gathered-end, gathered-bad_end}
use Rattle.tags.proofs.fields.fields_code.Goals as goal

pub loop-rest-init : goal.loop-rest-init
loop-rest-init c = (None, [], refl, fields_of-gathered _)

pub loop-rest-preserved : goal.loop-rest-preserved
loop-rest-preserved c =
    let known = c.loop-rest.invariant in
    let before : gathered c.loop-rest.noted.good known.0 known.1 (each_field (Some c.in-Some.bytes.now)) ≡ fields_of (each_field (option_map (λ bs. bs.now) c.args.fields)) = rw c.in-Some.is at known.3 in
    let notes : Notes true c.loop-rest.noted c.add.new.self c.first_field.result.0.now = rw c.if-not-add.false at c.add.ensures in
    let leads = notes known.0 known.1 known.2 in
    (leads.0, leads.1, leads.2, leads.3 _ ∙ sym (ap (gathered c.loop-rest.noted.good known.0 known.1) c.first_field.ensures.value) ∙ before)

pub returns-then-noted : goal.returns-then-noted
returns-then-noted c =
    let known = c.loop-rest.invariant in
    let before : gathered c.loop-rest.noted.good known.0 known.1 [] ≡ fields_of (each_field (option_map (λ bs. bs.now) c.args.fields)) = rw c.in_default.is at known.3 in
    sym (ap fault_in (sym before ∙ ap (λ good. gathered good known.0 known.1 []) c.if-noted.true ∙ gathered-end known.0 known.1))

pub returns-else-noted : goal.returns-else-noted
returns-else-noted c =
    let known = c.loop-rest.invariant in
    let before : gathered c.loop-rest.noted.good known.0 known.1 [] ≡ fields_of (each_field (option_map (λ bs. bs.now) c.args.fields)) = rw c.in_default.is at known.3 in
    sym (ap fault_in (sym before ∙ ap (λ good. gathered good known.0 known.1 []) c.if-noted.false ∙ gathered-bad_end known.0 known.1))
