use Rattle.std.proofs.Common.{◌∙◌, sym}
use Rattle.http_edge.specs.Steps.Fields.{field_values_of}
use Rattle.http_edge.proofs.FieldLemmas.{find_step, find_skip, find_end}
use Rattle.http_edge.proofs.fields.field_values.Goals as goal

pub loop-header-preserved : goal.loop-header-preserved
loop-header-preserved c =
    let step = find_step c.args.head.now c.args.name.now c.args.headers.now c.loop-header.header-index _ (field_values_of c.loop-header.found) _ _
    c.loop-header-test.true c.of.ensures c.of-in-loop-header.ensures (sym c.if-not-is_same_name.ensures) in
    rw c.with_value-found.ensures (step ∙ c.loop-header.invariant)

pub returns : goal.returns
returns c = sym (find_end c.args.head.now c.args.name.now c.args.headers.now c.loop-header.header-index (field_values_of c.loop-header.found) c.loop-header-test.false) ∙ c.loop-header.invariant

pub loop-header-preserved-then-not-is_same_name : goal.loop-header-preserved-then-not-is_same_name
loop-header-preserved-then-not-is_same_name c =
    find_skip c.args.head.now c.args.name.now c.args.headers.now c.loop-header.header-index _ (field_values_of c.loop-header.found) _
    c.loop-header-test.true c.of.ensures (sym c.if-not-is_same_name.ensures) ∙ c.loop-header.invariant
