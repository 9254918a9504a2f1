use Rattle.std.proofs.Common.{◌∙◌, sym}
use Rattle.http_edge.specs.Steps.Parameters.{found_values}
use Rattle.http_edge.proofs.PairLemmas.{values_step, values_end}
use Rattle.http_edge.proofs.parameters.value_in.Goals as goal

pub loop-pair-preserved : goal.loop-pair-preserved
loop-pair-preserved c =
    rw c.with_parameter-found.ensures
    (values_step c.args.list.now c.args.name.now c.loop-pair.pair-index c.pair-item.result (found_values c.loop-pair.found) c.loop-pair-test.true c.pair-item.is
    ∙ c.loop-pair.invariant)

pub returns : goal.returns
returns c =
    sym (values_end c.args.list.now c.args.name.now c.loop-pair.pair-index (found_values c.loop-pair.found) c.loop-pair-test.false) ∙ c.loop-pair.invariant
