use Rattle.lsif.specs.Element.{id_value}
use Rattle.dump.specs.Walks.{single_pairs, next_pairs}
use Rattle.dump.proofs.Chains.{Following}
use Rattle.dump.proofs.walks.first_result.Given as goal

abbrev pub invariant-loop-step : goal.invariant-loop-step
invariant-loop-step l = Following (next_pairs l.graph) (single_pairs l.label l.graph) (id_value l.from) (id_value l.vertex) l._step
