use Rattle.std.proofs.Common.{◌≡◌}
use Rattle.dump.proofs.Graphs.{fault_from}
use Rattle.dump.specs.Progress.{end_fault_from}
use Rattle.dump.proofs.order.end_fault.Given as goal

abbrev pub invariant-loop-k : goal.invariant-loop-k
invariant-loop-k l = fault_from l.graph l.elements l.k ≡ end_fault_from l.graph 0 l.graph
