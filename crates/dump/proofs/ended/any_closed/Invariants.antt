use Rattle.std.proofs.Common.{◌≡◌}
use Rattle.std.specs.List.{list_any}
use Rattle.dump.specs.Ended.{is_closed}
use Rattle.dump.proofs.ended.any_closed.Given as goal

abbrev pub invariant-loop-range : goal.invariant-loop-range
invariant-loop-range l = list_any (is_closed l.graph) l.range-iterator ≡ list_any (is_closed l.graph) l.fn.ranges
