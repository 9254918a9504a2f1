use Rattle.std.proofs.Common.{◌≡◌}
use Rattle.std.specs.List.{list_any}
use Rattle.dump.specs.Contained.{is_contained}
use Rattle.dump.proofs.contained.any_contained.Given as goal

abbrev pub invariant-loop-range : goal.invariant-loop-range
invariant-loop-range l = list_any (is_contained l.graph) l.range-iterator ≡ list_any (is_contained l.graph) l.fn.ranges
