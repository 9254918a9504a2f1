use Rattle.std.proofs.Common.{map}
use Rattle.flatten.specs.Steps.Parents.{interval_value}
use Rattle.flatten.proofs.OpenIntervals.{IsAbove, weight}
use Rattle.flatten.proofs.parents.enclosing.Given as goal

abbrev pub invariant-loop-open : goal.invariant-loop-open
invariant-loop-open l =
    IsAbove (map interval_value l.intervals) l.index l.open

abbrev pub decreases-loop-open : goal.decreases-loop-open
decreases-loop-open l = weight l.open
