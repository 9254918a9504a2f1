use Rattle.std.proofs.Common.{◌≤◌, length}
use Rattle.dump.proofs.sorted_spans.staying.Given as goal

abbrev pub invariant-loop-count : goal.invariant-loop-count
invariant-loop-count l = l.count ≤ length l.lists

abbrev pub decreases-loop-count : goal.decreases-loop-count
decreases-loop-count l = l.count
