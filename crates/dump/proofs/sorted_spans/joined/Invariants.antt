use Rattle.std.proofs.Common.{◌++◌, ◌≤◌, length, drop, IsPermutation}
use Rattle.dump.specs.Steps.Spans.{IsOrdered, joined}
use Rattle.dump.proofs.sorted_spans.joined.Given as goal

abbrev pub invariant-loop-count : goal.invariant-loop-count
invariant-loop-count l = record {
  first : l.first ≤ l.count;
  bound : l.count ≤ length l.lists;
  all : IsPermutation (joined (drop l.count l.lists) ++ l.fn.targets.items) l.spans.items;
  ordered : IsOrdered l.spans.items;
}

abbrev pub decreases-loop-count : goal.decreases-loop-count
decreases-loop-count l = l.count
