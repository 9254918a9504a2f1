use Rattle.std.proofs.Common.{◌≡◌, ◌++◌, ◌+◌, ◌-◌, ◌≤◌, ◌<◌, false, length, take, IsPermutation}
use Rattle.std.specs.List.{slice_index_or}
use Rattle.std.specs.Ordering.{is_lt}
use Rattle.positions.specs.Span.{SpanValue}
use Rattle.dump.specs.Steps.Spans.{span_order, IsOrdered}
use Rattle.dump.proofs.spans.merge.Given as goal

-- what is merged so far, and that nothing left comes before its last span
abbrev pub invariant-loop-i : goal.invariant-loop-i
invariant-loop-i l = record {
  first_bound : l.i ≤ length l.first;
  second_bound : l.j ≤ length l.second;
  all : IsPermutation (take l.i l.first ++ take l.j l.second) l.spans.items;
  ordered : IsOrdered l.spans.items;
  first_left : (d : SpanValue) → 0 < length l.spans.items → l.i < length l.first → is_lt (span_order (slice_index_or l.first l.i d) (slice_index_or l.spans.items (length l.spans.items - 1) d)) ≡ false;
  second_left : (d : SpanValue) → 0 < length l.spans.items → l.j < length l.second → is_lt (span_order (slice_index_or l.second l.j d) (slice_index_or l.spans.items (length l.spans.items - 1) d)) ≡ false;
}

abbrev pub decreases-loop-i : goal.decreases-loop-i
decreases-loop-i l = (length l.first - l.i) + (length l.second - l.j)
