use Rattle.std.proofs.Common.{◌≡◌, ℕ, ◌≤◌, ◌<◌, false}
use Rattle.std.specs.List.{slice_index_or}
use Rattle.positions.specs.Position.{is_before}
use Rattle.positions.specs.Span.{SpanValue}
use Rattle.dump.proofs.sorted_spans.reaching.Given as goal

abbrev pub invariant-loop-at : goal.invariant-loop-at
invariant-loop-at l = record {
  bound : l.at ≤ l.count;
  over : (k : ℕ) (d : SpanValue) → l.at ≤ k → k < l.count → is_before l.position (slice_index_or l.spans k d).«end» ≡ false;
}

abbrev pub decreases-loop-at : goal.decreases-loop-at
decreases-loop-at l = l.at
