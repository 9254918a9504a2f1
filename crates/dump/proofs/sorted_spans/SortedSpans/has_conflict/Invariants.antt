use Rattle.std.proofs.Common.{◌≡◌, ℕ, ◌<◌, false}
use Rattle.std.specs.List.{slice_index_or}
use Rattle.positions.specs.Span.{SpanValue}
use Rattle.dump.specs.Contained.{conflicts}
use Rattle.dump.proofs.sorted_spans.SortedSpans.has_conflict.Given as goal

abbrev pub invariant-loop-count : goal.invariant-loop-count
invariant-loop-count l = (i j : ℕ) (d : SpanValue) → i < j → j < l.count → conflicts (slice_index_or l.self i d) (slice_index_or l.self j d) ≡ false
