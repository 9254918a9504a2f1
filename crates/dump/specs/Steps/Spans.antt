-- Spans in order, and which of them a later one leaves behind.
use Rattle.std.specs.Prelude.{◌≡◌, ◌⊎◌, ◌-◌, ◌<◌, ◌≤◌, ◌&&◌, ℕ, nat_lt, Bool, true, false, not, List, length, Option, Some, None, IsSorted}
use Rattle.std.specs.List.{flat_map, slice_index_or}
use Rattle.std.specs.declared.cmp.Ordering.{Ordering}
use Rattle.std.specs.Ordering.{ordering_then, is_lt}
use Rattle.positions.specs.Position.{PositionValue, is_before}
use Rattle.positions.specs.Span.{SpanValue}
use Rattle.dump.specs.Contained.{conflicts}
use Rattle.dump.specs.Places.{position_cmp}
use Rattle.dump.specs.declared.sorted_spans.Link.{Link}

-- by the start, and of one start the longer first
abbrev pub span_order : SpanValue → SpanValue → Ordering
span_order s t = ordering_then (position_cmp s.start t.start) (position_cmp t.«end» s.«end»)

-- no span comes before the one that it follows
abbrev pub IsOrdered : List SpanValue → Type 0
IsOrdered = IsSorted span_order

-- of the next spans of two lists, the first list's goes first
abbrev pub goes_first : Option SpanValue → Option SpanValue → Bool
goes_first (Some s) (Some t) = not (is_lt (span_order t s))
goes_first (Some s) None = true
goes_first None t = false

-- the first span doesn't come after the second
abbrev pub goes_by : SpanValue → SpanValue → Bool
goes_by s t = not (is_lt (span_order t s))

-- links lead back
abbrev pub AreBelow : List Link → Type 0
AreBelow links = (i : ℕ) (l : Link) → i < length links → ((slice_index_or links i l).next ≤ i) × ((slice_index_or links i l).jump ≤ i)

-- the spans from a span's link up to it end no later than it; those from the one after its jump up
-- to it end no later than that one
pub record HasLinks (spans : List SpanValue) (links : List Link) : Type 0 where
  pub below : AreBelow links
  pub over : (i k : ℕ) (l : Link) (d : SpanValue) → i < length links → (slice_index_or links i l).next ≤ k → k < i
      → is_before (slice_index_or spans i d).«end» (slice_index_or spans k d).«end» ≡ false
  pub far : (i k : ℕ) (l : Link) (d : SpanValue) → i < length links → 0 < (slice_index_or links i l).jump → (slice_index_or links i l).jump ≤ k → k ≤ i
      → is_before (slice_index_or spans ((slice_index_or links i l).jump - 1) d).«end» (slice_index_or spans k d).«end» ≡ false

-- the jump leads to a span that doesn't end after the position
abbrev pub CanJump : List SpanValue → ℕ → PositionValue → Type 0
CanJump spans jump p = (0 < jump) × ((d : SpanValue) → is_before p (slice_index_or spans (jump - 1) d).«end» ≡ false)

-- a climb goes on at the next of a link, or by its jump, where it can
abbrev pub GoesOn : List SpanValue → Link → PositionValue → ℕ → Type 0
GoesOn spans link p at = (at ≡ link.next) ⊎ ((at ≡ link.jump) × CanJump spans at p)

-- two jumps lead from so many spans to so many
pub record TwoJumps (links : List Link) (next jump : ℕ) : Type 0 where
  pub first : Link
  pub second : Link
  pub some : 0 < next
  pub is_first : first ≡ slice_index_or links (next - 1) first
  pub goes : 0 < first.jump
  pub is_second : second ≡ slice_index_or links (first.jump - 1) second
  pub ends : jump ≡ second.jump

-- the jump of a link to so many spans goes no further, or as far as two jumps from there
abbrev pub JumpsTo : List Link → ℕ → ℕ → Type 0
JumpsTo links next jump = (jump ≡ next) ⊎ TwoJumps links next jump

-- the span conflicts with the last of so many
abbrev pub conflicts_before : List SpanValue → ℕ → SpanValue → Bool
conflicts_before spans count s = nat_lt 0 count && conflicts s (slice_index_or spans (count - 1) s)

-- the spans of all lists
abbrev pub joined : List (List SpanValue) → List SpanValue
joined = flat_map (λ spans. spans)
