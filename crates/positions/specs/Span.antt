-- What a span is to a clause, and how spans lie to positions and to each other (Language Server
-- Protocol 3.17, "Range").
use Rattle.std.specs.Prelude.{Bool, not, ◌&&◌}
use Rattle.positions.specs.Position.{PositionValue, is_before, later_of, earlier_of, IsBefore, IsAtOrBefore}

-- the end is exclusive
pub record SpanValue : Type 0 where
  pub start : PositionValue
  pub «end» : PositionValue

-- the position lies in the span
abbrev pub Covers : SpanValue → PositionValue → Type 0
Covers s p = IsAtOrBefore s.start p × IsBefore p s.«end»

-- the first span lies in the second
abbrev pub Nests : SpanValue → SpanValue → Type 0
Nests s t = IsAtOrBefore t.start s.start × IsAtOrBefore s.«end» t.«end»

-- ---- the same as tests

-- the start isn't after the end
abbrev pub is_span : PositionValue → PositionValue → Bool
is_span start last = not (is_before last start)

abbrev pub covers : SpanValue → PositionValue → Bool
covers s p = not (is_before p s.start) && is_before p s.«end»

abbrev pub nests : SpanValue → SpanValue → Bool
nests s t = not (is_before s.start t.start) && not (is_before t.«end» s.«end»)

-- the greater start is before the lesser end
abbrev pub overlaps : SpanValue → SpanValue → Bool
overlaps s t = is_before (later_of s.start t.start) (earlier_of s.«end» t.«end»)
