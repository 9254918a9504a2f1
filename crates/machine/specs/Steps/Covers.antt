-- The order in which ranges that cover a position come.
use Rattle.std.specs.declared.cmp.Ordering.{Ordering}
use Rattle.std.specs.Ordering.{ordering_then}
use Rattle.positions.specs.Span.{SpanValue}
use Rattle.dump.specs.Places.{position_cmp}

-- the later start first, and of one start the lesser end
abbrev pub inner_order : SpanValue → SpanValue → Ordering
inner_order s t = ordering_then (position_cmp t.start s.start) (position_cmp s.«end» t.«end»)
