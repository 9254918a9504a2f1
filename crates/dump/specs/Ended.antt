-- Which documents have begun and ended (LSIF 0.6.0, "Events": what ends is not named any more).
use Rattle.std.specs.Prelude.{◌&&◌, ◌||◌, Bool, false, not, List, Some, None}
use Rattle.std.specs.List.{list_any}
use Rattle.lsif.specs.Element.{IdValue, same_id, EventValue, begin_event, end_event, other_event, event, ElementValue, vertex, edge}
use Rattle.dump.specs.Contained.{contains_of}
use Rattle.dump.specs.Graph.{vertex_at, is_among, ends}
use Rattle.dump.specs.Kinds.{is_document}

-- the element is the event that this document begins
abbrev pub begins : IdValue → ElementValue → Bool
begins d (vertex i (event (begin_event e))) = same_id e d
begins d (vertex i v) = false
begins d (edge i e) = false

abbrev pub has_begun : List ElementValue → IdValue → Bool
has_begun elements d = list_any (begins d) elements

-- the element is the event that this document ends
abbrev pub finishes : IdValue → ElementValue → Bool
finishes d (vertex i (event (end_event e))) = same_id e d
finishes d (vertex i v) = false
finishes d (edge i e) = false

abbrev pub has_ended : List ElementValue → IdValue → Bool
has_ended elements d = list_any (finishes d) elements

-- a document begins once, and ends once after it began
abbrev pub may_not_happen : List ElementValue → EventValue → Bool
may_not_happen before (begin_event d) = not (is_document (vertex_at before d)) || has_begun before d
may_not_happen before (end_event d) = not (is_document (vertex_at before d)) || has_ended before d || not (has_begun before d)
may_not_happen before other_event = false

-- L17: the event isn't of an earlier document, comes a second time, or is an end without a begin
abbrev pub is_bad_event : List ElementValue → ElementValue → Bool
is_bad_event before (vertex i (event e)) = may_not_happen before e
is_bad_event before (vertex i v) = false
is_bad_event before (edge i e) = false

-- the element is a `contains` edge out of a document that has ended, and names the range
abbrev pub closes_range : List ElementValue → IdValue → ElementValue → Bool
closes_range elements r x = elim (contains_of x) as (λ _. Bool) [ Some e ↦ is_among r e.1 && has_ended elements e.0 | None ↦ false ]

-- a document that has ended contains the range
unfoldable pub is_closed : List ElementValue → IdValue → Bool
is_closed elements r = list_any (closes_range elements r) elements

-- a `contains` edge leaves a document that has ended
abbrev pub leaves_ended : List ElementValue → ElementValue → Bool
leaves_ended before x = elim (contains_of x) as (λ _. Bool) [ Some e ↦ has_ended before e.0 | None ↦ false ]

-- L18: a `contains` edge leaves a document that has ended, or an end of any edge is a range that
-- one contains
abbrev pub is_late : List ElementValue → ElementValue → Bool
is_late before x = leaves_ended before x || list_any (is_closed before) (ends x)
