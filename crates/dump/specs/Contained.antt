-- Which ranges the documents of a dump contain (LSIF 0.6.0, "contains").
use Rattle.std.specs.Prelude.{◌≡◌, ◌&&◌, ◌||◌, Bool, true, false, not, Option, Some, None, List, [], ◌∷◌, option_and_then, option_map, find, if◌then◌else◌}
use Rattle.std.specs.List.{list_any, filter_map, flat_map}
use Rattle.positions.specs.Span.{SpanValue, nests, overlaps}
use Rattle.lsif.specs.Element.{IdValue, same_id, range, contains, ElementValue, vertex, edge}
use Rattle.dump.specs.Graph.{vertex_at, is_among, span_of}
use Rattle.dump.specs.Kinds.{is_document}

-- the source and the targets of a `contains` edge
abbrev pub contains_of : ElementValue → Option (IdValue × List IdValue)
contains_of (edge i (contains from to)) = Some (from, to)
contains_of (edge i e) = None
contains_of (vertex i v) = None

-- the element is a `contains` edge out of a document that names the range
abbrev pub contains_range : List ElementValue → IdValue → ElementValue → Bool
contains_range elements r x = elim (contains_of x) as (λ _. Bool) [ Some e ↦ is_document (vertex_at elements e.0) && is_among r e.1 | None ↦ false ]

-- a document contains the range
abbrev pub is_contained : List ElementValue → IdValue → Bool
is_contained elements r = list_any (contains_range elements r) elements

-- the element is a `contains` edge out of this document that names the range
abbrev pub places_range : IdValue → IdValue → ElementValue → Bool
places_range d r x = elim (contains_of x) as (λ _. Bool) [ Some e ↦ same_id e.0 d && is_among r e.1 | None ↦ false ]

-- this document contains the range
abbrev pub is_in : List ElementValue → IdValue → IdValue → Bool
is_in elements d r = is_document (vertex_at elements d) && list_any (places_range d r) elements

-- the source of a `contains` edge
abbrev pub contains_source : ElementValue → Option IdValue
contains_source x = option_map (λ e. e.0) (contains_of x)

-- the document that contains the range: the source of the first `contains` edge out of a document
-- that names it
abbrev pub container : List ElementValue → IdValue → Option IdValue
container elements r = option_and_then contains_source (find (contains_range elements r) elements)

-- the spans of the ranges among these ids
abbrev pub spans_of : List ElementValue → List IdValue → List SpanValue
spans_of elements is = filter_map (λ i. span_of (vertex_at elements i)) is

-- the spans of the ranges that the element, where it's a `contains` edge out of this document,
-- names
abbrev pub spans_named : List ElementValue → IdValue → ElementValue → List SpanValue
spans_named elements d x =
    elim (contains_of x) as (λ _. List SpanValue) [ Some e ↦ if same_id e.0 d then spans_of elements e.1 else [] | None ↦ [] ]

-- the spans of the ranges that the document contains
abbrev pub spans_in : List ElementValue → IdValue → List SpanValue
spans_in elements d = flat_map (spans_named elements d) elements

-- equal, or overlapping with neither nested in the other
abbrev pub conflicts : SpanValue → SpanValue → Bool
conflicts s t = (nests s t && nests t s) || (overlaps s t && not (nests s t) && not (nests t s))

-- a span of the first list conflicts with one of the second
abbrev pub any_conflicts : List SpanValue → List SpanValue → Bool
any_conflicts ss ts = list_any (λ s. list_any (conflicts s) ts) ss

-- two spans of the list conflict
abbrev pub has_conflict : List SpanValue → Bool
has_conflict [] = false
has_conflict (s ∷ ss) = list_any (conflicts s) ss || has_conflict ss

-- two ranges that one document contains don't conflict
abbrev pub IsNested : List ElementValue → Type 0
IsNested elements = (d r s : IdValue) (e f : SpanValue)
    → is_in elements d r ≡ true → is_in elements d s ≡ true
    → vertex_at elements r ≡ Some (range e) → vertex_at elements s ≡ Some (range f)
    → (r ≡ s → ⊥) → conflicts e f ≡ false
