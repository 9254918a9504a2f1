-- Elements looked up by their ids, and what edges join (LSIF 0.6.0, "Vertices", "Edges").
use Rattle.std.specs.Prelude.{◌||◌, ℕ, Bool, false, List, [], ◌∷◌, Option, Some, None, option_and_then, find}
use Rattle.std.specs.List.{list_any, position}
use Rattle.positions.specs.Span.{SpanValue}
use Rattle.lsif.specs.Element.{IdValue, same_id, VertexValue, range, ends_of, ElementValue, vertex, edge, element_id}

-- the element of this id: where no id is used twice there is one at most
unfoldable pub element_at : List ElementValue → IdValue → Option ElementValue
element_at elements i = find (λ x. same_id (element_id x) i) elements

-- the line, counted from 0, of the element of this id
abbrev pub line_of : List ElementValue → IdValue → Option ℕ
line_of elements i = position (λ x. same_id (element_id x) i) elements

abbrev pub vertex_of : ElementValue → Option VertexValue
vertex_of (vertex i v) = Some v
vertex_of (edge i e) = None

-- what the vertex of this id says; none where the id is an edge's, or nobody's
abbrev pub vertex_at : List ElementValue → IdValue → Option VertexValue
vertex_at elements i = option_and_then vertex_of (element_at elements i)

abbrev pub span_of : Option VertexValue → Option SpanValue
span_of (Some (range e)) = Some e
span_of (Some v) = None
span_of None = None

-- the ids that an edge joins: its source and its targets
abbrev pub ends : ElementValue → List IdValue
ends (vertex i v) = []
ends (edge i e) = (ends_of e).0 ∷ (ends_of e).1

abbrev pub is_among : IdValue → List IdValue → Bool
is_among i is = list_any (λ j. same_id j i) is

-- an id is in the list twice
abbrev pub has_repeated : List IdValue → Bool
has_repeated [] = false
has_repeated (i ∷ is) = is_among i is || has_repeated is
