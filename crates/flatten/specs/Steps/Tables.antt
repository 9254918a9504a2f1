-- What elements say by themselves, in tables that lead from numbers to it.
use Rattle.std.specs.Prelude.{◌↔◌, ◌⊎◌, ℕ, List, ◌∷◌, map, Option, Some, None, Contains, option_map, option_and_then}
use Rattle.positions.specs.Span.{SpanValue}
use Rattle.lsif.specs.Element.{IdValue, VertexValue, document, range, ElementValue}
use Rattle.dump.specs.Graph.{vertex_at}
use Rattle.dump.specs.Contained.{container}
use Rattle.dump.specs.Places.{PlaceValue}

-- a table has what an element says at the element's number; nothing has the number 0
abbrev pub table_of : {X : Type 0} → (ElementValue → Option X) → List ElementValue → List (Option X)
table_of say elements = None ∷ map say elements

-- ---- places

abbrev pub uri_of : Option VertexValue → Option (List ℕ)
uri_of (Some (document uri)) = Some uri
uri_of (Some v) = None
uri_of None = None

abbrev pub place_with : SpanValue → List ℕ → PlaceValue
place_with span uri = record { uri = uri; span = span }

-- the uri of the document that contains the range
abbrev pub container_uri : List ElementValue → IdValue → Option (List ℕ)
container_uri elements r = option_and_then (λ d. uri_of (vertex_at elements d)) (container elements r)

abbrev pub place_by : List ElementValue → IdValue → Option VertexValue → Option PlaceValue
place_by elements x (Some (range span)) = option_map (place_with span) (container_uri elements x)
place_by elements x (Some v) = None
place_by elements x None = None

-- where the vertex is a range that a document contains: its place
abbrev pub place_of : List ElementValue → IdValue → Option PlaceValue
place_of elements x = place_by elements x (vertex_at elements x)

-- ---- rows that are added

-- the rows that were there, and those with the property
abbrev pub Adds : {R : Type 0} → List R → (R → Type 0) → List R → Type 0
Adds old P new = (row : _) → Contains new row ↔ (Contains old row ⊎ P row)

-- the property, of one of these
abbrev pub OfOne : {X R : Type 0} → (X → R → Type 0) → List X → R → Type 0
OfOne {X} P xs row = (x : X) × Contains xs x × P x row
