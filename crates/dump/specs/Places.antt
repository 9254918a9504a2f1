-- Where the ranges of a dump lie, which of them cover a position, and the places of a result
-- (LSIF 0.6.0, "contains", "item"; Language Server Protocol 3.17, "Range": the end is exclusive).
use Rattle.std.specs.Prelude.{◌≡◌, ◌↔◌, ℕ, true, List, [], map, Option, Some, None, Contains}
use Rattle.std.specs.List.{flat_map}
use Rattle.std.specs.declared.cmp.Ordering.{Ordering}
use Rattle.std.specs.Ordering.{nat_cmp, ordering_then}
use Rattle.std.specs.Cmp.Lexicographic.{slice_cmp}
use Rattle.std.specs.List.Sorted.{IsStrictlySortedBy}
use Rattle.positions.specs.Position.{PositionValue}
use Rattle.positions.specs.Span.{SpanValue, Covers}
use Rattle.lsif.specs.Element.{IdValue, document, range, ItemValue, item, ElementValue, vertex, edge}
use Rattle.lsif.specs.declared.element.Property.{Property}
use Rattle.lsif.specs.declared.element.Property.TheVariants as properties
use Rattle.dump.specs.Graph.{vertex_at}
use Rattle.dump.specs.Contained.{is_in}
use Rattle.dump.specs.declared.role.Role.{Role}
use Rattle.dump.specs.declared.role.Role.TheVariants as roles
use Rattle.dump.specs.Walks.{Pair, Path}

-- a place in a document: the document's serialized URL, and a span of it
pub record PlaceValue : Type 0 where
  pub uri : List ℕ
  pub span : SpanValue

-- the dump has a document of this uri
abbrev pub HasDocument : List ElementValue → List ℕ → Type 0
HasDocument elements uri = (d : IdValue) × (vertex_at elements d ≡ Some (document uri))

-- the range lies at this place: a document of the uri contains it, and the span is its own
pub record IsAt (elements : List ElementValue) (r : IdValue) (place : PlaceValue) : Type 0 where
  pub container : IdValue
  pub uri : vertex_at elements container ≡ Some (document place.uri)
  pub contained : is_in elements container r ≡ true
  pub span : vertex_at elements r ≡ Some (range place.span)

-- the range, with its span, lies in a document of the uri and covers the position
abbrev pub IsCovering : List ElementValue → List ℕ → PositionValue → IdValue → SpanValue → Type 0
IsCovering elements uri position r span = IsAt elements r (record { uri = uri; span = span }) × Covers span position

-- what the ranges that an `item` edge has as its targets are to its source: an absent property
-- counts as "definitions"; with "referenceResults" the targets are no ranges
abbrev pub role_of : Option Property → Option Role
role_of None = Some roles.Definitions
role_of (Some properties.Definitions) = Some roles.Definitions
role_of (Some properties.References) = Some roles.References
role_of (Some properties.ReferenceResults) = None

-- an `item` edge joins the result to the range, in one of these roles
pub record IsItem (in_roles : List Role) (elements : List ElementValue) (result r : IdValue) : Type 0 where
  pub id : IdValue
  pub joining : ItemValue
  pub role : Role
  pub is_there : Contains elements (edge id (item joining))
  pub source : joining.source ≡ result
  pub has_role : role_of joining.property ≡ Some role
  pub is_asked : Contains in_roles role
  pub target : Contains joining.targets r

-- the source with each target of an `item` edge, where these are results
abbrev pub joined_results : ItemValue → Option Property → List Pair
joined_results e (Some properties.ReferenceResults) = map (λ to. (e.source, to)) e.targets
joined_results e (Some p) = []
joined_results e None = []

abbrev pub result_pairs_of : ElementValue → List Pair
result_pairs_of (edge i (item e)) = joined_results e e.property
result_pairs_of (edge i e) = []
result_pairs_of (vertex i v) = []

-- the results that `item` edges with "referenceResults" join
abbrev pub result_pairs : List ElementValue → List Pair
result_pairs elements = flat_map result_pairs_of elements

-- the place of a range that an `item` edge joins to the result, in one of these roles
abbrev pub IsItemPlace : List Role → List ElementValue → IdValue → PlaceValue → Type 0
IsItemPlace in_roles elements result place = (r : IdValue) × IsItem in_roles elements result r × IsAt elements r place

-- the places of a result, in these roles: its own, and those of the results that it leads to
abbrev pub Places : List Role → List ElementValue → IdValue → PlaceValue → Type 0
Places in_roles elements result place = (other : IdValue) × Path (result_pairs elements) result other × IsItemPlace in_roles elements other place

abbrev pub position_cmp : PositionValue → PositionValue → Ordering
position_cmp p q = ordering_then (nat_cmp p.line q.line) (nat_cmp p.character q.character)

-- by uri (its bytes), then start, then end
abbrev pub place_cmp : PlaceValue → PlaceValue → Ordering
place_cmp a b =
    ordering_then (slice_cmp nat_cmp a.uri b.uri)
    (ordering_then (position_cmp a.span.start b.span.start) (position_cmp a.span.«end» b.span.«end»))

-- the list of a set: in order, each member once
pub record IsListing {X : Type 0} (cmp : X → X → Ordering) (P : X → Type 0) (xs : List X) : Type 0 where
  pub rises : IsStrictlySortedBy cmp xs
  pub each : (x : X) → Contains xs x ↔ P x
