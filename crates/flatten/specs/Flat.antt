-- The rows of a dump: what its walks lead to, said for each document, range, result and vertex with
-- monikers by itself (LSIF 0.6.0, "Ranges", "Request", "item", "Multiple Projects").
use Rattle.std.specs.Prelude.{◌≡◌, ◌≢◌, ◌⊎◌, ℕ, ◌+◌, Bool, true, false, List, [], ◌∷◌, Option, Some, None, option_map, option_and_then, Contains}
use Rattle.std.specs.declared.cmp.Ordering.{Ordering}
use Rattle.std.specs.Ordering.{nat_cmp, ordering_then}
use Rattle.std.specs.Cmp.Lexicographic.{slice_cmp}
use Rattle.positions.specs.Position.{IsBefore, IsPosition}
use Rattle.positions.specs.Span.{SpanValue, Nests}
use Rattle.lsif.specs.declared.element.MonikerKind.{MonikerKind}
use Rattle.lsif.specs.declared.element.MonikerKind.TheVariants as kinds
use Rattle.lsif.specs.Element.{IdValue, VertexValue, range as range_vertex, request_result, hover_result, ElementValue}
use Rattle.dump.specs.Graph.{line_of, vertex_at}
use Rattle.dump.specs.Contained.{is_in}
use Rattle.dump.specs.Monikers.{MarkValue, Bears, Marks}
use Rattle.dump.specs.Places.{PlaceValue, HasDocument, IsAt, IsListing, Places, place_cmp}
use Rattle.dump.specs.Requests.{First}
use Rattle.lsif.specs.declared.request_kind.RequestKind.{RequestKind}
use Rattle.dump.specs.declared.role.Role.{Role}
use Rattle.dump.specs.declared.role.Role.TheVariants as roles
use Rattle.flatten.specs.KeyTexts.{key_text}

-- the number of a vertex: its line, counted from 1
abbrev pub number_of : List ElementValue → IdValue → Option ℕ
number_of elements i = option_map (λ k. k + 1) (line_of elements i)

-- ---- the results of a vertex

-- the numbers of results, request by request
abbrev pub ResultsValue : Type 0
ResultsValue = RequestKind → Option ℕ

-- the number of the first result that the request finds along the vertex's chain, or none where it
-- finds none
abbrev pub IsResult : List ElementValue → RequestKind → IdValue → Option ℕ → Type 0
IsResult elements request x number = (first : Option IdValue) × First request elements x first × (number ≡ option_and_then (number_of elements) first)

-- those of all requests
abbrev pub AreResults : List ElementValue → IdValue → ResultsValue → Type 0
AreResults elements x results = (request : RequestKind) → IsResult elements request x (results request)

-- ---- the parent of a range

-- the inner range nests in the outer, another of its document; neither is empty, so that the start
-- of each is before its end
pub record LiesIn (elements : List ElementValue) (inner outer : IdValue) : Type 0 where
  pub document : IdValue
  pub span : SpanValue
  pub around : SpanValue
  pub contained : is_in elements document inner ≡ true
  pub beside : is_in elements document outer ≡ true
  pub is_inner : vertex_at elements inner ≡ Some (range_vertex span)
  pub is_outer : vertex_at elements outer ≡ Some (range_vertex around)
  pub filled : IsBefore span.start span.«end»
  pub filled_around : IsBefore around.start around.«end»
  pub others : inner ≢ outer
  pub nests : Nests span around

-- the number of the smallest range that this one lies in, or none where it lies in none
abbrev pub IsParent : List ElementValue → IdValue → Option ℕ → Type 0
IsParent elements r (Some number) =
    (p : IdValue) × (number_of elements p ≡ Some number) × LiesIn elements r p × ((q : IdValue) → LiesIn elements r q → (q ≡ p) ⊎ LiesIn elements p q)
IsParent elements r None = (q : IdValue) → LiesIn elements r q → ⊥

-- ---- ranges

pub record RangeRowValue : Type 0 where
  pub line : ℕ
  pub place : PlaceValue
  pub parent : Option ℕ
  pub results : ResultsValue

-- the row of a range that a document contains
pub record IsRangeRow (elements : List ElementValue) (row : RangeRowValue) : Type 0 where
  pub range : IdValue
  pub at_line : number_of elements range ≡ Some row.line
  pub is_at : IsAt elements range row.place
  pub is_parent : IsParent elements range row.parent
  pub are_results : AreResults elements range row.results

abbrev pub by_line : RangeRowValue → RangeRowValue → Ordering
by_line a b = nat_cmp a.line b.line

-- ---- the items of results

pub record ItemRowValue : Type 0 where
  pub result : ℕ
  pub role : Role
  pub place : PlaceValue

abbrev pub is_result : Option VertexValue → Bool
is_result (Some (request_result kind)) = true
is_result (Some v) = false
is_result None = false

-- the row of a place of a result in a role
pub record IsItemRow (elements : List ElementValue) (row : ItemRowValue) : Type 0 where
  pub result : IdValue
  pub at_line : number_of elements result ≡ Some row.result
  pub is_result : is_result (vertex_at elements result) ≡ true
  pub is_place : Places (row.role ∷ []) elements result row.place

abbrev pub role_index : Role → ℕ
role_index roles.Definitions = 0
role_index roles.References = 1

-- by result, then role, then place
abbrev pub item_cmp : ItemRowValue → ItemRowValue → Ordering
item_cmp a b = ordering_then (nat_cmp a.result b.result) (ordering_then (nat_cmp (role_index a.role) (role_index b.role)) (place_cmp a.place b.place))

-- ---- hovers

pub record HoverRowValue : Type 0 where
  pub result : ℕ
  pub contents : List ℕ

-- the row of a hover result
pub record IsHoverRow (elements : List ElementValue) (row : HoverRowValue) : Type 0 where
  pub result : IdValue
  pub at_line : number_of elements result ≡ Some row.result
  pub is_hover : vertex_at elements result ≡ Some (hover_result row.contents)

abbrev pub by_result : HoverRowValue → HoverRowValue → Ordering
by_result a b = nat_cmp a.result b.result

-- ---- marks and bearers

abbrev pub kind_index : MonikerKind → ℕ
kind_index kinds.Import = 0
kind_index kinds.Export = 1
kind_index kinds.Local = 2

-- by number, then kind, then the text of the key (its bytes)
abbrev pub mark_order : ℕ → MonikerKind → List ℕ → ℕ → MonikerKind → List ℕ → Ordering
mark_order m j s n k t = ordering_then (nat_cmp m n) (ordering_then (nat_cmp (kind_index j) (kind_index k)) (slice_cmp nat_cmp s t))

pub record MarkRowValue : Type 0 where
  pub range : ℕ
  pub kind : MonikerKind
  pub key : List ℕ

-- the row of a mark of a range: of one that the range or another member of its chain has
pub record IsMarkRow (elements : List ElementValue) (row : MarkRowValue) : Type 0 where
  pub range : IdValue
  pub span : SpanValue
  pub mark : MarkValue
  pub at_line : number_of elements range ≡ Some row.range
  pub is_range : vertex_at elements range ≡ Some (range_vertex span)
  pub marks : Marks elements range mark
  pub is_kind : mark.kind ≡ row.kind
  pub is_key : key_text mark.key ≡ row.key

abbrev pub mark_cmp : MarkRowValue → MarkRowValue → Ordering
mark_cmp a b = mark_order a.range a.kind a.key b.range b.kind b.key

pub record BearerRowValue : Type 0 where
  pub line : ℕ
  pub key : List ℕ
  pub kind : MonikerKind
  pub results : ResultsValue

-- the row of a mark that a vertex has itself
pub record IsBearerRow (elements : List ElementValue) (row : BearerRowValue) : Type 0 where
  pub vertex : IdValue
  pub mark : MarkValue
  pub at_line : number_of elements vertex ≡ Some row.line
  pub bears : Bears elements vertex mark
  pub is_kind : mark.kind ≡ row.kind
  pub is_key : key_text mark.key ≡ row.key
  pub are_results : AreResults elements vertex row.results

abbrev pub bearer_cmp : BearerRowValue → BearerRowValue → Ordering
bearer_cmp a b = mark_order a.line a.kind a.key b.line b.kind b.key

-- ---- the rows of a dump

pub record RowsValue : Type 0 where
  pub documents : List (List ℕ)
  pub ranges : List RangeRowValue
  pub items : List ItemRowValue
  pub hovers : List HoverRowValue
  pub marks : List MarkRowValue
  pub bearers : List BearerRowValue

-- the rows have one of each range that a document contains
pub record HasEachRange (elements : List ElementValue) (rows : List RangeRowValue) : Type 0 where
  pub row_of : (r : IdValue) (place : PlaceValue) → IsAt elements r place → (row : RangeRowValue) × Contains rows row × (number_of elements r ≡ Some row.line)

-- The rows are those of the dump, each once: the serialized URLs of the documents; the ranges that
-- they contain, each of them, with place, parent and first results; the places of each result in
-- each role; the contents of each hover result; the marks of each range; and the marks that each
-- vertex has itself, with its first results. What refers to a result or a range has its number.
pub record IsFlat (elements : List ElementValue) (rows : RowsValue) : Type 0 where
  pub documents : IsListing (slice_cmp nat_cmp) (HasDocument elements) rows.documents
  pub ranges : IsListing by_line (IsRangeRow elements) rows.ranges
  pub each_range : HasEachRange elements rows.ranges
  pub items : IsListing item_cmp (IsItemRow elements) rows.items
  pub hovers : IsListing by_result (IsHoverRow elements) rows.hovers
  pub marks : IsListing mark_cmp (IsMarkRow elements) rows.marks
  pub bearers : IsListing bearer_cmp (IsBearerRow elements) rows.bearers

-- the positions of each range are within the limit
abbrev pub HasPositions : List ElementValue → Type 0
HasPositions elements = (r : IdValue) (span : SpanValue) → vertex_at elements r ≡ Some (range_vertex span) → IsPosition span.start × IsPosition span.«end»
