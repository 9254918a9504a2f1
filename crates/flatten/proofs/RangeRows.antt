-- The rows of ranges and of bearers: one for each range, and one for each mark.
use Rattle.std.proofs.Common.{◌≡◌, ◌⊎◌, inl, inr, ◌∙◌, ◌+◌, ℕ, Bool, true, false, not, List, [], ◌∷◌, map, refl, sym, ap, subst, arith}
use Rattle.std.specs.Prelude.{◌↔◌, ◌&&◌, ◌||◌, Contains, IfSome, IfNone, Option, Some, None, Ok, option_map, option_and_then, slice_get}
use Rattle.std.specs.List.{All, flat_map}
use Rattle.positions.specs.Position.{PositionValue, IsBefore, is_before}
use Rattle.positions.specs.Span.{SpanValue, Nests, nests, overlaps}
use Rattle.lsif.specs.Element.{IdValue, VertexValue, meta_data, project, document, range, result_set, request_result, hover_result, moniker, package_information, event, other_vertex, ElementValue, vertex, edge}
use Rattle.lsif.specs.declared.request_kind.RequestKind.{RequestKind}
use Rattle.dump.specs.Fault.{IsFaultless}
use Rattle.dump.specs.Graph.{line_of, vertex_at}
use Rattle.dump.specs.Contained.{IsNested, container, is_in}
use Rattle.dump.specs.Places.{PlaceValue, IsAt, IsListing}
use Rattle.dump.specs.Requests.{First}
use Rattle.std.specs.Ordering.{nat_cmp}
use Rattle.flatten.specs.Flat.{HasEachRange, RangeRowValue, ResultsValue, AreResults, IsParent, IsRangeRow, LiesIn, by_line, number_of}
use Rattle.flatten.specs.Steps.Parents.{AreParents}
use Rattle.flatten.specs.Steps.Ranges.{IsFoundRange, line_with, range_lines}
use Rattle.flatten.specs.Steps.Tables.{container_uri, uri_of}
use Rattle.streams.proofs.Members.{flat_from, map_source, one_contains}
use Rattle.flatten.proofs.Listing.{keyed_listing}
use Rattle.flatten.proofs.NumberPairs.{AreOnes}
use Rattle.flatten.proofs.Rising.{SaysNumber, rises}

-- a vertex has one first result for a request
abbrev pub AreFirsts : List ElementValue → Type 0
AreFirsts elements = (request : RequestKind) (x : IdValue) (found other : Option IdValue) → First request elements x found → First request elements x other → found ≡ other

pub results_one : (elements : List ElementValue) → AreFirsts elements → (x : IdValue) (r s : ResultsValue) → AreResults elements x r → AreResults elements x s → r ≡ s
results_one elements firsts x r s f g = λ i request. one request i
  where
    one : (request : RequestKind) → r request ≡ s request
    one request = (f request).2 ∙ ap (option_and_then (number_of elements)) (firsts request x (f request).0 (g request).0 (f request).1 (g request).1) ∙ sym (g request).2

-- ---- one parent

false_of : (b : Bool) → (b ≡ true → ⊥) → b ≡ false
false_of true h = absurd (h refl)
false_of false h = refl

before_of : (p q : PositionValue) → is_before p q ≡ true → IsBefore p q
before_of p q e = grind arith

nests_of : (s t : SpanValue) → Nests s t → nests s t ≡ true
nests_of s t h =
    let a = false_of (is_before s.start t.start) (λ e. h.0 (before_of s.start t.start e)) in
    let b = false_of (is_before t.«end» s.«end») (λ e. h.1 (before_of t.«end» s.«end» e)) in
    rw (a, b) refl

span_is : (s t : SpanValue) → ◌≡◌ {A = Option VertexValue} (Some (range s)) (Some (range t)) → s ≡ t
span_is s t e = cc

both_conflict : (n m o : Bool) → n ≡ true → m ≡ true → ((n && m) || (o && not n && not m)) ≡ true
both_conflict true true o e f = refl
both_conflict true false o e f = cc
both_conflict false m o e f = cc

around_both : (elements : List ElementValue) → IsNested elements → (p q : IdValue) → LiesIn elements p q → LiesIn elements q p → ⊥
around_both elements nested p q a b =
    let inner : b.around ≡ a.span = span_is b.around a.span (sym b.is_outer ∙ a.is_inner) in
    let outer : b.span ≡ a.around = span_is b.span a.around (sym b.is_inner ∙ a.is_outer) in
    let back : Nests a.around a.span = subst (λ s. Nests s a.span) outer (subst (λ s. Nests b.span s) inner b.nests) in
    let clear = nested a.document p q a.span a.around a.contained a.beside a.is_inner a.is_outer a.others in
    let both = both_conflict (nests a.span a.around) (nests a.around a.span) (overlaps a.span a.around) (nests_of a.span a.around a.nests) (nests_of a.around a.span back) in
    let t : true ≡ false = sym both ∙ clear in cc

pub parent_one : (elements : List ElementValue) → IsNested elements → (r : IdValue) (a b : Option ℕ) → IsParent elements r a → IsParent elements r b → a ≡ b
parent_one elements nested r None None f g = refl
parent_one elements nested r (Some m) None f g = absurd (g f.0 f.2)
parent_one elements nested r None (Some n) f g = absurd (f g.0 g.2)
parent_one elements nested r (Some m) (Some n) f g = elim (f.3 g.0 g.2) [
  | inl same ↦ sym f.1 ∙ ap (number_of elements) (sym same) ∙ g.1
  | inr more ↦ elim (g.3 f.0 f.2) [
    | inl same ↦ sym f.1 ∙ ap (number_of elements) same ∙ g.1
    | inr other ↦ absurd (around_both elements nested f.0 g.0 more other)
  ]
]

parent_is : (d : List ElementValue) (pairs : List (ℕ × ℕ)) → AreParents d pairs → (r : IdValue) (span : SpanValue) (n : ℕ) → vertex_at d r ≡ Some (range span) → number_of d r ≡ Some n → (o : Option ℕ) → IfSome o (λ m. Contains pairs (n, m)) → IfNone o ((m : ℕ) → Contains pairs (n, m) → ⊥) → IsParent d r o
parent_is d pairs are r span n is at (Some m) some none = are.some r span n m is at some
parent_is d pairs are r span n is at None some none = are.none r span n is at none

-- the row of a range that was found, with what a pair leads to as its parent
pub row_is : (d : List ElementValue) (pairs : List (ℕ × ℕ)) → AreParents d pairs → (row : RangeRowValue) → IsFoundRange d row → IfSome row.parent (λ m. Contains pairs (row.line, m)) → IfNone row.parent ((m : ℕ) → Contains pairs (row.line, m) → ⊥) → IsRangeRow d row
row_is d pairs are row f some none = record {
  range = f.range;
  at_line = f.at_line;
  is_at = f.is_at;
  is_parent = parent_is d pairs are f.range row.place.span row.line f.is_at.span f.at_line row.parent some none;
  are_results = f.are_results;
}

-- ---- places

uri_is : (o : Option VertexValue) (uri : List ℕ) → uri_of o ≡ Some uri → o ≡ Some (document uri)
uri_is None uri e = cc
uri_is (Some (document u)) uri e = let same : u ≡ uri = cc in ap (λ v. Some (document v)) same
uri_is (Some (meta_data b)) uri e = cc
uri_is (Some project) uri e = cc
uri_is (Some (range s)) uri e = cc
uri_is (Some result_set) uri e = cc
uri_is (Some (request_result kind)) uri e = cc
uri_is (Some (hover_result t)) uri e = cc
uri_is (Some (moniker m)) uri e = cc
uri_is (Some (package_information p)) uri e = cc
uri_is (Some (event v)) uri e = cc
uri_is (Some other_vertex) uri e = cc

abbrev pub HasContainers : List ElementValue → Type 0
HasContainers elements = (d r : IdValue) → (is_in elements d r ≡ true) ↔ (container elements r ≡ Some d)

module _ (elements : List ElementValue) (containers : HasContainers elements) where
  at_by : (r : IdValue) (uri : List ℕ) (span : SpanValue) (o : Option IdValue) → container elements r ≡ o → option_and_then (λ d. uri_of (vertex_at elements d)) o ≡ Some uri → vertex_at elements r ≡ Some (range span) → IsAt elements r (record { uri = uri; span = span })
  at_by r uri span None held e is = cc
  at_by r uri span (Some d) held e is = record { container = d; uri = uri_is (vertex_at elements d) uri e; contained = (containers d r).1 held; span = is }

  -- the place of a range that a document of this uri contains
  pub at_of : (r : IdValue) (uri : List ℕ) (span : SpanValue) → container_uri elements r ≡ Some uri → vertex_at elements r ≡ Some (range span) → IsAt elements r (record { uri = uri; span = span })
  at_of r uri span e is = at_by r uri span (container elements r) refl e is

  pub uri_of_at : (r : IdValue) (place : PlaceValue) → IsAt elements r place → container_uri elements r ≡ Some place.uri
  uri_of_at r place at = ap (option_and_then (λ d. uri_of (vertex_at elements d))) ((containers at.container r).0 at.contained) ∙ ap uri_of at.uri

  pub place_one : (r : IdValue) (a b : PlaceValue) → IsAt elements r a → IsAt elements r b → a ≡ b
  place_one r a b f g =
      let uris : ◌≡◌ {A = Option (List ℕ)} (Some a.uri) (Some b.uri) = sym (uri_of_at r a f) ∙ uri_of_at r b g in
      let uri : a.uri ≡ b.uri = cc in
      let span : a.span ≡ b.span = span_is a.span b.span (sym f.span ∙ g.span) in
      λ i. record { uri = uri i; span = span i }

  -- ---- the rows of ranges

  module _ (ones : AreOnes elements) (firsts : AreFirsts elements) (nested : IsNested elements) where
    row_one : (r s : RangeRowValue) → IsRangeRow elements r → IsRangeRow elements s → r.line ≡ s.line → r ≡ s
    row_one r s f g line =
        let same : g.range ≡ f.range = ones g.range f.range s.line g.at_line (f.at_line ∙ ap (λ n. Some n) line) in
        let place = place_one f.range r.place s.place f.is_at (subst (λ x. IsAt elements x s.place) same g.is_at) in
        let parent = parent_one elements nested f.range r.parent s.parent f.is_parent (subst (λ x. IsParent elements x s.parent) same g.is_parent) in
        let results = results_one elements firsts f.range r.results s.results f.are_results (subst (λ x. AreResults elements x s.results) same g.are_results) in
        λ i. record { line = line i; place = place i; parent = parent i; results = results i }

    pub range_listing : IsFaultless (map Ok elements) → ((i : IdValue) (v : VertexValue) → vertex_at elements i ≡ Some v ↔ Contains elements (vertex i v)) → (rows : List RangeRowValue) → map (λ r. r.line) rows ≡ flat_map (range_lines elements) elements
        → All (IsRangeRow elements) rows → IsListing by_line (IsRangeRow elements) rows
    range_listing free vertices rows lines all =
        keyed_listing (λ (r : RangeRowValue). r.line) nat_cmp (IsRangeRow elements) (Contains (flat_map (range_lines elements) elements)) rows
        (subst (IsListing nat_cmp (Contains (flat_map (range_lines elements) elements))) (sym lines) (record { rises = rises elements (range_lines elements) free says; each = λ n. (λ at. at, λ at. at) }))
        all listed row_one
      where
        line_says : (i : IdValue) (a : Option ℕ) (b : Option (List ℕ)) → number_of elements i ≡ a → (line_with a b ≡ []) ⊎ ((n : ℕ) × (number_of elements i ≡ Some n) × (line_with a b ≡ n ∷ []))
        line_says i None b e = inl refl
        line_says i (Some n) None e = inl refl
        line_says i (Some n) (Some uri) e = inr (n, e, refl)

        says : SaysNumber elements (range_lines elements)
        says (vertex i (range s)) = line_says i (number_of elements i) (container_uri elements i) refl
        says (vertex i (document u)) = inl refl
        says (vertex i (meta_data b)) = inl refl
        says (vertex i project) = inl refl
        says (vertex i result_set) = inl refl
        says (vertex i (request_result kind)) = inl refl
        says (vertex i (hover_result t)) = inl refl
        says (vertex i (moniker m)) = inl refl
        says (vertex i (package_information p)) = inl refl
        says (vertex i (event v)) = inl refl
        says (vertex i other_vertex) = inl refl
        says (edge i e) = inl refl

        listed : (r : RangeRowValue) → IsRangeRow elements r → Contains (flat_map (range_lines elements) elements) r.line
        listed r h = flat_from (range_lines elements) elements (vertex h.range (range r.place.span)) r.line ((vertices h.range (range r.place.span)).0 h.is_at.span)
            (subst (λ l. Contains l r.line) (sym (ap (λ a. line_with a (container_uri elements h.range)) h.at_line ∙ ap (line_with (Some r.line)) (uri_of_at h.range r.place h.is_at))) (one_contains r.line r.line refl))

  -- each range that a document contains has a row
  pub has_each : ((i : IdValue) (v : VertexValue) → vertex_at elements i ≡ Some v → (k : ℕ) × (line_of elements i ≡ Some k) × (slice_get elements k ≡ Some (vertex i v))) → ((i : IdValue) (v : VertexValue) → vertex_at elements i ≡ Some v ↔ Contains elements (vertex i v))
      → (rows : List RangeRowValue) → map (λ r. r.line) rows ≡ flat_map (range_lines elements) elements → HasEachRange elements rows
  has_each there vertices rows lines = record {
    row_of = λ r place at.
        let k = there r (range place.span) at.span in
        let number : number_of elements r ≡ Some (k.0 + 1) = ap (option_map (λ n. n + 1)) k.1 in
        let one = subst (λ l. Contains l (k.0 + 1)) (sym (ap (λ a. line_with a (container_uri elements r)) number ∙ ap (line_with (Some (k.0 + 1))) (uri_of_at r place at))) (one_contains (k.0 + 1) (k.0 + 1) refl) in
        let listed = flat_from (range_lines elements) elements (vertex r (range place.span)) (k.0 + 1) ((vertices r (range place.span)).0 at.span) one in
        let row = map_source (λ (x : RangeRowValue). x.line) rows (k.0 + 1) (subst (λ l. Contains l (k.0 + 1)) (sym lines) listed) in
        (row.0, row.1, number ∙ ap (λ n. Some n) (sym row.2));
  }
