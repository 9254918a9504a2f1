-- The ranges that cover a position have a list, and one of them or none answers a request at the
-- position.
use Rattle.std.proofs.Common.{◌≡◌, ◌&&◌, ⊎_elim, ℕ, true, List, [], ◌∷◌, map, subst, arith}
use Rattle.std.specs.Prelude.{◌↔◌, Contains, Option, Some, None, Ok, if◌then◌else◌}
use Rattle.std.specs.Cmp.{IsTotalOrder, on_total}
use Rattle.std.specs.List.{AllPairs, flat_map}
use Rattle.std.specs.List.Sorted.{IsStrictlySortedBy}
use Rattle.std.specs.declared.cmp.Ordering.{Ordering}
use Rattle.std.proofs.lemmas.List.Elements.{All-from_recursion}
use Rattle.std.proofs.lemmas.List.Kept.{AllPairs-cons}
use Rattle.positions.specs.Position.{PositionValue}
use Rattle.positions.specs.Span.{covers}
use Rattle.lsif.specs.Element.{IdValue, VertexValue, meta_data, project, document, range, result_set, request_result, hover_result, moniker, package_information, event, other_vertex, ElementValue, vertex, edge}
use Rattle.lsif.specs.declared.request_kind.RequestKind.{RequestKind}
use Rattle.dump.specs.Contained.{is_in, IsNested}
use Rattle.dump.specs.Fault.{IsFaultless}
use Rattle.dump.specs.Graph.{vertex_at}
use Rattle.dump.specs.Places.{IsListing}
use Rattle.dump.specs.Requests.{Cover, IsFirst, nobody, here, later, IsWithin, Pick, RangeValue, Speaks}
use Rattle.dump.proofs.Nests.{nested}
use Rattle.dump.proofs.Progresses.{sound_of}
use Rattle.streams.proofs.Bools.{and_both, and_of}
use Rattle.streams.proofs.Members.{contains_head, contains_one, contains_tail, flat_from, flat_of, if_in, in_if, not_in_nil}
use Rattle.dump.proofs.Uniques.{one_document, vertex_is}
use Rattle.machine.specs.Steps.Covers.{inner_order}
use Rattle.machine.proofs.Covers.{Lies, covers_from, covers_of, inner_total, two, within}
use Rattle.machine.proofs.DumpSets.{speaks}
use Rattle.machine.proofs.EntryLists.{all_of, rises_head, rises_tail}
use Rattle.machine.proofs.Finite.{Decision, Finite, listing}
use Rattle.machine.proofs.Ties.{inner_tie}

-- ---- those of a document, element by element

-- the element, where it's a range that lies in the document and covers the position
abbrev covering_of : List ElementValue → IdValue → PositionValue → ElementValue → List RangeValue
covering_of elements doc position (vertex i (range s)) = if covers s position && is_in elements doc i then record { id = i; span = s } ∷ [] else []
covering_of elements doc position (vertex i v) = []
covering_of elements doc position (edge i e) = []

abbrev covering_in : List ElementValue → IdValue → PositionValue → List RangeValue
covering_in elements doc position = flat_map (covering_of elements doc position) elements

abbrev VertexIs : List ElementValue → Type 0
VertexIs d = (i : IdValue) (v : VertexValue) → vertex_at d i ≡ Some v ↔ Contains d (vertex i v)

module _ (d : List ElementValue) (doc : IdValue) (p : PositionValue) (vertices : VertexIs d) where
  lies_of : (x : ElementValue) (r : RangeValue) → Contains d x → Contains (covering_of d doc p x) r → Lies d doc p r
  lies_of (vertex i (range s)) r inside at =
      let this : RangeValue = record { id = i; span = s } in
      let h = in_if (covers s p && is_in d doc i) (this ∷ []) r at in
      let b = and_both (covers s p) (is_in d doc i) h.0 in
      subst (Lies d doc p) (contains_one this r h.1) (b.1, covers_of s p b.0, (vertices i (range s)).1 inside)
  lies_of (vertex i (document s)) r inside at = absurd (not_in_nil r at)
  lies_of (vertex i (meta_data b)) r inside at = absurd (not_in_nil r at)
  lies_of (vertex i project) r inside at = absurd (not_in_nil r at)
  lies_of (vertex i result_set) r inside at = absurd (not_in_nil r at)
  lies_of (vertex i (request_result kind)) r inside at = absurd (not_in_nil r at)
  lies_of (vertex i (hover_result t)) r inside at = absurd (not_in_nil r at)
  lies_of (vertex i (moniker m)) r inside at = absurd (not_in_nil r at)
  lies_of (vertex i (package_information k)) r inside at = absurd (not_in_nil r at)
  lies_of (vertex i (event v)) r inside at = absurd (not_in_nil r at)
  lies_of (vertex i other_vertex) r inside at = absurd (not_in_nil r at)
  lies_of (edge i e) r inside at = absurd (not_in_nil r at)

  lies_to : (r : RangeValue) → Contains (covering_in d doc p) r → Lies d doc p r
  lies_to r at = let f = flat_of (covering_of d doc p) d r at in lies_of f.0 r f.1 f.2

  lies_from : (r : RangeValue) → Lies d doc p r → Contains (covering_in d doc p) r
  lies_from r h =
      let test = and_of (covers r.span p) (is_in d doc r.id) (covers_from r.span p h.1) h.0 in
      flat_from (covering_of d doc p) d (vertex r.id (range r.span)) r ((vertices r.id (range r.span)).0 h.2)
      (if_in (covers r.span p && is_in d doc r.id) (r ∷ []) r test (contains_head r []))

-- ---- in order

pub first_that : {X : Type 0} (P : X → Type 0) → ((x : X) → Decision (P x)) → (xs : List X) → (found : Option X) × IsFirst P xs found
first_that P decide [] = (None, nobody)
first_that {X} P decide (x ∷ xs) = ⊎_elim
    (λ (p : P x). (Some x, here p))
    (λ (other : P x → ⊥). let rest = first_that P decide xs in (rest.0, later other rest.1))
    (decide x)

abbrev by_inner : RangeValue → RangeValue → Ordering
by_inner r s = inner_order r.span s.span

by_inner_total : IsTotalOrder by_inner
by_inner_total = on_total (λ (r : RangeValue). r.span) inner_total

module _ (d : List ElementValue) (free : IsFaultless (map Ok d)) (doc : IdValue) (uri : List ℕ) (there : vertex_at d doc ≡ Some (document uri)) (p : PositionValue) where
  vertices : VertexIs d
  vertices = vertex_is d (sound_of d free)

  nests : IsNested d
  nests = nested d (sound_of d free)

  lying : Finite (Lies d doc p)
  lying = record { members = covering_in d doc p; each = λ r. (lies_to d doc p vertices r, lies_from d doc p vertices r) }

  listed : (ranges : List RangeValue) × IsListing by_inner (Lies d doc p) ranges
  listed = listing by_inner by_inner_total (Lies d doc p) (λ r s at also e. two d doc p nests r s at also (inner_tie r.span s.span e)) lying

  rises : (ranges : List RangeValue) → ((r : RangeValue) → Contains ranges r → Lies d doc p r) → IsStrictlySortedBy by_inner ranges → AllPairs (λ (r s : RangeValue). IsWithin r.span s.span) ranges
  rises [] each up = λ i j k lt below. omega (arith, below)
  rises (r ∷ ranges) each up =
      AllPairs-cons (λ (r s : RangeValue). IsWithin r.span s.span) r ranges
      (All-from_recursion (λ (s : RangeValue). IsWithin r.span s.span) ranges (all_of (λ (s : RangeValue). IsWithin r.span s.span) ranges
      (λ s at. within d doc p nests r s (each r (contains_head r ranges)) (each s (contains_tail r ranges s at)) (rises_head by_inner r ranges up s at))))
      (rises ranges (λ s at. each s (contains_tail r ranges s at)) (rises_tail by_inner r ranges up))

  cover : (ranges : List RangeValue) × Cover d uri p ranges
  cover = (
    listed.0,
    record {
      rises = rises listed.0 (λ r at. (listed.1.each r).0 at) listed.1.rises;
      each = λ r. (
        λ at. let h = (listed.1.each r).0 at in (record { container = doc; uri = there; contained = h.0; span = h.2 }, h.1),
        λ (place, covers). (listed.1.each r).1 (subst (λ k. is_in d k r.id ≡ true) (one_document d (sound_of d free) place.container doc uri place.uri there) place.contained, covers, place.span),
      );
    },
  )

  pub has_pick : (request : RequestKind) → (picked : Option RangeValue) × Pick request d uri p picked
  has_pick request =
      let first = first_that (λ (r : RangeValue). Speaks request d r.id) (λ r. speaks d free request r.id) cover.0 in
      (first.0, (cover.0, cover.1, first.1))
