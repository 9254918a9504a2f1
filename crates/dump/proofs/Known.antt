-- What is known of the elements of a sound dump: the ends of each are vertices, one `contains` edge
-- out of a document at most names a range, and what has ended is a document.
use Rattle.std.proofs.Common.{◌≡◌, ⊎_elim, inl, inr, ◌∙◌, ◌&&◌, ◌||◌, ◌++◌, ◌∷◌, [], Bool, true, false, not, cond, List, refl, sym, ap, subst, find, Option, Some, None, option_and_then, is_some}
use Rattle.std.specs.Prelude.{Contains, ◌↔◌}
use Rattle.std.specs.List.{list_any}
use Rattle.std.proofs.lemmas.List.Elements.{Contains-push_cases}
use Rattle.std.proofs.lemmas.List.Folds.{list_any-append}
use Rattle.lsif.specs.Element.{IdValue, same_id, VertexValue, meta_data, project, document, range, result_set, request_result, hover_result, moniker, package_information, event, other_vertex, begin_event, end_event, other_event, contains, next, request_edge, moniker_edge, package_edge, attach, item, other_edge, ElementValue, vertex, edge}
use Rattle.dump.specs.Graph.{vertex_at, is_among, ends}
use Rattle.dump.specs.Kinds.{is_document}
use Rattle.dump.specs.Contained.{contains_range, is_contained, places_range, is_in}
use Rattle.dump.specs.Conditions.{are_vertices}
use Rattle.dump.specs.Ended.{finishes, has_begun, has_ended, closes_range, is_closed}
use Rattle.dump.specs.Steps.Tables.{is_id, passes}
use Rattle.dump.specs.Contained.{contains_source, container}
use Rattle.dump.specs.Progress.{IsSound}
use Rattle.streams.proofs.Bools.{or_none, or_some, and_both, and_rest, not_false, and_of, same_bool, absurd_true}
use Rattle.streams.proofs.Members.{contains_head, contains_tail, contains_cases, not_in_nil, any_from, found_member}
use Rattle.dump.proofs.SameIds.{same_id_eq, same_id_self}
use Rattle.dump.proofs.Nests.{kept_vertex, vertex_there}
use Rattle.dump.proofs.Ends.{HasNoCode, holds}

-- ---- ends are vertices

pub still_vertices : (d : List ElementValue) (x : ElementValue) (is : List IdValue) → are_vertices d is ≡ true → are_vertices (d ++ x ∷ []) is ≡ true
still_vertices d x [] e = refl
still_vertices d x (i ∷ is) e =
    let both = and_both (is_some (vertex_at d i)) (are_vertices d is) e in
    let w = vertex_there (vertex_at d i) both.0 in
    and_of (is_some (vertex_at (d ++ x ∷ []) i)) (are_vertices (d ++ x ∷ []) is) (ap is_some (kept_vertex d x i w.0 w.1) ∙ both.0) (still_vertices d x is both.1)

abbrev pub AreEndsKnown : List ElementValue → Type 0
AreEndsKnown d = (x : ElementValue) → Contains d x → are_vertices d (ends x) ≡ true

ends_more : (d : List ElementValue) (x : ElementValue) → HasNoCode d x → AreEndsKnown d → AreEndsKnown (d ++ x ∷ [])
ends_more d x free known y at = ⊎_elim
    (λ (h : Contains d y). still_vertices d x (ends y) (known y h))
    (λ (e : x ≡ y). subst (λ z. are_vertices (d ++ x ∷ []) (ends z) ≡ true) e (still_vertices d x (ends x) (not_false (are_vertices d (ends x)) free.ends)))
    (Contains-push_cases d x y at)

pub ends_known : (elements : List ElementValue) → IsSound elements → AreEndsKnown elements
ends_known elements h = holds AreEndsKnown (λ x at. absurd (not_in_nil x at)) ends_more elements h

-- which ranges an edge contains stays
pub same_contained : (d : List ElementValue) (x y : ElementValue) → are_vertices d (ends y) ≡ true → (r : IdValue) → contains_range (d ++ x ∷ []) r y ≡ contains_range d r y
same_contained d x (edge i (contains from to)) e r =
    let both = and_both (is_some (vertex_at d from)) (are_vertices d to) e in
    let w = vertex_there (vertex_at d from) both.0 in
    ap (λ o. is_document o && is_among r to) (kept_vertex d x from w.0 w.1)
same_contained d x (edge i (next a b)) e r = refl
same_contained d x (edge i (request_edge kind a b)) e r = refl
same_contained d x (edge i (moniker_edge a b)) e r = refl
same_contained d x (edge i (package_edge a b)) e r = refl
same_contained d x (edge i (attach a b)) e r = refl
same_contained d x (edge i (item a)) e r = refl
same_contained d x (edge i (other_edge a bs)) e r = refl
same_contained d x (vertex i v) e r = refl

-- ---- what has ended is a document

abbrev pub AreEndedDocuments : List ElementValue → Type 0
AreEndedDocuments d = (v : IdValue) → has_ended d v ≡ true → is_document (vertex_at d v) ≡ true

document_there : (o : Option VertexValue) → is_document o ≡ true → (w : VertexValue) × (o ≡ Some w)
document_there None e = cc
document_there (Some w) e = (w, refl)

still_document : (d : List ElementValue) (x : ElementValue) (v : IdValue) → is_document (vertex_at d v) ≡ true → is_document (vertex_at (d ++ x ∷ []) v) ≡ true
still_document d x v e = let w = document_there (vertex_at d v) e in ap is_document (kept_vertex d x v w.0 w.1) ∙ e

-- an end without a code is that of a document
ends_document : (d : List ElementValue) (x : ElementValue) → HasNoCode d x → (v : IdValue) → finishes v x ≡ true → is_document (vertex_at d v) ≡ true
ends_document d (vertex i (event (end_event e))) free v at =
    let first = or_none (not (is_document (vertex_at d e)) || has_ended d e) (not (has_begun d e)) free.event in
    let second = or_none (not (is_document (vertex_at d e))) (has_ended d e) first.0 in
    subst (λ u. is_document (vertex_at d u) ≡ true) (same_id_eq e v at) (not_false (is_document (vertex_at d e)) second.0)
ends_document d (vertex i (event (begin_event e))) free v at = cc
ends_document d (vertex i (event other_event)) free v at = cc
ends_document d (vertex i (meta_data b)) free v at = cc
ends_document d (vertex i project) free v at = cc
ends_document d (vertex i (document s)) free v at = cc
ends_document d (vertex i (range s)) free v at = cc
ends_document d (vertex i result_set) free v at = cc
ends_document d (vertex i (request_result kind)) free v at = cc
ends_document d (vertex i (hover_result s)) free v at = cc
ends_document d (vertex i (moniker m)) free v at = cc
ends_document d (vertex i (package_information p)) free v at = cc
ends_document d (vertex i other_vertex) free v at = cc
ends_document d (edge i e) free v at = cc

ended_more : (d : List ElementValue) (x : ElementValue) → HasNoCode d x → AreEndedDocuments d → AreEndedDocuments (d ++ x ∷ [])
ended_more d x free known v at =
    elim (or_some (has_ended d v) (finishes v x || false) (sym (list_any-append (finishes v) d (x ∷ [])) ∙ at)) [
      | inl old ↦ still_document d x v (known v old)
      | inr new ↦ elim (or_some (finishes v x) false new) [ inl now ↦ still_document d x v (ends_document d x free v now) | inr other ↦ cc ]
    ]

pub ended_documents : (elements : List ElementValue) → IsSound elements → AreEndedDocuments elements
ended_documents elements h = holds AreEndedDocuments (λ v at. cc) ended_more elements h

-- ---- one edge contains a range

any_among : (p : IdValue → Bool) (is : List IdValue) (r : IdValue) → list_any p is ≡ false → is_among r is ≡ true → p r ≡ false
any_among p [] r none at = cc
any_among p (i ∷ is) r none at =
    let both = or_none (p i) (list_any p is) none in
    elim (or_some (same_id i r) (is_among r is) at) [ inl here ↦ subst (λ j. p j ≡ false) (same_id_eq i r here) both.0 | inr later ↦ any_among p is r both.1 later ]

-- a range that a new element contains wasn't contained
pub new_contained : (d : List ElementValue) (x : ElementValue) → HasNoCode d x → (r : IdValue) → contains_range d r x ≡ true → is_contained d r ≡ false
new_contained d (edge i (contains from to)) free r e =
    let both = and_both (is_document (vertex_at d from)) (is_among r to) e in
    let again = or_none _ _ (and_rest (is_document (vertex_at d from)) _ both.0 free.again) in
    any_among (is_contained d) to r again.0 both.1
new_contained d (edge i (next a b)) free r e = cc
new_contained d (edge i (request_edge kind a b)) free r e = cc
new_contained d (edge i (moniker_edge a b)) free r e = cc
new_contained d (edge i (package_edge a b)) free r e = cc
new_contained d (edge i (attach a b)) free r e = cc
new_contained d (edge i (item a)) free r e = cc
new_contained d (edge i (other_edge a bs)) free r e = cc
new_contained d (vertex i v) free r e = cc

abbrev pub HasOneContainer : List ElementValue → Type 0
HasOneContainer d = (r : IdValue) (y z : ElementValue) → Contains d y → Contains d z → contains_range d r y ≡ true → contains_range d r z ≡ true → y ≡ z

one_or_other : (d : List ElementValue) (x : ElementValue) → HasNoCode d x → AreEndsKnown d → (r : IdValue) (y : ElementValue) → Contains d y → contains_range (d ++ x ∷ []) r y ≡ true → contains_range (d ++ x ∷ []) r x ≡ true → ⊥
one_or_other d x free known r y at old new =
    let was : contains_range d r y ≡ true = sym (same_contained d x y (known y at) r) ∙ old in
    let now : contains_range d r x ≡ true = sym (same_contained d x x (not_false (are_vertices d (ends x)) free.ends) r) ∙ new in
    let yes : is_contained d r ≡ true = any_from (contains_range d r) d y at was in
    let none : is_contained d r ≡ false = new_contained d x free r now in
    absurd (absurd_true (sym yes ∙ none))

one_more : (d : List ElementValue) (x : ElementValue) → HasNoCode d x → AreEndsKnown d × HasOneContainer d → AreEndsKnown (d ++ x ∷ []) × HasOneContainer (d ++ x ∷ [])
one_more d x free both = (
  ends_more d x free both.0,
  λ r y z at_y at_z has_y has_z. ⊎_elim
      (λ (old_y : Contains d y). ⊎_elim
      (λ (old_z : Contains d z). both.1 r y z old_y old_z (sym (same_contained d x y (both.0 y old_y) r) ∙ has_y) (sym (same_contained d x z (both.0 z old_z) r) ∙ has_z))
      (λ (new_z : x ≡ z). absurd (one_or_other d x free both.0 r y old_y has_y (subst (λ w. contains_range (d ++ x ∷ []) r w ≡ true) (sym new_z) has_z)))
      (Contains-push_cases d x z at_z))
      (λ (new_y : x ≡ y). ⊎_elim
      (λ (old_z : Contains d z). absurd (one_or_other d x free both.0 r z old_z has_z (subst (λ w. contains_range (d ++ x ∷ []) r w ≡ true) (sym new_y) has_y)))
      (λ (new_z : x ≡ z). sym new_y ∙ new_z)
      (Contains-push_cases d x z at_z))
      (Contains-push_cases d x y at_y),
)

pub one_container : (elements : List ElementValue) → IsSound elements → HasOneContainer elements
one_container elements h = (holds (λ d. AreEndsKnown d × HasOneContainer d) (λ x at. absurd (not_in_nil x at), λ r y z at. absurd (not_in_nil y at)) one_more elements h).1

-- ---- what the container of a range says

true_only : (b : Bool) → (b ≡ true → ⊥) → b ≡ false
true_only true e = absurd (e refl)
true_only false e = refl

any_member : {X : Type 0} (p : X → Bool) (xs : List X) → list_any p xs ≡ true → (x : X) × Contains xs x × (p x ≡ true)
any_member p [] e = cc
any_member p (x ∷ xs) e = elim (or_some (p x) (list_any p xs) e) [
  | inl here ↦ (x, contains_head x xs, here)
  | inr later ↦ let m = any_member p xs later in (m.0, contains_tail x xs m.0 m.1, m.2)
]

none_by : {X : Type 0} (x : X) (o : Option X) (b : Bool) → cond b (Some x) o ≡ None → (b ≡ false) × (o ≡ None)
none_by x o true e = cc
none_by x o false e = (refl, e)

none_found : {X : Type 0} (p : X → Bool) (xs : List X) (x : X) → find p xs ≡ None → Contains xs x → p x ≡ true → ⊥
none_found p [] x e at has = not_in_nil x at
none_found p (y ∷ xs) x e at has =
    let both = none_by y (find p xs) (p y) e in
    ⊎_elim (λ (s : y ≡ x). absurd_true (sym has ∙ ap p (sym s) ∙ both.0)) (λ (t : Contains xs x). none_found p xs x both.1 t has) (contains_cases y xs x at)

-- where one member at most passes the first test, and it alone may pass the second
module _ {X : Type 0} (p q : X → Bool) (d : List X) (under : (z : X) → Contains d z → q z ≡ true → p z ≡ true)
    (one : (y z : X) → Contains d y → Contains d z → p y ≡ true → p z ≡ true → y ≡ z) where
  any_none : find p d ≡ None → list_any q d ≡ false
  any_none e = true_only (list_any q d) (λ yes. let m = any_member q d yes in none_found p d m.0 e m.1 (under m.0 m.1 m.2))

  any_found : (y : X) → find p d ≡ Some y → list_any q d ≡ q y
  any_found y e =
      let f = found_member p d y e in
      same_bool (list_any q d) (q y)
      (λ yes. let m = any_member q d yes in subst (λ z. q z ≡ true) (one m.0 y m.1 f.0 (under m.0 m.1 m.2) f.1) m.2)
      (λ yes. any_from q d y f.0 yes)

-- what an edge that contains a range is
record ContainsIt (d : List ElementValue) (r : IdValue) (y : ElementValue) : Type 0 where
  source : IdValue
  is : contains_source y ≡ Some source
  document : is_document (vertex_at d source) ≡ true
  places : (v : IdValue) → places_range v r y ≡ same_id source v
  closes : closes_range d r y ≡ has_ended d source

true_right : (a b : Bool) → b ≡ true → (a && b) ≡ a
true_right true b e = e
true_right false b e = refl

true_left : (a b : Bool) → a ≡ true → (a && b) ≡ b
true_left true b e = refl
true_left false b e = cc

contains_it : (d : List ElementValue) (r : IdValue) (y : ElementValue) → contains_range d r y ≡ true → ContainsIt d r y
contains_it d r (edge i (contains from to)) e =
    let both = and_both (is_document (vertex_at d from)) (is_among r to) e in
    record { source = from; is = refl; document = both.0; places = λ v. true_right (same_id from v) (is_among r to) both.1; closes = true_left (is_among r to) (has_ended d from) both.1 }
contains_it d r (edge i (next a b)) e = cc
contains_it d r (edge i (request_edge kind a b)) e = cc
contains_it d r (edge i (moniker_edge a b)) e = cc
contains_it d r (edge i (package_edge a b)) e = cc
contains_it d r (edge i (attach a b)) e = cc
contains_it d r (edge i (item a)) e = cc
contains_it d r (edge i (other_edge a bs)) e = cc
contains_it d r (vertex i v) e = cc

contained_if_placed : (d : List ElementValue) (v r : IdValue) → is_document (vertex_at d v) ≡ true → (z : ElementValue) → places_range v r z ≡ true → contains_range d r z ≡ true
contained_if_placed d v r doc (edge i (contains from to)) e =
    let both = and_both (same_id from v) (is_among r to) e in
    and_of (is_document (vertex_at d from)) (is_among r to) (subst (λ u. is_document (vertex_at d u) ≡ true) (sym (same_id_eq from v both.0)) doc) both.1
contained_if_placed d v r doc (edge i (next a b)) e = cc
contained_if_placed d v r doc (edge i (request_edge kind a b)) e = cc
contained_if_placed d v r doc (edge i (moniker_edge a b)) e = cc
contained_if_placed d v r doc (edge i (package_edge a b)) e = cc
contained_if_placed d v r doc (edge i (attach a b)) e = cc
contained_if_placed d v r doc (edge i (item a)) e = cc
contained_if_placed d v r doc (edge i (other_edge a bs)) e = cc
contained_if_placed d v r doc (vertex i w) e = cc

contained_if_closed : (d : List ElementValue) → AreEndedDocuments d → (r : IdValue) (z : ElementValue) → closes_range d r z ≡ true → contains_range d r z ≡ true
contained_if_closed d known r (edge i (contains from to)) e =
    let both = and_both (is_among r to) (has_ended d from) e in
    and_of (is_document (vertex_at d from)) (is_among r to) (known from both.1) both.0
contained_if_closed d known r (edge i (next a b)) e = cc
contained_if_closed d known r (edge i (request_edge kind a b)) e = cc
contained_if_closed d known r (edge i (moniker_edge a b)) e = cc
contained_if_closed d known r (edge i (package_edge a b)) e = cc
contained_if_closed d known r (edge i (attach a b)) e = cc
contained_if_closed d known r (edge i (item a)) e = cc
contained_if_closed d known r (edge i (other_edge a bs)) e = cc
contained_if_closed d known r (vertex i w) e = cc

placed_container : (d : List ElementValue) → IsSound d → (v r : IdValue) → is_document (vertex_at d v) ≡ true → list_any (places_range v r) d ≡ is_id v (container d r)
placed_container d sound v r doc = by (find (contains_range d r) d) refl
  where
    by : (o : Option ElementValue) → find (contains_range d r) d ≡ o → list_any (places_range v r) d ≡ is_id v (option_and_then contains_source o)
    by None e = any_none (contains_range d r) (places_range v r) d (λ z at. contained_if_placed d v r doc z) (one_container d sound r) e
    by (Some y) e =
        let it = contains_it d r y (found_member (contains_range d r) d y e).1 in
        any_found (contains_range d r) (places_range v r) d (λ z at. contained_if_placed d v r doc z) (one_container d sound r) y e ∙ it.places v ∙ ap (is_id v) (sym it.is)

-- the container of a range is a document
container_document : (d : List ElementValue) (v r : IdValue) → is_document (vertex_at d v) ≡ false → false ≡ is_id v (container d r)
container_document d v r other = by (find (contains_range d r) d) refl
  where
    by : (o : Option ElementValue) → find (contains_range d r) d ≡ o → false ≡ is_id v (option_and_then contains_source o)
    by None e = refl
    by (Some y) e =
        let it = contains_it d r y (found_member (contains_range d r) d y e).1 in
        sym (true_only (is_id v (contains_source y)) (λ yes.
        let same : it.source ≡ v = same_id_eq it.source v (sym (ap (is_id v) it.is) ∙ yes) in
        absurd_true (sym it.document ∙ ap (λ u. is_document (vertex_at d u)) same ∙ other)))

pub in_container : (d : List ElementValue) → IsSound d → (v r : IdValue) → is_in d v r ≡ is_id v (container d r)
in_container d sound v r = by (is_document (vertex_at d v)) refl
  where
    by : (b : Bool) → is_document (vertex_at d v) ≡ b → (b && list_any (places_range v r) d) ≡ is_id v (container d r)
    by true doc = placed_container d sound v r doc
    by false other = container_document d v r other

id_to : (v : IdValue) (o : Option IdValue) → is_id v o ≡ true → o ≡ Some v
id_to v None e = cc
id_to v (Some i) e = ap Some (same_id_eq i v e)

id_from : (v : IdValue) (o : Option IdValue) → o ≡ Some v → is_id v o ≡ true
id_from v o e = ap (is_id v) e ∙ same_id_self v

pub is_in_container : (d : List ElementValue) → IsSound d → (v r : IdValue) → (is_in d v r ≡ true) ↔ (container d r ≡ Some v)
is_in_container d sound v r =
    let is = in_container d sound v r in (λ e. id_to v (container d r) (sym is ∙ e), λ e. is ∙ id_from v (container d r) e)

pub closed_container : (d : List ElementValue) → IsSound d → (r : IdValue) → is_closed d r ≡ passes (has_ended d) (container d r)
unfolding is_closed
closed_container d sound r = by (find (contains_range d r) d) refl
  where
    by : (o : Option ElementValue) → find (contains_range d r) d ≡ o → list_any (closes_range d r) d ≡ passes (has_ended d) (option_and_then contains_source o)
    by None e = any_none (contains_range d r) (closes_range d r) d (λ z at. contained_if_closed d (ended_documents d sound) r z) (one_container d sound r) e
    by (Some y) e =
        let it = contains_it d r y (found_member (contains_range d r) d y e).1 in
        any_found (contains_range d r) (closes_range d r) d (λ z at. contained_if_closed d (ended_documents d sound) r z) (one_container d sound r) y e ∙ it.closes ∙ ap (passes (has_ended d)) (sym it.is)
