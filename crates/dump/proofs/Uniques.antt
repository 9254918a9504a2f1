-- In a sound dump an id is that of one element, and a uri is that of one document.
use Rattle.std.proofs.Common.{◌≡◌, inl, inr, ◌∙◌, ℕ, Bool, true, false, List, [], ◌∷◌, ◌++◌, refl, sym, ap, subst}
use Rattle.std.specs.Prelude.{◌↔◌, Contains, Option, Some, None, is_some, option_and_then}
use Rattle.std.specs.List.{list_any}
use Rattle.std.proofs.lemmas.List.Elements.{Contains-push_cases}
use Rattle.std.proofs.lemmas.Slice.Eq.{bytes_eq-Decides}
use Rattle.lsif.specs.Element.{IdValue, same_id, VertexValue, document, ElementValue, vertex, edge, element_id}
use Rattle.dump.specs.Graph.{element_at, vertex_of, vertex_at}
use Rattle.dump.specs.Conditions.{is_document_of, has_used_uri}
use Rattle.dump.specs.Progress.{IsSound}
use Rattle.streams.proofs.Members.{any_from, found_member, member_found, not_in_nil}
use Rattle.dump.proofs.SameIds.{same_id_eq, same_id_self}
use Rattle.dump.proofs.Ends.{HasNoCode, holds}

some_not_none : {X : Type 0} (o : Option X) (y : X) → o ≡ Some y → is_some o ≡ false → ⊥
some_not_none None y e f = cc
some_not_none (Some x) y e f = cc

true_not_false : (b : Bool) → b ≡ true → b ≡ false → ⊥
true_not_false true e f = cc
true_not_false false e f = cc

-- ---- an id is that of one element

found_at : (d : List ElementValue) (i : IdValue) (y : ElementValue) → element_at d i ≡ Some y → Contains d y × (element_id y ≡ i)
unfolding element_at
found_at d i y e = let r = found_member (λ x. same_id (element_id x) i) d y e in (r.0, same_id_eq (element_id y) i r.1)

is_found : (d : List ElementValue) (x : ElementValue) → Contains d x → (y : ElementValue) × (element_at d (element_id x) ≡ Some y)
unfolding element_at
is_found d x at = member_found (λ y. same_id (element_id y) (element_id x)) d x at (same_id_self (element_id x))

abbrev pub Unique : List ElementValue → Type 0
Unique d = (x y : ElementValue) → Contains d x → Contains d y → element_id x ≡ element_id y → x ≡ y

unused : (d : List ElementValue) (x a : ElementValue) → HasNoCode d x → Contains d a → element_id a ≡ element_id x → ⊥
unused d x a free at same =
    let r = is_found d a at in
    some_not_none (element_at d (element_id x)) r.0 (ap (element_at d) (sym same) ∙ r.1) free.fresh

unique_more : (d : List ElementValue) (x : ElementValue) → HasNoCode d x → Unique d → Unique (d ++ x ∷ [])
unique_more d x free unique a b at_a at_b same =
    elim (Contains-push_cases d x a at_a) [
      | inl old_a ↦ elim (Contains-push_cases d x b at_b) [
        | inl old_b ↦ unique a b old_a old_b same
        | inr now_b ↦ absurd (unused d x a free old_a (same ∙ ap element_id (sym now_b)))
      ]
      | inr now_a ↦ elim (Contains-push_cases d x b at_b) [
        | inl old_b ↦ absurd (unused d x b free old_b (sym same ∙ ap element_id (sym now_a)))
        | inr now_b ↦ sym now_a ∙ now_b
      ]
    ]

pub each_unique : (d : List ElementValue) → IsSound d → Unique d
each_unique = holds Unique (λ x y at. absurd (not_in_nil x at)) unique_more

vertex_by : (d : List ElementValue) (i : IdValue) (v : VertexValue) (o : Option ElementValue) → element_at d i ≡ o → option_and_then vertex_of o ≡ Some v → Contains d (vertex i v)
vertex_by d i v None is e = cc
vertex_by d i v (Some (vertex j w)) is e =
    let found = found_at d i (vertex j w) is in
    let same : w ≡ v = cc in
    subst (λ k. Contains d (vertex k v)) found.1 (subst (λ u. Contains d (vertex j u)) same found.0)
vertex_by d i v (Some (edge j w)) is e = cc

pub vertex_member : (d : List ElementValue) (i : IdValue) (v : VertexValue) → vertex_at d i ≡ Some v → Contains d (vertex i v)
vertex_member d i v e = vertex_by d i v (element_at d i) refl e

pub vertex_is : (d : List ElementValue) → IsSound d → (i : IdValue) (v : VertexValue) → vertex_at d i ≡ Some v ↔ Contains d (vertex i v)
vertex_is d h i v = (vertex_member d i v, there)
  where
    there : Contains d (vertex i v) → vertex_at d i ≡ Some v
    there at =
        let r = is_found d (vertex i v) at in
        let found = found_at d i r.0 r.1 in
        let same : r.0 ≡ vertex i v = each_unique d h r.0 (vertex i v) found.0 at found.1 in
        ap (option_and_then vertex_of) (r.1 ∙ ap Some same)

-- ---- a uri is that of one document

abbrev OneDocument : List ElementValue → Type 0
OneDocument d = (a b : IdValue) (uri : List ℕ) → Contains d (vertex a (document uri)) → Contains d (vertex b (document uri)) → a ≡ b

unused_uri : (d : List ElementValue) (x : ElementValue) (a b : IdValue) (uri : List ℕ) → HasNoCode d x → Contains d (vertex a (document uri)) → x ≡ vertex b (document uri) → ⊥
unused_uri d x a b uri free at is =
    let none : list_any (is_document_of uri) d ≡ false = subst (λ y. has_used_uri d y ≡ false) is free.uri in
    true_not_false (list_any (is_document_of uri) d) (any_from (is_document_of uri) d (vertex a (document uri)) at ((bytes_eq-Decides uri uri).1 refl)) none

one_more : (d : List ElementValue) (x : ElementValue) → HasNoCode d x → OneDocument d → OneDocument (d ++ x ∷ [])
one_more d x free one a b uri at_a at_b =
    elim (Contains-push_cases d x (vertex a (document uri)) at_a) [
      | inl old_a ↦ elim (Contains-push_cases d x (vertex b (document uri)) at_b) [
        | inl old_b ↦ one a b uri old_a old_b
        | inr now_b ↦ absurd (unused_uri d x a b uri free old_a now_b)
      ]
      | inr now_a ↦ elim (Contains-push_cases d x (vertex b (document uri)) at_b) [
        | inl old_b ↦ absurd (unused_uri d x b a uri free old_b now_a)
        | inr now_b ↦ ap element_id (sym now_a ∙ now_b)
      ]
    ]

pub one_document : (d : List ElementValue) → IsSound d → (a b : IdValue) (uri : List ℕ) → vertex_at d a ≡ Some (document uri) → vertex_at d b ≡ Some (document uri) → a ≡ b
one_document d h a b uri at_a at_b = holds OneDocument (λ x y u at. absurd (not_in_nil (vertex x (document u)) at)) one_more d h a b uri (vertex_member d a (document uri) at_a) (vertex_member d b (document uri) at_b)
