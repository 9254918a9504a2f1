-- What each element says with its own number rises with the elements.
use Rattle.std.proofs.Common.{◌≡◌, ◌⊎◌, inl, inr, ◌∙◌, ℕ, suc, ◌+◌, ◌<◌, ◌≤◌, true, false, List, [], ◌∷◌, ◌++◌, length, get_or, refl, sym, ap, subst, arith, length-append}
use Rattle.std.specs.Prelude.{Option, Some, None, Ok, is_some, map, option_map}
use Rattle.std.specs.Cmp.{nat_cmp_is}
use Rattle.std.specs.List.{AllByRecursion, flat_map}
use Rattle.std.specs.List.Sorted.{IsStrictlySortedBy}
use Rattle.std.specs.Ordering.{nat_cmp}
use Rattle.std.specs.declared.cmp.Ordering.TheVariants.{Less}
use Rattle.std.proofs.lemmas.Bool.{cases_lt}
use Rattle.std.proofs.lemmas.List.{get_or_append_left, get_or_push}
use Rattle.std.proofs.lemmas.List.Elements.{Contains-get_or}
use Rattle.std.proofs.lemmas.List.Quantifiers.{position-Some}
use Rattle.lsif.specs.Element.{IdValue, same_id, ElementValue, element_id}
use Rattle.dump.specs.Conditions.{has_used_id}
use Rattle.dump.specs.Fault.{IsFaultless}
use Rattle.dump.specs.Graph.{element_at, line_of}
use Rattle.dump.proofs.Ends.{HasNoCode, holds}
use Rattle.dump.proofs.FirstIndices.{position_hit, position_kept}
use Rattle.dump.proofs.Progresses.{sound_of}
use Rattle.streams.proofs.Members.{member_found}
use Rattle.dump.proofs.SameIds.{same_id_eq, same_id_self}
use Rattle.flatten.specs.Flat.{number_of}
use Rattle.flatten.proofs.NumberPairs.{number_line}

-- ---- the line of an element is its index

abbrev pub IsIndexed : List ElementValue → Type 0
IsIndexed d = (i : ℕ) (e : ElementValue) → i < length d → line_of d (element_id (get_or d i e)) ≡ Some i

is_new : (d : List ElementValue) (x : ElementValue) → has_used_id d x ≡ false → (o : Option ℕ) → line_of d (element_id x) ≡ o → line_of d (element_id x) ≡ None
unfolding element_at
is_new d x fresh None e = e
is_new d x fresh (Some k) e =
    let p = λ (y : ElementValue). same_id (element_id y) (element_id x) in
    let at = position-Some p d k x e in
    let f = member_found p d (get_or d k x) (Contains-get_or d k x at.0) at.1 in
    let h : true ≡ false = sym (ap is_some f.1) ∙ fresh in cc

indexed_more : (d : List ElementValue) (x : ElementValue) → HasNoCode d x → IsIndexed d → IsIndexed (d ++ x ∷ [])
indexed_more d x free known i e lt = elim (cases_lt i (length d)) [
  | inl before ↦
      let y = get_or d i e in
      let here = known i e before in
      let p = λ (z : ElementValue). same_id (element_id z) (element_id y) in
      ap (λ z. line_of (d ++ x ∷ []) (element_id z)) (get_or_append_left d (x ∷ []) e i before) ∙ position_kept p d x (ap is_some here) ∙ here
  | inr after ↦
      let same : length d ≡ i = omega (arith, lt, after, length-append d (x ∷ [])) in
      let p = λ (z : ElementValue). same_id (element_id z) (element_id x) in
      ap (λ z. line_of (d ++ x ∷ []) (element_id z)) (get_or_push d x e i same) ∙ position_hit p d x (same_id_self (element_id x)) (is_new d x free.fresh (line_of d (element_id x)) refl) ∙ ap (λ k. Some k) same
]

pub each_indexed : (d : List ElementValue) → IsFaultless (map Ok d) → IsIndexed d
each_indexed d free = holds IsIndexed (λ i e lt. absurd (omega (arith, lt))) indexed_more d (sound_of d free)

-- the element of a number has the id of which it's the number
pub at_number : (d : List ElementValue) (x : IdValue) (n k : ℕ) (e : ElementValue) → number_of d x ≡ Some n → k + 1 ≡ n → (k < length d) × (element_id (get_or d k e) ≡ x)
unfolding element_at
at_number d x n k e at next =
    let l = number_line (line_of d x) n at in
    let same : l.0 ≡ k = omega (arith, l.2, next) in
    let here = position-Some (λ (y : ElementValue). same_id (element_id y) x) d k e (l.1 ∙ ap (λ j. Some j) same) in
    (here.0, same_id_eq (element_id (get_or d k e)) x here.1)

-- ---- what is said with it rises

-- an element says its number, or nothing
abbrev pub SaysNumber : List ElementValue → (ElementValue → List ℕ) → Type 0
SaysNumber d f = (x : ElementValue) → (f x ≡ []) ⊎ ((n : ℕ) × (number_of d (element_id x) ≡ Some n) × (f x ≡ n ∷ []))

above_all : (n k : ℕ) (xs : List ℕ) → n ≤ k → AllByRecursion (λ m. k < m) xs → AllByRecursion (λ m. nat_cmp n m ≡ Less) xs
above_all n k [] le h = tt
above_all n k (x ∷ xs) le h = (sym (nat_cmp_is n x Less (omega (arith, le, h.0))), above_all n k xs le h.1)

weaker : (j k : ℕ) (xs : List ℕ) → j ≤ k → AllByRecursion (λ m. k < m) xs → AllByRecursion (λ m. j < m) xs
weaker j k [] le h = tt
weaker j k (x ∷ xs) le h = (omega (arith, le, h.0), weaker j k xs le h.1)

rises_from : (f : ElementValue → List ℕ) (xs : List ElementValue) (k : ℕ) → ((i : ℕ) (e : ElementValue) → i < length xs → (f (get_or xs i e) ≡ []) ⊎ (f (get_or xs i e) ≡ suc (k + i) ∷ []))
    → IsStrictlySortedBy nat_cmp (flat_map f xs) × AllByRecursion (λ m. k < m) (flat_map f xs)
unfolding IsStrictlySortedBy
rises_from f [] k h = (tt, tt)
rises_from f (x ∷ xs) k h =
    let r = rises_from f xs (suc k) (λ i e lt. subst (λ n. (f (get_or xs i e) ≡ []) ⊎ (f (get_or xs i e) ≡ suc n ∷ [])) (omega arith) (h (suc i) e (omega (arith, lt)))) in
    elim (h 0 x (omega arith)) [
      | inl none ↦ subst (λ l. IsStrictlySortedBy nat_cmp (l ++ flat_map f xs) × AllByRecursion (λ m. k < m) (l ++ flat_map f xs)) (sym none) (r.0, weaker k (suc k) (flat_map f xs) (omega arith) r.1)
      | inr one ↦ subst (λ l. IsStrictlySortedBy nat_cmp (l ++ flat_map f xs) × AllByRecursion (λ m. k < m) (l ++ flat_map f xs)) (sym one)
          ((above_all (suc (k + 0)) (suc k) (flat_map f xs) (omega arith) r.1, r.0), (omega arith, weaker k (suc k) (flat_map f xs) (omega arith) r.1))
    ]

pub rises : (d : List ElementValue) (f : ElementValue → List ℕ) → IsFaultless (map Ok d) → SaysNumber d f → IsStrictlySortedBy nat_cmp (flat_map f d)
rises d f free says = (rises_from f d 0 each).0
  where
    each : (i : ℕ) (e : ElementValue) → i < length d → (f (get_or d i e) ≡ []) ⊎ (f (get_or d i e) ≡ suc (0 + i) ∷ [])
    each i e lt = elim (says (get_or d i e)) [
      | inl none ↦ inl none
      | inr one ↦
          let here : ◌≡◌ {A = Option ℕ} (Some (i + 1)) (Some one.0) = sym (ap (option_map (λ k. k + 1)) (each_indexed d free i e lt)) ∙ one.1 in
          let same : i + 1 ≡ one.0 = cc in
          inr (one.2 ∙ ap (λ n. n ∷ []) (omega (arith, same)))
    ]
