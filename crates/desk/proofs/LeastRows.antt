-- The least of the joined vertices, in their order.
use Rattle.std.proofs.Common.{◌≡◌, ◌⊎◌, inl, inr, ⊎_elim, ◌∙◌, List, [], ◌∷◌, ℕ, true, false, map, refl, sym, ap, subst}
use Rattle.std.specs.Prelude.{◌↔◌, Contains, fold, option_map}
use Rattle.std.specs.List.{reduce}
use Rattle.std.specs.Ordering.{is_gt, min_by_ordering, ordering_reverse}
use denote.Ref.{Bor}
use Rattle.std.proofs.lemmas.Cmp.{tied_itself, upto}
use Rattle.std.specs.declared.cmp.Ordering.{Ordering}
use Rattle.std.specs.declared.cmp.Ordering.TheVariants.{Less, Equal, Greater}
use Rattle.lsif.specs.declared.request_kind.RequestKind.{RequestKind}
use Rattle.machine.specs.State.{State}
use Rattle.machine.specs.Selections.{RangeFound}
use Rattle.desk.specs.Steps.RowHovers.{IsLeast, joined_cmp}
use Rattle.desk.specs.Steps.Rows.{AreJoined, AreKeys, IsRowJoined, JoinedValue, joined_value}
use Rattle.desk.specs.declared.rows.bearers.JoinedBearer.{JoinedBearer}
use Rattle.streams.proofs.Members.{contains_cases, contains_head, contains_map, contains_tail, map_source, not_in_nil}
use Rattle.dump.proofs.Listing.{under}
use Rattle.desk.proofs.ListedRows.{joined_total}

abbrev bearer_cmp : JoinedBearer → JoinedBearer → Ordering
bearer_cmp = under joined_value joined_cmp

abbrev pub lesser : JoinedBearer → JoinedBearer → JoinedBearer
lesser x y = min_by_ordering (bearer_cmp x y) x y

pub now_lesser : (o : Ordering) (x y : Bor JoinedBearer) → (min_by_ordering o x y).now ≡ min_by_ordering o x.now y.now
now_lesser Less x y = refl
now_lesser Equal x y = refl
now_lesser Greater x y = refl

itself : (x : JoinedBearer) → is_gt (bearer_cmp x x) ≡ false
itself x = ap is_gt (tied_itself joined_total x)

lesser_of : (o : Ordering) (x y : JoinedBearer) → (min_by_ordering o x y ≡ x) ⊎ (min_by_ordering o x y ≡ y)
lesser_of Less x y = inl refl
lesser_of Equal x y = inl refl
lesser_of Greater x y = inr refl

lesser_upto : (o : Ordering) (x y : JoinedBearer) → bearer_cmp x y ≡ o → (is_gt (bearer_cmp (min_by_ordering o x y) x) ≡ false) × (is_gt (bearer_cmp (min_by_ordering o x y) y) ≡ false)
lesser_upto Less x y e = (itself x, ap is_gt e)
lesser_upto Equal x y e = (itself x, ap is_gt e)
lesser_upto Greater x y e = (ap is_gt (joined_total.antisymm y x ∙ ap ordering_reverse e), itself y)

least_upto : (x : JoinedBearer) (xs : List JoinedBearer) (y : JoinedBearer) → Contains (x ∷ xs) y → is_gt (bearer_cmp (fold lesser x xs) y) ≡ false
least_upto x [] y at = ⊎_elim (λ (e : x ≡ y). subst (λ z. is_gt (bearer_cmp x z) ≡ false) e (itself x)) (λ (n : Contains [] y). absurd (not_in_nil y n)) (contains_cases x [] y at)
least_upto x (z ∷ xs) y at =
    let first = lesser x z in
    let least = fold lesser first xs in
    let below = least_upto first xs first (contains_head first xs) in
    let both = lesser_upto (bearer_cmp x z) x z refl in
    ⊎_elim
    (λ (e : x ≡ y). subst (λ w. is_gt (bearer_cmp least w) ≡ false) e (upto joined_total least first x below both.0))
    (λ (t : Contains (z ∷ xs) y). ⊎_elim
    (λ (e : z ≡ y). subst (λ w. is_gt (bearer_cmp least w) ≡ false) e (upto joined_total least first z below both.1))
    (λ (u : Contains xs y). least_upto first xs y (contains_tail first xs y u))
    (contains_cases z xs y t))
    (contains_cases x (z ∷ xs) y at)

least_there : (x : JoinedBearer) (xs : List JoinedBearer) → Contains (x ∷ xs) (fold lesser x xs)
least_there x [] = contains_head x []
least_there x (z ∷ xs) =
    let first = lesser x z in
    let least = fold lesser first xs in
    ⊎_elim
    (λ (e : first ≡ least). subst (Contains (x ∷ z ∷ xs)) e (⊎_elim
    (λ (f : first ≡ x). subst (Contains (x ∷ z ∷ xs)) (sym f) (contains_head x (z ∷ xs)))
    (λ (f : first ≡ z). subst (Contains (x ∷ z ∷ xs)) (sym f) (contains_tail x (z ∷ xs) z (contains_head z xs)))
    (lesser_of (bearer_cmp x z) x z)))
    (λ (t : Contains xs least). contains_tail x (z ∷ xs) least (contains_tail z xs least t))
    (contains_cases first xs least (least_there first xs))

pub least_reduced : (P : JoinedValue → Type 0) (xs : List JoinedBearer) → ((j : JoinedValue) → Contains (map joined_value xs) j ↔ P j) → IsLeast P (option_map joined_value (reduce lesser xs))
least_reduced P [] each = λ j p. not_in_nil j ((each j).1 p)
least_reduced P (x ∷ xs) each =
    let least = fold lesser x xs in (
      (each (joined_value least)).0 (contains_map joined_value (x ∷ xs) least (least_there x xs)),
      λ k p greater.
          let (y, at, is) = map_source joined_value (x ∷ xs) k ((each k).1 p) in
          let upto_k = subst (λ i. is_gt (joined_cmp (joined_value least) i) ≡ false) is (least_upto x xs y at) in
          let no : true ≡ false = sym (ap is_gt greater) ∙ upto_k in
          cc,
    )

pub row_joined : (m : State) (request : RequestKind) (own : List ℕ) (row : RangeFound) (texts : List (List ℕ)) {C : JoinedValue → Type 0} → AreKeys m request own row.line texts → ((j : JoinedValue) → C j ↔ AreJoined m request own texts j)
    → (j : JoinedValue) → C j ↔ IsRowJoined m request own row j
row_joined m request own row texts {C} keyed are j = (to, back)
  where
    to : C j → IsRowJoined m request own row j
    to h = let k = (are j).0 h in (k.0, (keyed k.0).0 k.1, k.2)

    back : IsRowJoined m request own row j → C j
    back k = (are j).1 (k.0, (keyed k.0).1 k.1, k.2)
