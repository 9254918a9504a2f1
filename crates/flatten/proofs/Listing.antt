-- Rows that are added, and rows in order, each once.
use Rattle.std.proofs.Common.{◌≡◌, ◌⊎◌, inl, inr, ⊎_elim, ◌∙◌, ◌++◌, ◌+◌, ◌<◌, ◌≤◌, List, [], ◌∷◌, length, take, map, get_or, sym, ap, subst, arith}
use Rattle.std.specs.Prelude.{◌↔◌, ℕ, Contains}
use Rattle.std.specs.List.{All, AllByRecursion}
use Rattle.std.specs.declared.cmp.Ordering.{Ordering}
use Rattle.std.specs.declared.cmp.Ordering.TheVariants.{Less}
use Rattle.std.specs.List.Sorted.{IsStrictlySortedBy, IsPermutation}
use Rattle.std.proofs.lemmas.List.{append_assoc, get_or-map, length-map, take_all, take_more}
use Rattle.std.proofs.lemmas.List.Elements.{All-contains, Contains-append_left, Contains-append_right, Contains-append_cases, Contains-push_cases}
use Rattle.std.proofs.lemmas.List.Sorted.{Contains-permutation, IsPermutation-sym}
use Rattle.dump.specs.Places.{IsListing}
use Rattle.streams.proofs.Members.{contains_head, map_source, not_in_nil}
use Rattle.dump.proofs.Listing.{same_listing, under}
use Rattle.flatten.specs.Steps.Tables.{Adds, OfOne}

-- ---- rows that are added

-- those of one thing more
pub adds_push : {X R : Type 0} (P : X → R → Type 0) (start mid new : List R) (xs : List X) (x : X) → Adds start (OfOne P xs) mid → Adds mid (P x) new → Adds start (OfOne P (xs ++ x ∷ [])) new
adds_push {X} {R} P start mid new xs x a b row = (to, back)
  where
    to : Contains new row → Contains start row ⊎ OfOne P (xs ++ x ∷ []) row
    to at = ⊎_elim
        (λ (m : Contains mid row). ⊎_elim (λ (s : Contains start row). inl s) (λ (o : OfOne P xs row). inr (o.0, Contains-append_left xs (x ∷ []) o.0 o.1, o.2)) ((a row).0 m))
        (λ (p : P x row). inr (x, Contains-append_right xs (x ∷ []) x (contains_head x []), p))
        ((b row).0 at)

    back : Contains start row ⊎ OfOne P (xs ++ x ∷ []) row → Contains new row
    back h = ⊎_elim
        (λ (s : Contains start row). (b row).1 (inl ((a row).1 (inl s))))
        (λ (o : OfOne P (xs ++ x ∷ []) row). ⊎_elim
        (λ (t : Contains xs o.0). (b row).1 (inl ((a row).1 (inr (o.0, t, o.2)))))
        (λ (e : x ≡ o.0). (b row).1 (inr (subst (λ z. P z row) (sym e) o.2)))
        (Contains-push_cases xs x o.0 o.1))
        h

pub adds_next : {X R : Type 0} (P : X → R → Type 0) (start mid new : List R) (xs : List X) (k : ℕ) (d : X) → k < length xs → Adds start (OfOne P (take k xs)) mid → Adds mid (P (get_or xs k d)) new → Adds start (OfOne P (take (k + 1) xs)) new
adds_next P start mid new xs k d lt a b = subst (λ ys. Adds start (OfOne P ys) new) (sym (take_more xs k d lt)) (adds_push P start mid new (take k xs) (get_or xs k d) a b)

pub adds_end : {X R : Type 0} (P : X → R → Type 0) (start new : List R) (xs : List X) (k : ℕ) → length xs ≤ k → Adds start (OfOne P (take k xs)) new → Adds start (OfOne P xs) new
adds_end P start new xs k le a = subst (λ ys. Adds start (OfOne P ys) new) (take_all k xs le) a

pub adds_same : {R : Type 0} (old : List R) (P Q : R → Type 0) (new : List R) → ((row : R) → P row ↔ Q row) → Adds old P new → Adds old Q new
adds_same old P Q new same a row = (
  λ at. ⊎_elim (λ (o : Contains old row). inl o) (λ (p : P row). inr ((same row).0 p)) ((a row).0 at),
  λ h. (a row).1 (⊎_elim (λ (o : Contains old row). inl o) (λ (q : Q row). inr ((same row).1 q)) h),
)

pub adds_none : {R : Type 0} (old : List R) (P : R → Type 0) (new : List R) → ((row : R) → P row → ⊥) → new ≡ old → Adds old P new
adds_none old P new none same row = (
  λ at. inl (subst (λ xs. Contains xs row) same at),
  λ h. ⊎_elim (λ (o : Contains old row). subst (λ xs. Contains xs row) (sym same) o) (λ (p : P row). absurd (none row p)) h,
)

pub adds_list : {R : Type 0} (old more : List R) (P : R → Type 0) (new : List R) → ((row : R) → Contains more row ↔ P row) → new ≡ old ++ more → Adds old P new
adds_list old more P new each same row = (
  λ at. ⊎_elim (λ (o : Contains old row). inl o) (λ (m : Contains more row). inr ((each row).0 m)) (Contains-append_cases old more row (subst (λ xs. Contains xs row) same at)),
  λ h. subst (λ xs. Contains xs row) (sym same) (⊎_elim (λ (o : Contains old row). Contains-append_left old more row o) (λ (p : P row). Contains-append_right old more row ((each row).1 p)) h),
)

-- those of two lists, one after the other
pub adds_two : {R : Type 0} (old mid new more rest : List R) → mid ≡ old ++ more → new ≡ mid ++ rest → Adds old (Contains (more ++ rest)) new
adds_two {R} old mid new more rest e f = adds_list old (more ++ rest) (Contains (more ++ rest)) new (λ row. (λ at. at, λ at. at)) (f ∙ ap (λ xs. xs ++ rest) e ∙ append_assoc old more rest)

-- what was added to nothing
pub adds_are : {R : Type 0} (P : R → Type 0) (new : List R) → Adds [] P new → (row : R) → Contains new row ↔ P row
adds_are P new a row = (λ at. ⊎_elim (λ (n : Contains [] row). absurd (not_in_nil row n)) (λ (p : P row). p) ((a row).0 at), λ p. (a row).1 (inr p))

-- those of the next of some things, which are seen by a view
pub adds_step : {A X R : Type 0} (f : A → X) (P : X → R → Type 0) (start mid new : List R) (xs : List A) (k : ℕ) (x : A) → k < length xs → x ≡ get_or xs k x → Adds start (OfOne P (take k (map f xs))) mid → Adds mid (P (f x)) new
    → Adds start (OfOne P (take (k + 1) (map f xs))) new
adds_step f P start mid new xs k x lt e a b =
    let here : get_or (map f xs) k (f x) ≡ f x = get_or-map f xs k x (f x) lt ∙ ap f (sym e) in
    adds_next P start mid new (map f xs) k (f x) (omega (arith, lt, length-map xs f)) a (subst (λ y. Adds mid (P y) new) (sym here) b)

pub adds_done : {A X R : Type 0} (f : A → X) (P : X → R → Type 0) (start new : List R) (xs : List A) (k : ℕ) → length xs ≤ k → Adds start (OfOne P (take k (map f xs))) new → Adds start (OfOne P (map f xs)) new
adds_done f P start new xs k le a = adds_end P start new (map f xs) k (omega (arith, le, length-map xs f)) a

-- ---- rows in order

all_unmap : {X Y : Type 0} (f : X → Y) (P : Y → Type 0) (xs : List X) → AllByRecursion P (map f xs) → AllByRecursion (λ x. P (f x)) xs
all_unmap f P [] h = tt
all_unmap f P (x ∷ xs) h = (h.0, all_unmap f P xs h.1)

pub rises_unmap : {X Y : Type 0} (f : X → Y) (R : Y → Y → Ordering) (xs : List X) → IsStrictlySortedBy R (map f xs) → IsStrictlySortedBy (under f R) xs
unfolding IsStrictlySortedBy
rises_unmap f R [] h = h
rises_unmap f R (x ∷ xs) h = (all_unmap f (λ y. R (f x) y ≡ Less) xs h.0, rises_unmap f R xs h.1)

-- the members of a list that was moved
pub permuted : {X : Type 0} (P : X → Type 0) (xs ys : List X) → IsPermutation xs ys → ((x : X) → Contains xs x ↔ P x) → (x : X) → Contains ys x ↔ P x
permuted P xs ys moved each x = (λ at. (each x).0 (Contains-permutation ys xs x (IsPermutation-sym xs ys moved) at), λ p. Contains-permutation xs ys x moved ((each x).1 p))

-- the list of the rows that were added to none
pub added_listing : {X R : Type 0} (cmp : R → R → Ordering) (P : X → R → Type 0) (Q : R → Type 0) (xs : List X) (rows sorted : List R) → Adds [] (OfOne P xs) rows → IsListing cmp (Contains rows) sorted
    → ((row : R) → OfOne P xs row ↔ Q row) → IsListing cmp Q sorted
added_listing {X} {R} cmp P Q xs rows sorted a l same = same_listing cmp (Contains rows) Q sorted each l
  where
    each : (row : R) → Contains rows row ↔ Q row
    each row = (
      λ at. ⊎_elim (λ (n : Contains [] row). absurd (not_in_nil row n)) (λ (o : OfOne P xs row). (same row).0 o) ((a row).0 at),
      λ q. (a row).1 (inr ((same row).1 q)),
    )

-- rows by what is one row's alone: a listing of that, and each is a row of the kind
pub keyed_listing : {R K : Type 0} (key : R → K) (cmp : K → K → Ordering) (P : R → Type 0) (Q : K → Type 0) (rows : List R) → IsListing cmp Q (map key rows) → All P rows
    → ((r : R) → P r → Q (key r)) → ((r s : R) → P r → P s → key r ≡ key s → r ≡ s) → IsListing (under key cmp) P rows
keyed_listing key cmp P Q rows l all to one = record {
  rises = rises_unmap key cmp rows l.rises;
  each = λ r. (
    λ at. All-contains P rows r all at,
    λ p.
        let s = map_source key rows (key r) ((l.each (key r)).1 (to r p)) in
        subst (Contains rows) (one s.0 r (All-contains P rows s.0 all s.1) p s.2) s.1,
  );
}

-- the listing of none
pub no_listing : {R : Type 0} (cmp : R → R → Ordering) (P : R → Type 0) → ((row : R) → P row → ⊥) → IsListing cmp P []
unfolding IsStrictlySortedBy
no_listing cmp P never = record { rises = tt; each = λ row. (λ at. absurd (not_in_nil row at), λ h. absurd (never row h)) }
