-- The rows of one result after those of the results before it.
use Rattle.std.proofs.Common.{◌≡◌, ◌∙◌, ◌⊎◌, inl, inr, ⊎_elim, ℕ, ◌+◌, ◌<◌, Bool, true, false, List, [], ◌∷◌, ◌++◌, length, map, take, drop, get_or, refl, sym, ap, subst}
use Rattle.std.specs.Prelude.{◌↔◌, Contains, Option, Some, None, Ok}
use Rattle.std.specs.List.{AllByRecursion, flat_map}
use Rattle.std.specs.List.Sorted.{IsStrictlySortedBy}
use Rattle.std.specs.Ordering.{nat_cmp, ordering_then}
use Rattle.std.specs.declared.cmp.Ordering.{Ordering}
use Rattle.std.specs.declared.cmp.Ordering.TheVariants.{Less}
use Rattle.std.proofs.lemmas.List.{drop_more, take-append-drop, take_more}
use Rattle.std.proofs.lemmas.List.Elements.{All-head, All-tail, Contains-append_left, Contains-append_right, Contains-append_cases}
use Rattle.lsif.specs.Element.{ElementValue, vertex, edge}
use Rattle.dump.specs.Fault.{IsFaultless}
use Rattle.dump.specs.Places.{IsListing, place_cmp}
use Rattle.flatten.specs.declared.items.FoundItem.{FoundItem}
use Rattle.flatten.specs.declared.items.Items.{Items}
use Rattle.flatten.specs.Flat.{ItemRowValue, is_result, item_cmp, number_of, role_index}
use Rattle.flatten.specs.Steps.Items.{AddsListing, AreNumberedRows, IsReachedRow, found_value, numbers_value, number_if, numbers_in}
use Rattle.flatten.specs.Steps.Numbers.{one_or_none}
use Rattle.flatten.specs.Steps.Places.{IsNumbered, by_numbers, place_value}
use Rattle.flatten.specs.Steps.Tables.{Adds, OfOne}
use Rattle.streams.proofs.Members.{contains_cases, contains_head, contains_one, contains_tail, not_in_nil}
use Rattle.dump.proofs.Listing.{same_listing}
use Rattle.flatten.proofs.Rising.{SaysNumber, rises}

-- ---- lists in order

all_of : {X : Type 0} (P : X → Type 0) (ys : List X) → ((y : X) → Contains ys y → P y) → AllByRecursion P ys
all_of P [] each = tt
all_of P (y ∷ ys) each = (each y (contains_head y ys), all_of P ys (λ z at. each z (contains_tail y ys z at)))

all_in : {X : Type 0} (P : X → Type 0) (xs : List X) → AllByRecursion P xs → (x : X) → Contains xs x → P x
all_in P [] h x at = absurd (not_in_nil x at)
all_in P (y ∷ xs) h x at = ⊎_elim (λ (e : y ≡ x). subst P e h.0) (λ (t : Contains xs x). all_in P xs h.1 x t) (contains_cases y xs x at)

all_append : {X : Type 0} (P : X → Type 0) (xs ys : List X) → AllByRecursion P xs → ((y : X) → Contains ys y → P y) → AllByRecursion P (xs ++ ys)
all_append P [] ys h each = all_of P ys each
all_append P (x ∷ xs) ys h each = (h.0, all_append P xs ys h.1 each)

sorted_append : {X : Type 0} (cmp : X → X → Ordering) (xs ys : List X) → IsStrictlySortedBy cmp xs → IsStrictlySortedBy cmp ys → ((x y : X) → Contains xs x → Contains ys y → cmp x y ≡ Less) → IsStrictlySortedBy cmp (xs ++ ys)
unfolding IsStrictlySortedBy
sorted_append cmp [] ys a b below = b
sorted_append cmp (x ∷ xs) ys a b below = (all_append (λ y. cmp x y ≡ Less) xs ys a.0 (λ y at. below x y (contains_head x xs) at), sorted_append cmp xs ys a.1 b (λ z y at bt. below z y (contains_tail x xs z at) bt))

sorted_split : {X : Type 0} (cmp : X → X → Ordering) (xs ys : List X) → IsStrictlySortedBy cmp (xs ++ ys) → (x y : X) → Contains xs x → Contains ys y → cmp x y ≡ Less
unfolding IsStrictlySortedBy
sorted_split cmp [] ys h x y at bt = absurd (not_in_nil x at)
sorted_split cmp (z ∷ xs) ys h x y at bt = ⊎_elim
    (λ (e : z ≡ x). subst (λ w. cmp w y ≡ Less) e (all_in (λ w. cmp z w ≡ Less) (xs ++ ys) h.0 y (Contains-append_right xs ys y bt)))
    (λ (t : Contains xs x). sorted_split cmp xs ys h.1 x y t bt)
    (contains_cases z xs x at)

-- ---- listings

-- the rows that were added to none, in order
pub listed_of : {R : Type 0} (cmp : R → R → Ordering) (P : R → Type 0) (rows sorted : List R) → Adds [] P rows → IsListing cmp (Contains rows) sorted → IsListing cmp P sorted
listed_of {R} cmp P rows sorted a l = same_listing cmp (Contains rows) P sorted each l
  where
    each : (row : R) → Contains rows row ↔ P row
    each row = (λ at. ⊎_elim (λ (n : Contains [] row). absurd (not_in_nil row n)) (λ (p : P row). p) ((a row).0 at), λ p. (a row).1 (inr p))

listing_more : {X R : Type 0} (cmp : R → R → Ordering) (P : X → R → Type 0) (xs : List X) (x : X) (old more : List R) → IsListing cmp (OfOne P xs) old → IsListing cmp (P x) more → ((r s : R) → OfOne P xs r → P x s → cmp r s ≡ Less) → IsListing cmp (OfOne P (xs ++ x ∷ [])) (old ++ more)
listing_more {X} {R} cmp P xs x old more a b below = record {
  rises = sorted_append cmp old more a.rises b.rises (λ r s at bt. below r s ((a.each r).0 at) ((b.each s).0 bt));
  each = λ row. (to row, back row);
}
  where
    to : (row : R) → Contains (old ++ more) row → OfOne P (xs ++ x ∷ []) row
    to row at = ⊎_elim
        (λ (o : Contains old row). let w = (a.each row).0 o in (w.0, Contains-append_left xs (x ∷ []) w.0 w.1, w.2))
        (λ (m : Contains more row). (x, Contains-append_right xs (x ∷ []) x (contains_head x []), (b.each row).0 m))
        (Contains-append_cases old more row at)

    back : (row : R) → OfOne P (xs ++ x ∷ []) row → Contains (old ++ more) row
    back row (y, among, h) = ⊎_elim
        (λ (o : Contains xs y). Contains-append_left old more row ((a.each row).1 (y, o, h)))
        (λ (l : Contains (x ∷ []) y). Contains-append_right old more row ((b.each row).1 (subst (λ z. P z row) (sym (contains_one x y l)) h)))
        (Contains-append_cases xs (x ∷ []) y among)

pub listing_none : {X R : Type 0} (cmp : R → R → Ordering) (P : X → R → Type 0) → IsListing cmp (OfOne P []) []
unfolding IsStrictlySortedBy
listing_none cmp P = record { rises = tt; each = λ row. (λ at. absurd (not_in_nil row at), λ o. absurd (not_in_nil o.0 o.1)) }

-- ---- the numbers of results rise

number_says : (o : Option ℕ) (b : Bool) → (one_or_none (number_if b o) ≡ []) ⊎ ((n : ℕ) × (o ≡ Some n) × (one_or_none (number_if b o) ≡ n ∷ []))
number_says o false = inl refl
number_says None true = inl refl
number_says (Some n) true = inr (n, refl, refl)

result_says : (d : List ElementValue) → SaysNumber d (numbers_in d)
result_says d (vertex i v) = number_says (number_of d i) (is_result (Some v))
result_says d (edge i e) = inl refl

pub results_rise : (d : List ElementValue) → IsFaultless (map Ok d) → IsStrictlySortedBy nat_cmp (flat_map (numbers_in d) d)
results_rise d free = rises d (numbers_in d) free (result_says d)

item_less : (r s : ItemRowValue) → nat_cmp r.result s.result ≡ Less → item_cmp r s ≡ Less
item_less r s e = ap (λ o. ordering_then o (ordering_then (nat_cmp (role_index r.role) (role_index s.role)) (place_cmp r.place s.place))) e

-- the rows of the results up to the next, after its rows were added
pub next_listing : (items : Items) (numbers : List ℕ) → IsStrictlySortedBy nat_cmp numbers → (k : ℕ) → k < length numbers → (old new : List ItemRowValue)
    → IsListing item_cmp (OfOne (λ n. IsReachedRow n items) (take k numbers)) old → AddsListing (IsReachedRow (get_or numbers k 0) items) old new → IsListing item_cmp (OfOne (λ n. IsReachedRow n items) (take (k + 1) numbers)) new
next_listing items numbers sorted k lt old new listed added =
    let P = λ (n : ℕ). IsReachedRow n items in
    let n = get_or numbers k 0 in
    let cut : IsStrictlySortedBy nat_cmp (take k numbers ++ drop k numbers) = subst (IsStrictlySortedBy nat_cmp) (sym (take-append-drop k numbers)) sorted in
    let here : Contains (drop k numbers) n = subst (λ l. Contains l n) (sym (drop_more numbers k 0 lt)) (contains_head n (drop (k + 1) numbers)) in
    subst (λ l. IsListing item_cmp (OfOne P l) new) (sym (take_more numbers k 0 lt)) (subst (IsListing item_cmp (OfOne P (take k numbers ++ n ∷ []))) (sym added.grown)
    (listing_more item_cmp P (take k numbers) n old added.more listed added.listed (λ r s o p. item_less r s
    (subst (λ m. nat_cmp r.result m ≡ Less) (sym p.is_number) (subst (λ m. nat_cmp m n ≡ Less) (sym o.2.is_number) (sorted_split nat_cmp (take k numbers) (drop k numbers) cut o.0 n o.1 here))))))

-- ---- rows that are found

-- where the numbers are those of the spans, the rows that they say are those of the spans
pub same_values : (rows : List FoundItem) → AreNumberedRows rows → map numbers_value rows ≡ map found_value rows
same_values [] are = refl
same_values (r ∷ rows) are =
    let here : by_numbers r.place ≡ place_value r.place = All-head (λ (f : FoundItem). IsNumbered f.place) r rows are in
    let first : numbers_value r ≡ found_value r = λ i. record { result = r.result; role = r.role; place = here i } in
    ap (λ x. x ∷ map numbers_value rows) first ∙ ap (λ xs. found_value r ∷ xs) (same_values rows (All-tail (λ (f : FoundItem). IsNumbered f.place) r rows are))
