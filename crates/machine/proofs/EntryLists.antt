-- The entries of a map with text keys, and lists made of them in order.
use Rattle.std.proofs.Common.{◌≡◌, ◌∙◌, ⊎_elim, ℕ, zero, suc, true, List, [], ◌∷◌, ◌++◌, ap, subst, slice_get}
use Rattle.std.specs.Prelude.{Some, String, string_bytes, Contains}
use Rattle.std.specs.BTreeMap.{BTreeMap, IsOrdered, get_by_text, is_at}
use Rattle.std.specs.Cmp.Lexicographic.{slice_cmp, texts_ties}
use Rattle.std.specs.List.{AllByRecursion}
use Rattle.std.specs.List.Sorted.{IsStrictlySortedBy}
use Rattle.std.specs.Ordering.{is_eq, nat_cmp}
use Rattle.std.specs.String.{string_cmp, string_cmp_total}
use Rattle.std.specs.declared.cmp.Ordering.{Ordering}
use Rattle.std.specs.declared.cmp.Ordering.TheVariants.{Less}
use Rattle.std.proofs.lemmas.Map.Entries.{place_from_lookup, btree_map_get_place}
use Rattle.std.proofs.lemmas.List.Elements.{Contains-append_cases}
use Rattle.streams.proofs.Lists.{text_eq}
use Rattle.streams.proofs.Members.{contains_head, contains_tail, contains_cases, not_in_nil}

-- ---- members by their places

pub place_of : {X : Type 0} (xs : List X) (x : X) → Contains xs x → (i : ℕ) × (slice_get xs i ≡ Some x)
place_of [] x at = absurd (not_in_nil x at)
place_of (y ∷ xs) x at = ⊎_elim (λ (e : y ≡ x). (zero, ap Some e)) (λ (t : Contains xs x). let r = place_of xs x t in (suc r.0, r.1)) (contains_cases y xs x at)

pub at_place : {X : Type 0} (xs : List X) (i : ℕ) (x : X) → slice_get xs i ≡ Some x → Contains xs x
at_place [] zero x e = cc
at_place [] (suc i) x e = cc
at_place (y ∷ xs) zero x e = let same : y ≡ x = cc in subst (Contains (y ∷ xs)) same (contains_head y xs)
at_place (y ∷ xs) (suc i) x e = contains_tail y xs x (at_place xs i x e)

-- ---- look-ups

pub text_same : (xs ys : List ℕ) → is_eq (slice_cmp nat_cmp xs ys) ≡ true → xs ≡ ys
text_same xs ys e = text_eq xs ys (texts_ties xs ys ∙ e)

module _ {Y X : Type 0} (m : BTreeMap (String Y) X) where
  pub entry_found : IsOrdered string_cmp m → (e : String Y × X) → Contains m.entries e → get_by_text m (string_bytes e.0) ≡ Some e.1
  entry_found ordered e at = let p = place_of m.entries e at in btree_map_get_place string_cmp_total m p.0 e.0 e.1 ordered p.1

  pub found_entry : (name : List ℕ) (v : X) → get_by_text m name ≡ Some v → (k : String Y) × Contains m.entries (k, v) × (name ≡ string_bytes k)
  found_entry name v e =
      let p = place_from_lookup (is_at (λ (k : String Y). slice_cmp nat_cmp name (string_bytes k))) m.entries v e in
      (p.1, at_place m.entries p.0 (p.1, v) p.2, text_same name (string_bytes p.1) p.3)

-- ---- lists in order

pub all_of : {X : Type 0} (P : X → Type 0) (xs : List X) → ((x : X) → Contains xs x → P x) → AllByRecursion P xs
all_of P [] h = tt
all_of P (x ∷ xs) h = (h x (contains_head x xs), all_of P xs (λ y at. h y (contains_tail x xs y at)))

pub in_all : {X : Type 0} (P : X → Type 0) (xs : List X) (x : X) → AllByRecursion P xs → Contains xs x → P x
in_all P [] x h at = absurd (not_in_nil x at)
in_all P (y ∷ xs) x h at = ⊎_elim (λ (e : y ≡ x). subst P e h.0) (λ (t : Contains xs x). in_all P xs x h.1 t) (contains_cases y xs x at)

pub rises_cons : {X : Type 0} (R : X → X → Ordering) (x : X) (xs : List X) → ((y : X) → Contains xs y → R x y ≡ Less) → IsStrictlySortedBy R xs → IsStrictlySortedBy R (x ∷ xs)
unfolding IsStrictlySortedBy
rises_cons R x xs below up = (all_of (λ y. R x y ≡ Less) xs below, up)

pub rises_nil : {X : Type 0} (R : X → X → Ordering) → IsStrictlySortedBy R []
unfolding IsStrictlySortedBy
rises_nil R = tt

pub rises_head : {X : Type 0} (R : X → X → Ordering) (x : X) (xs : List X) → IsStrictlySortedBy R (x ∷ xs) → (y : X) → Contains xs y → R x y ≡ Less
unfolding IsStrictlySortedBy
rises_head R x xs up y at = in_all (λ z. R x z ≡ Less) xs y up.0 at

pub rises_tail : {X : Type 0} (R : X → X → Ordering) (x : X) (xs : List X) → IsStrictlySortedBy R (x ∷ xs) → IsStrictlySortedBy R xs
unfolding IsStrictlySortedBy
rises_tail R x xs up = up.1

pub rises_append : {X : Type 0} (R : X → X → Ordering) (xs ys : List X) → IsStrictlySortedBy R xs → IsStrictlySortedBy R ys → ((x y : X) → Contains xs x → Contains ys y → R x y ≡ Less) → IsStrictlySortedBy R (xs ++ ys)
rises_append R [] ys up after below = after
rises_append R (x ∷ xs) ys up after below =
    rises_cons R x (xs ++ ys)
    (λ y at. ⊎_elim (λ (h : Contains xs y). rises_head R x xs up y h) (λ (t : Contains ys y). below x y (contains_head x xs) t) (Contains-append_cases xs ys y at))
    (rises_append R xs ys (rises_tail R x xs up) after (λ z y at t. below z y (contains_tail x xs z at) t))
