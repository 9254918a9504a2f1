-- A sort and a `dedup` leave the list of the set of what was there.
use Rattle.std.proofs.Common.{◌≡◌, Bool, true, List, [], ◌∷◌, map, sym, ◌∙◌, subst}
use Rattle.std.specs.Prelude.{◌↔◌, Contains}
use Rattle.std.specs.List.{AllByRecursion, dedup}
use Rattle.std.specs.Cmp.{IsTotalOrder, IsEquivalence}
use Rattle.std.specs.Ordering.{eq_by_cmp}
use Rattle.std.specs.declared.cmp.Ordering.{Ordering}
use Rattle.std.specs.declared.cmp.Ordering.TheVariants.{Less}
use Rattle.std.specs.List.Sorted.{IsSorted, IsStrictlySortedBy, IsPermutation}
use Rattle.std.proofs.lemmas.Cmp.{eq_by_cmp_equiv}
use Rattle.std.proofs.lemmas.List.Kept.{IsStrictlySortedBy-dedup, Any-dedup, Contains-from_dedup}
use Rattle.std.proofs.lemmas.List.Sorted.{Contains-permutation, IsPermutation-sym}
use Rattle.dump.specs.Places.{IsListing}
use Rattle.streams.proofs.Members.{contains_map, map_source}

abbrev pub under : {X Y : Type 0} → (X → Y) → (Y → Y → Ordering) → X → X → Ordering
under f R a b = R (f a) (f b)

all_map : {X Y : Type 0} (f : X → Y) (P : Y → Type 0) (xs : List X) → AllByRecursion (λ x. P (f x)) xs → AllByRecursion P (map f xs)
all_map f P [] h = tt
all_map f P (x ∷ xs) h = (h.0, all_map f P xs h.1)

pub rises_map : {X Y : Type 0} (f : X → Y) (R : Y → Y → Ordering) (xs : List X) → IsStrictlySortedBy (under f R) xs → IsStrictlySortedBy R (map f xs)
unfolding IsStrictlySortedBy
rises_map f R [] h = h
rises_map f R (x ∷ xs) h = (all_map f (λ y. R (f x) y ≡ Less) xs h.0, rises_map f R xs h.1)

module _ {X Y : Type 0} (f : X → Y) (R : Y → Y → Ordering) (o : IsTotalOrder (under f R)) (E : X → X → Bool) (ties : (x y : X) → E x y ≡ eq_by_cmp (under f R) x y) (same : (x y : X) → E x y ≡ true → f x ≡ f y) where
  equiv : IsEquivalence E
  equiv = subst IsEquivalence (λ i x y. sym (ties x y) i) (eq_by_cmp_equiv o)

  kept : (ys : List X) (v : Y) → Contains (map f ys) v → Contains (map f (dedup E ys)) v
  kept ys v at =
      let s = map_source f ys v at in
      let a = Any-dedup equiv ys s.0 s.1 in
      subst (Contains (map f (dedup E ys))) (sym (same s.0 a.1 a.4) ∙ s.2) (contains_map f (dedup E ys) a.1 (a.0, a.2, a.3))

  from : (xs ys : List X) (v : Y) → ((x : X) → Contains xs x → Contains ys x) → Contains (map f xs) v → Contains (map f ys) v
  from xs ys v to at = let s = map_source f xs v at in subst (Contains (map f ys)) s.2 (contains_map f ys s.0 (to s.0 s.1))

  -- what a sort and a `dedup` leave
  pub sorted_listing : (xs ys zs : List X) → IsPermutation xs ys → IsSorted (under f R) ys → zs ≡ dedup E ys → IsListing R (Contains (map f xs)) (map f zs)
  sorted_listing xs ys zs moved up is = rw is (record {
    rises = rises_map f R (dedup E ys) (IsStrictlySortedBy-dedup o ties ys up);
    each = λ v. (
      λ at. from ys xs v (λ x h. Contains-permutation ys xs x (IsPermutation-sym xs ys moved) h) (from (dedup E ys) ys v (λ x h. Contains-from_dedup E ys x h) at),
      λ at. kept ys v (from xs ys v (λ x h. Contains-permutation xs ys x moved h) at),
    );
  })

-- the list of the same set
pub same_listing : {X : Type 0} (cmp : X → X → Ordering) (P Q : X → Type 0) (xs : List X) → ((x : X) → P x ↔ Q x) → IsListing cmp P xs → IsListing cmp Q xs
same_listing cmp P Q xs same l = record { rises = l.rises; each = λ x. (λ at. (same x).0 ((l.each x).0 at), λ q. (l.each x).1 ((same x).1 q)) }
