-- The orders of tags.
use Rattle.std.proofs.Common.{◌≡◌, ◌+◌, ◌<◌, true, List, [], ◌∷◌, length, map, refl, Ordering, Less, Equal, Greater, arith, Contains}
use Rattle.std.specs.List.{AllAdjacentBelow}
use Rattle.std.specs.List.Sorted.{IsPermutation, IsStrictlySortedBy}
use Rattle.std.specs.Cmp.{IsTotalOrder, then_total, on_total, nat_cmp_total}
use Rattle.std.specs.Cmp.Lexicographic.{on_texts}
use Rattle.std.specs.Ordering.{is_lt}
use Rattle.std.proofs.lemmas.List.{get_or-map, length-map}
use Rattle.std.proofs.lemmas.List.Sorted.{Contains-permutation, IsPermutation-sym, IsPermutation-map}
use Rattle.std.proofs.lemmas.Map.Keys.{sorted_from_all_adjacent}
use Rattle.dump.specs.Places.{IsListing}
use Rattle.machine.specs.FoundTags.{FoundTag, line_cmp, name_cmp}

pub line_total : IsTotalOrder line_cmp
line_total = then_total (on_texts (λ (f : FoundTag). f.project)) (on_total (λ (f : FoundTag). f.tag.line) nat_cmp_total)

pub name_total : IsTotalOrder name_cmp
name_total = then_total (on_texts (λ (f : FoundTag). f.tag.name)) line_total

less : (o : Ordering) → true ≡ is_lt o → o ≡ Less
less Less e = refl
less Equal e = absurd cc
less Greater e = absurd cc

module _ {X V : Type 0} (value : X → V) (cmp : V → V → Ordering) (total : IsTotalOrder cmp) where
  rises : (xs : List X) → AllAdjacentBelow (λ x y. true ≡ is_lt (cmp (value x) (value y))) xs (length xs) → IsStrictlySortedBy cmp (map value xs)
  unfolding IsStrictlySortedBy
  rises [] h = tt
  rises (x ∷ xs) h = sorted_from_all_adjacent total (map value (x ∷ xs)) (value x) (λ k low.
      let short : k + 1 < length (x ∷ xs) = omega (arith, low, length-map (x ∷ xs) value) in
      let a = get_or-map value (x ∷ xs) k x (value x) (omega (arith, short)) in
      let b = get_or-map value (x ∷ xs) (k + 1) x (value x) (omega (arith, short)) in
      rw (a, b) (less _ (h k x short)))

  -- what was sorted, and rises
  pub listed : (before after : List X) → IsPermutation before after → AllAdjacentBelow (λ x y. true ≡ is_lt (cmp (value x) (value y))) after (length after)
      → IsListing cmp (Contains (map value before)) (map value after)
  listed before after moved h =
      let same = IsPermutation-map value before after moved in
      record {
        rises = rises after h;
        each = λ v. (
          (λ at. Contains-permutation (map value after) (map value before) v (IsPermutation-sym (map value before) (map value after) same) at),
          (λ at. Contains-permutation (map value before) (map value after) v same at),
        );
      }
