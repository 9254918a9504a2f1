-- The run of a list that passes a test.
use Rattle.std.proofs.Common.{◌≡◌, ◌∙◌, ℕ, zero, suc, ◌+◌, ◌-◌, ◌<◌, ◌≤◌, Bool, true, false, cond, ltb, leb, ◌==◌, List, [], ◌∷◌, length, get_or, take, drop, filter, refl, sym, ap, arith}
use Rattle.std.specs.List.Sorted.{IsPartitionPoint}

-- from an index on so many pass, and no others do
pub run : {X : Type 0} (p : X → Bool) (xs : List X) (a k : ℕ) → a + k ≤ length xs
    → ((i : ℕ) (d : X) → i < a → p (get_or xs i d) ≡ false)
    → ((i : ℕ) (d : X) → a ≤ i → i < a + k → p (get_or xs i d) ≡ true)
    → ((i : ℕ) (d : X) → a + k ≤ i → i < length xs → p (get_or xs i d) ≡ false)
    → take k (drop a xs) ≡ filter p xs
run p [] zero zero fits low mid high = refl
run p [] zero (suc k) fits low mid high = absurd (omega (arith, fits))
run p [] (suc a) k fits low mid high = absurd (omega (arith, fits))
run p (x ∷ xs) zero zero fits low mid high =
    run p xs zero zero (omega arith) (λ i d lt. absurd (omega (arith, lt))) (λ i d le lt. absurd (omega (arith, lt))) (λ i d le lt. high (suc i) d (omega arith) (omega (arith, lt)))
    ∙ sym (ap (λ b. cond b (x ∷ filter p xs) (filter p xs)) (high zero x (omega arith) (omega arith)))
run p (x ∷ xs) zero (suc k) fits low mid high =
    ap (λ ys. x ∷ ys) (run p xs zero k (omega (arith, fits)) (λ i d lt. absurd (omega (arith, lt))) (λ i d le lt. mid (suc i) d (omega arith) (omega (arith, lt))) (λ i d le lt. high (suc i) d (omega (arith, le)) (omega (arith, lt))))
    ∙ sym (ap (λ b. cond b (x ∷ filter p xs) (filter p xs)) (mid zero x (omega arith) (omega arith)))
run p (x ∷ xs) (suc a) k fits low mid high =
    run p xs a k (omega (arith, fits)) (λ i d lt. low (suc i) d (omega (arith, lt))) (λ i d le lt. mid (suc i) d (omega (arith, le)) (omega (arith, lt))) (λ i d le lt. high (suc i) d (omega (arith, le)) (omega (arith, lt)))
    ∙ sym (ap (λ b. cond b (x ∷ filter p xs) (filter p xs)) (low zero x (omega arith)))

equal_from : (m n : ℕ) → ltb m n ≡ false → leb m n ≡ true → (m == n) ≡ true
equal_from m n e f = grind (arith, e, f)

less_apart : (m n : ℕ) → ltb m n ≡ true → (m == n) ≡ false
less_apart m n e = grind (arith, e)

more_apart : (m n : ℕ) → leb m n ≡ false → (m == n) ≡ false
more_apart m n e = grind (arith, e)

module _ {X : Type 0} (n : X → ℕ) (xs : List X) (v a b : ℕ) (first : IsPartitionPoint (λ y. ltb (n y) v ≡ true) (λ y. ltb (n y) v ≡ false) xs a) (last : IsPartitionPoint (λ y. leb (n y) v ≡ true) (λ y. leb (n y) v ≡ false) xs b) where
  -- what is less doesn't end after what is at most equal
  pub in_order : a ≤ length xs → b ≤ length xs → a ≤ b
  in_order fits within = at xs first last fits within
    where
      at : (ys : List X) → IsPartitionPoint (λ y. ltb (n y) v ≡ true) (λ y. ltb (n y) v ≡ false) ys a → IsPartitionPoint (λ y. leb (n y) v ≡ true) (λ y. leb (n y) v ≡ false) ys b → a ≤ length ys → b ≤ length ys → a ≤ b
      at [] f l le more = omega (arith, le)
      at (y ∷ ys) f l le more = by (leb a b) refl
        where
          clash : b < a → ⊥
          clash lt =
              let less : ltb (n (get_or (y ∷ ys) b y)) v ≡ true = f.0 b y (omega arith) lt in
              let above : leb (n (get_or (y ∷ ys) b y)) v ≡ false = l.1 b y (omega arith) (omega (arith, lt, le)) in
              let no : false ≡ true = grind (arith, less, above) in cc

          by : (t : Bool) → leb a b ≡ t → a ≤ b
          by true e = grind (arith, e)
          by false e = absurd (clash (grind (arith, e)))

  pub part : a ≤ b → b ≤ length xs → take (b - a) (drop a xs) ≡ filter (λ y. n y == v) xs
  part le within = run (λ y. n y == v) xs a (b - a) (omega (arith, le, within))
      (λ i d lt. less_apart (n (get_or xs i d)) v (first.0 i d (omega arith) lt))
      (λ i d from lt. equal_from (n (get_or xs i d)) v (first.1 i d from (omega (arith, lt, le, within))) (last.0 i d (omega arith) (omega (arith, lt, le))))
      (λ i d from lt. more_apart (n (get_or xs i d)) v (last.1 i d (omega (arith, from, le)) lt))
