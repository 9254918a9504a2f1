use Rattle.std.proofs.Common.{◌≡◌, ◌==◌, ◌∙◌, ◌<◌, ◌≤◌, ℕ, Bool, zero, suc, List, [], ◌∷◌, ⊎_elim, length, get_or, ltb, false, true, refl, sym, ap, subst, arith}
use Rattle.std.specs.Prelude.{Contains, IfSome, IfNone}
use Rattle.std.specs.Bool.{then_some}
use Rattle.std.specs.List.Sorted.{IsNonDecreasingBy, IsPartitionPoint}
use Rattle.std.proofs.lemmas.List.{get_or_default}
use Rattle.std.proofs.lemmas.List.Elements.{Contains-get_or}
use Rattle.streams.proofs.Bools.{eq_of}
use Rattle.streams.proofs.Members.{contains_cases, not_in_nil}
use Rattle.flatten.proofs.closure.target_of.Goals as goal

-- where a member is
index_of : {X : Type 0} (xs : List X) (x : X) → Contains xs x → (i : ℕ) × (i < length xs) × ((d : X) → get_or xs i d ≡ x)
index_of [] x at = absurd (not_in_nil x at)
index_of {X} (y ∷ xs) x at = ⊎_elim (λ (e : y ≡ x). (zero, omega arith, λ d. e)) (λ (t : Contains xs x). let r = index_of xs x t in (suc r.0, omega (arith, r.1), r.2)) (contains_cases y xs x at)

module _ (pairs : List (ℕ × ℕ)) (n : ℕ) where
  target_in : (b : Bool) (p : ℕ × ℕ) → (p.0 == n) ≡ b → Contains pairs p → IfSome (then_some b p.1) (λ m. Contains pairs (n, m))
  target_in true p e at = let number : p.0 ≡ n = eq_of p.0 n e in subst (Contains pairs) (λ i. (number i, p.1)) at
  target_in false p e at = cc

  module _ (k : ℕ) (sorted : IsNonDecreasingBy (λ (p : ℕ × ℕ). p.0) pairs) (point : IsPartitionPoint (λ (p : ℕ × ℕ). ltb p.0 n ≡ true) (λ (p : ℕ × ℕ). ltb p.0 n ≡ false) pairs k) where
    -- none is out of this source where the first that isn't below it isn't
    none_out : ((d : ℕ × ℕ) → k < length pairs → ((get_or pairs k d).0 == n) ≡ false) → (m : ℕ) → Contains pairs (n, m) → ⊥
    none_out other m at = let r = index_of pairs (n, m) at in by r.0 r.1 (ap (λ (p : ℕ × ℕ). p.0) (r.2 (n, m))) (ltb r.0 k) refl
      where
        by : (i : ℕ) → i < length pairs → (get_or pairs i (n, m)).0 ≡ n → (b : Bool) → ltb i k ≡ b → ⊥
        by i lt is true e = let less : ltb (get_or pairs i (n, m)).0 n ≡ true = point.0 i (n, m) (omega arith) (grind (arith, e)) in grind (arith, is, less)
        by i lt is false e =
            let le : k ≤ i = grind (arith, e) in
            let short : k < length pairs = omega (arith, le, lt) in
            let same = other (n, m) short in
            let not_less : ltb (get_or pairs k (n, m)).0 n ≡ false = point.1 k (n, m) (omega arith) short in
            let most : (get_or pairs k (n, m)).0 ≤ (get_or pairs i (n, m)).0 = sorted k i (n, m) le lt in
            grind (arith, is, same, not_less, most)

    none_in : (b : Bool) (p : ℕ × ℕ) → (p.0 == n) ≡ b → ((d : ℕ × ℕ) → get_or pairs k d ≡ p) → IfNone (then_some b p.1) ((m : ℕ) → Contains pairs (n, m) → ⊥)
    none_in true p e at = cc
    none_in false p e at = none_out (λ d short. ap (λ (q : ℕ × ℕ). q.0 == n) (at d) ∙ e)

pub returns-clause-some : goal.returns-clause-some
returns-clause-some c =
    let p = c.in_ok-pair.pair.now in
    let n = c.args.source in
    let pairs = c.args.pairs.now in
    let lt : c.count_below.result < length pairs = grind (arith, c.in_ok-pair.ensures.lookup.0) in
    let at : Contains pairs p = subst (Contains pairs) (get_or_default pairs c.count_below.result p _ lt ∙ sym c.in_ok-pair.ensures.lookup.1) (Contains-get_or pairs c.count_below.result p lt) in
    subst (λ o. IfSome o (λ m. Contains pairs (n, m))) (sym c.then_some.ensures) (target_in pairs n (p.0 == n) p refl at)

pub returns-clause-none : goal.returns-clause-none
returns-clause-none c =
    let p = c.in_ok-pair.pair.now in
    let n = c.args.source in
    let pairs = c.args.pairs.now in
    let lt : c.count_below.result < length pairs = grind (arith, c.in_ok-pair.ensures.lookup.0) in
    subst (λ o. IfNone o ((m : ℕ) → Contains pairs (n, m) → ⊥)) (sym c.then_some.ensures) (none_in pairs n c.count_below.result c.requires c.count_below.ensures.point (p.0 == n) p refl (λ d. get_or_default pairs c.count_below.result d _ lt ∙ sym c.in_ok-pair.ensures.lookup.1))
