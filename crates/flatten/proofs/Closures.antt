-- What a walk along the pairs has found.
use Rattle.std.proofs.Common.{◌≡◌, inl, inr, ⊎_elim, ◌∙◌, ℕ, ◌+◌, ◌<◌, ◌≤◌, Bool, eqb, ◌==◌, List, [], ◌∷◌, length, get_or, map, filter, IsSorted, refl, sym, ap, subst, arith, length-append}
use Rattle.std.specs.Prelude.{Contains, ◌↔◌, IsPermutation}
use Rattle.std.proofs.lemmas.Bool.{cases_lt}
use Rattle.std.proofs.lemmas.List.{get_or_default}
use Rattle.std.proofs.lemmas.List.Elements.{Contains-get_or}
use Rattle.std.proofs.lemmas.List.Sorted.{Contains-permutation, IsPermutation-sym}
use Rattle.std.proofs.lemmas.List.Kept.{IsStrictlySortedBy-dedup, Contains-dedup_nat, Contains-from_dedup}
use Rattle.std.proofs.lemmas.Map.Views.{exact_unsigned_eq}
use Rattle.std.specs.Cmp.{nat_cmp_total, unsigned_ties}
use Rattle.std.specs.List.{dedup}
use Rattle.dump.specs.Places.{IsListing}
use Rattle.dump.specs.Walks.{Path, stays, goes}
use Rattle.std.specs.Ordering.{nat_cmp}
use Rattle.flatten.specs.Reached.{IsReached}
use Rattle.flatten.specs.Steps.Found.{Gains}
use Rattle.flatten.proofs.Gaining.{gains_front}
use Rattle.streams.proofs.Members.{contains_map, contains_one, map_source, one_contains, filter_keeps, filter_source}

-- what is found is reached, and what the pairs join to the first so many of it is found
pub record Going (starts : List ℕ) (pairs : List (ℕ × ℕ)) (found : List ℕ) (done : ℕ) : Type 0 where
  pub within : done ≤ length found
  pub kept : (y : ℕ) → Contains starts y → Contains found y
  pub reached : (y : ℕ) → Contains found y → IsReached starts pairs y
  pub closed : (i d z : ℕ) → i < done → Contains pairs (get_or found i d, z) → Contains found z

pub going_first : (starts : List ℕ) (pairs : List (ℕ × ℕ)) → Going starts pairs starts 0
going_first starts pairs = record {
  within = omega arith;
  kept = λ y at. at;
  reached = λ y at. (y, at, stays);
  closed = λ i d z lt at. absurd (omega (arith, lt));
}

-- the targets of the next number are added
pub going_more : (starts : List ℕ) (pairs : List (ℕ × ℕ)) (found new : List ℕ) (done source : ℕ) → Going starts pairs found done → done < length found → source ≡ get_or found done source
    → Gains found (map (λ p. p.1) (filter (λ p. p.0 == source) pairs)) new → Going starts pairs new (done + 1)
going_more starts pairs found new done source g lt is h = record {
  within = let long = longer in omega (arith, long, lt);
  kept = λ y at. (h.each y).1 (inl (g.kept y at));
  reached = λ y at. ⊎_elim (λ (o : Contains found y). g.reached y o) (λ (t : Contains targets y). by_pair y t) ((h.each y).0 at);
  closed = λ i d z less at. by_index i d z less at;
}
  where
    out : ℕ × ℕ → Bool
    out p = p.0 == source

    targets : List ℕ
    targets = map (λ p. p.1) (filter (λ p. p.0 == source) pairs)

    longer : length found ≤ length new
    longer = subst (λ zs. length found ≤ length zs) (sym h.grown) (omega (arith, length-append found h.more))

    by_pair : (y : ℕ) → Contains targets y → IsReached starts pairs y
    by_pair y t =
        let m = map_source (λ (p : ℕ × ℕ). p.1) (filter out pairs) y t in
        let f = filter_source out pairs m.0 m.1 in
        let same : m.0.0 ≡ source = exact_unsigned_eq m.0.0 source f.1 in
        let whole : m.0 ≡ (source, y) = λ i. (same i, m.2 i) in
        let r = g.reached source (subst (Contains found) (sym is) (Contains-get_or found done source lt)) in
        (r.0, r.1, goes y r.2 (subst (Contains pairs) whole f.0))

    by_index : (i d z : ℕ) → i < done + 1 → Contains pairs (get_or new i d, z) → Contains new z
    by_index i d z less at =
        let here : get_or new i d ≡ get_or found i d = gains_front found targets new h i d (omega (arith, less, lt)) in
        let pair : Contains pairs (get_or found i d, z) = subst (λ v. Contains pairs (v, z)) here at in
        elim (cases_lt i done) [
          | inl before ↦ (h.each z).1 (inl (g.closed i d z before pair))
          | inr after ↦
              let last : i ≡ done = omega (arith, less, after) in
              let there : get_or found i d ≡ source = ap (λ j. get_or found j d) last ∙ get_or_default found done d source lt ∙ sym is in
              (h.each z).1 (inr (contains_map (λ (p : ℕ × ℕ). p.1) (filter out pairs) (source, z) (filter_keeps out pairs (source, z) (subst (λ v. Contains pairs (v, z)) there pair) (grind arith))))
        ]

-- where each number is done, what is reached is found
pub going_all : (starts : List ℕ) (pairs : List (ℕ × ℕ)) (found : List ℕ) (done : ℕ) → Going starts pairs found done → length found ≤ done → (y : ℕ) → Contains found y ↔ IsReached starts pairs y
going_all starts pairs found done g le y = (λ at. g.reached y at, λ r. along r.0 y r.1 r.2)
  where
    along : (x z : ℕ) → Contains starts x → Path pairs x z → Contains found z
    along x z at stays = g.kept x at
    along x z at (goes {y = w} v path pair) =
        let known = along x w at path in
        g.closed known.0 w v (omega (arith, known.1, le)) (subst (λ u. Contains pairs (u, v)) (sym known.2) pair)

pub wider : {X : Type 0} (ps qs : List (X × X)) → ((q : X × X) → Contains ps q → Contains qs q) → (x y : X) → Path ps x y → Path qs x y
wider ps qs sub x y stays = stays
wider ps qs sub x y (goes {y = w} z path at) = goes z (wider ps qs sub x w path) (sub (w, z) at)

-- the same numbers by other lists of the same starts and the same pairs
pub relisted : (starts first all : List ℕ) (pairs sorted : List (ℕ × ℕ)) (xs : List ℕ) → IsPermutation pairs sorted → ((y : ℕ) → Contains first y ↔ Contains starts y) → ((y : ℕ) → Contains all y ↔ IsReached first sorted y)
    → IsListing nat_cmp (Contains all) xs → IsListing nat_cmp (IsReached starts pairs) xs
relisted starts first all pairs sorted xs moved begins reached h = record {
  rises = h.rises;
  each = λ y. (
    λ at. let r = (reached y).0 ((h.each y).0 at) in (r.0, (begins r.0).0 r.1, wider sorted pairs (λ q b. Contains-permutation sorted pairs q (IsPermutation-sym pairs sorted moved) b) r.0 y r.2),
    λ r. (h.each y).1 ((reached y).1 (r.0, (begins r.0).1 r.1, wider pairs sorted (λ q b. Contains-permutation pairs sorted q moved b) r.0 y r.2)),
  );
}

-- numbers that were put in order, and then each taken once
pub listed : (xs ys zs : List ℕ) → IsPermutation xs ys → IsSorted nat_cmp ys → zs ≡ dedup eqb ys → IsListing nat_cmp (Contains xs) zs
listed xs ys zs moved up is = rw is (record {
  rises = IsStrictlySortedBy-dedup nat_cmp_total unsigned_ties ys up;
  each = λ v. (
    λ at. Contains-permutation ys xs v (IsPermutation-sym xs ys moved) (Contains-from_dedup eqb ys v at),
    λ at. Contains-dedup_nat ys v (Contains-permutation xs ys v moved at),
  );
})

-- what is reached from one number
pub reached_from : (start : ℕ) (first all : List ℕ) (pairs : List (ℕ × ℕ)) → ((y : ℕ) → Contains first y ↔ Contains (start ∷ []) y) → ((y : ℕ) → Contains all y ↔ IsReached first pairs y) → (y : ℕ) → Contains all y ↔ Path pairs start y
reached_from start first all pairs begins reached y = (
  λ at. let r = (reached y).0 at in subst (λ x. Path pairs x y) (sym (contains_one start r.0 ((begins r.0).0 r.1))) r.2,
  λ path. (reached y).1 (start, (begins start).1 (one_contains start start refl), path),
)
