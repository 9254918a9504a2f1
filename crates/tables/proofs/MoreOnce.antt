-- Why a row of `more` that a range or a bearer before has is known before it's put: rows come in
-- order, and those of one line have the same results.
use Rattle.std.proofs.Common.{◌≡◌, ◌<◌, ◌≤◌, ◌-◌, ◌++◌, inl, inr, ℕ, zero, suc, Bool, true, false, List, [], ◌∷◌, length, map, flat_map, get_or, slice_get, ltb, Some, Err, refl, sym, ap, subst, ◌∙◌, arith}
use Rattle.std.specs.declared.cmp.Ordering.{Ordering}
use Rattle.std.specs.declared.cmp.Ordering.TheVariants.{Less, Equal, Greater}
use Rattle.std.specs.Ordering.{nat_cmp, ordering_index, ordering_then}
use Rattle.std.specs.List.Sorted.{IsBinarySearchResult, IsPartitionPoint, IsStrictlySortedBy}
use Rattle.std.proofs.lemmas.Bool.Decides.{nat_tests}
use Rattle.std.proofs.lemmas.Map.Keys.{Less-from_sorted}
use Rattle.std.proofs.lemmas.List.{length-map, get_or-map, get_or_append_left, get_or-append-add, length-append}
use Rattle.sqlite_value.specs.Order.{Row}
use Rattle.sqlite_rules.specs.Lists.{Has}
use Rattle.sqlite_rules.proofs.ListLemmas.{contains_had, has_left, has_right}
use Rattle.lsif.specs.declared.profile.Profile.TheVariants.{One}
use Rattle.dump.specs.Progress.{DumpValue}
use Rattle.flatten.specs.declared.rows.RangeRow.{RangeRow}
use Rattle.flatten.specs.declared.rows.BearerRow.{BearerRow}
use Rattle.flatten.specs.declared.rows.Rows.{Rows}
use Rattle.flatten.specs.Flat.{ResultsValue, by_line, bearer_cmp}
use Rattle.flatten.specs.declared.results.Results.{Results}
use Rattle.flatten.specs.Rows.{range_value, bearer_value, results_value}
use Rattle.tables.specs.Columns.{number, kind_columns, more_columns, range_more, bearer_more}
use Rattle.tables.specs.Kinds.{more_kinds}
use Rattle.tables.specs.Steps.Known.{IsKnown}
use Rattle.tables.specs.Steps.Next.{IsNext}
use Rattle.tables.proofs.Keeping.{to_map}
use Rattle.tables.proofs.LineResults.{from_columns, one_known}
use Rattle.tables.proofs.Puts.{from_flat}

-- ---- places in lists

place_of : {X : Type 0} (xs : List X) (x : X) → Has xs x → (i : ℕ) × (i < length xs) × ((d : X) → get_or xs i d ≡ x)
place_of [] x h = absurd h
place_of (y ∷ xs) x (inl e) = (zero, omega arith, λ d. sym e)
place_of (y ∷ xs) x (inr h) = let r = place_of xs x h in (suc r.0, omega (arith, r.1), r.2)

-- ---- ranges

ranges_rise : (ranges : List RangeRow) → IsStrictlySortedBy by_line (map range_value ranges) → (i j : ℕ) (d : RangeRow) → i < j → j < length ranges → (get_or ranges i d).line < (get_or ranges j d).line
ranges_rise ranges up i j d before within =
    let less = Less-from_sorted by_line (map range_value ranges) i j (range_value d) up before (omega (arith, length-map ranges range_value)) in
    let first = get_or-map range_value ranges i d (range_value d) (omega arith) in
    let second = get_or-map range_value ranges j d (range_value d) within in
    let lines : nat_cmp (get_or ranges i d).line (get_or ranges j d).line ≡ Less = rw (first, second) at less in
    grind (arith, nat_tests, lines)

module _ (ranges : List RangeRow) (up : IsStrictlySortedBy by_line (map range_value ranges)) (line : ℕ) where
  abbrev order : RangeRow → Ordering
  order r = nat_cmp r.line line

  rises_by : (a b : ℕ) (d : RangeRow) → a ≤ b → b < length ranges → (t : Bool) → ltb a b ≡ t → ordering_index (order (get_or ranges a d)) ≤ ordering_index (order (get_or ranges b d))
  rises_by a b d le within true e = let lines = ranges_rise ranges up a b d (grind (arith, e)) within in grind (arith, nat_tests, lines)
  rises_by a b d le within false e = let same : a ≡ b = grind (arith, e, le) in subst (λ n. ordering_index (order (get_or ranges a d)) ≤ ordering_index (order (get_or ranges n d))) same (omega arith)

  module _ (i : ℕ) (parted : IsPartitionPoint (λ r. order r ≡ Less) (λ r. order r ≡ Greater) ranges i) (r : RangeRow) where
    on_no_side : (k : ℕ) → k < length ranges → (get_or ranges k r).line ≡ line → (t : Bool) → ltb k i ≡ t → ⊥
    on_no_side k within is true e = let less = parted.0 k r (omega arith) (grind (arith, e)) in grind (arith, nat_tests, less, is)
    on_no_side k within is false e = let greater = parted.1 k r (grind (arith, e)) within in grind (arith, nat_tests, greater, is)

  -- a search by line misses no range of the line
  pub none_missed : (i : ℕ) → IsBinarySearchResult order ranges (Err i) → (r : RangeRow) → Has ranges r → r.line ≡ line → ⊥
  none_missed i searched r there at =
      let k = place_of ranges r there in
      on_no_side i (searched (λ a b d le within. rises_by a b d le within (ltb a b) refl)) r k.0 k.1 (ap (λ (x : RangeRow). x.line) (k.2 r) ∙ at) (ltb k.0 i) refl

-- ---- bearers

first_of : (m n : ℕ) (more : Ordering) → (o : Ordering) → nat_cmp m n ≡ o → ordering_then o more ≡ Less → m ≤ n
first_of m n more Less e less = grind (arith, nat_tests, e)
first_of m n more Equal e less = grind (arith, nat_tests, e)
first_of m n more Greater e less = absurd cc

bearers_rise : (bearers : List BearerRow) → IsStrictlySortedBy bearer_cmp (map bearer_value bearers) → (i j : ℕ) (d : BearerRow) → i < j → j < length bearers → (get_or bearers i d).line ≤ (get_or bearers j d).line
bearers_rise bearers up i j d before within =
    let less = Less-from_sorted bearer_cmp (map bearer_value bearers) i j (bearer_value d) up before (omega (arith, length-map bearers bearer_value)) in
    let first = get_or-map bearer_value bearers i d (bearer_value d) (omega arith) in
    let second = get_or-map bearer_value bearers j d (bearer_value d) within in
    let lines : bearer_cmp (bearer_value (get_or bearers i d)) (bearer_value (get_or bearers j d)) ≡ Less = rw (first, second) at less in
    first_of (get_or bearers i d).line (get_or bearers j d).line _ _ refl lines

-- ---- one line

-- two lines that have one row are one
one_row : (l m : ℕ) (r s : ResultsValue) (row : Row) → Has (more_columns l r) row → Has (more_columns m s) row → l ≡ m
one_row l m r s row first second =
    let a = from_columns l r row first in
    let b = from_columns m s row second in
    let same : ◌≡◌ {A = Row} (number l ∷ kind_columns more_kinds r) (number m ∷ kind_columns more_kinds s) = sym a.1 ∙ b.1 in
    let x = same in cc

module _ (rows : Rows) (earlier : List BearerRow) (bearer : BearerRow) (next : IsNext rows earlier bearer) where
  abbrev dump : DumpValue
  dump = record { elements = next.elements; profile = One }

  known_bearer : (b : BearerRow) → Has rows.bearers.items b → IsKnown dump b.line (bearer_value b).results
  known_bearer b there = inr (bearer_value b, (next.is_flat.bearers.each (bearer_value b)).0 (contains_had (map bearer_value rows.bearers.items) (bearer_value b) (to_map bearer_value rows.bearers.items b there)), refl, refl)

  known_range : (r : RangeRow) → Has rows.ranges.items r → IsKnown dump r.line (range_value r).results
  known_range r there = inl (range_value r, (next.is_flat.ranges.each (range_value r)).0 (contains_had (map range_value rows.ranges.items) (range_value r) (to_map range_value rows.ranges.items r there)), refl, refl)

  this_known : IsKnown dump bearer.line (bearer_value bearer).results
  this_known = known_bearer bearer (subst (λ l. Has l bearer) (sym next.are) (has_right earlier (bearer ∷ next.later) bearer (inl refl)))

  -- the line is the bearer's, and so is what `more` has of these results
  abbrev SameMore : ℕ → Results → Type 0
  SameMore line results =
      (bearer.line ≡ line) × (map (results_value bearer.results) more_kinds ≡ map (results_value results) more_kinds)

  -- a range of the bearer's line has its row
  pub same_range : (r : RangeRow) → Has rows.ranges.items r → bearer.line ≡ r.line → SameMore r.line r.results
  same_range r there at =
      let same = one_known dump r.line (bearer_value bearer).results (range_value r).results (subst (λ n. IsKnown dump n (bearer_value bearer).results) at this_known) (known_range r there) in
      (at, ap (λ (x : ResultsValue). map x more_kinds) same)

  same_bearer : (b : BearerRow) → Has earlier b → bearer.line ≡ b.line → SameMore b.line b.results
  same_bearer b there at =
      let known = known_bearer b (subst (λ l. Has l b) (sym next.are) (has_left earlier (bearer ∷ next.later) b there)) in
      let same = one_known dump b.line (bearer_value bearer).results (bearer_value b).results (subst (λ n. IsKnown dump n (bearer_value bearer).results) at this_known) known in
      (at, ap (λ (x : ResultsValue). map x more_kinds) same)

  module _ (row : Row) (has : Has (bearer_more (bearer_value bearer)) row) where
    -- the range that has the row is of the bearer's line
    pub range_of_row : Has (flat_map (λ r. range_more (range_value r)) rows.ranges.items) row → (r : RangeRow) × Has rows.ranges.items r × (r.line ≡ bearer.line)
    range_of_row h =
        let it = from_flat (λ (r : RangeRow). range_more (range_value r)) rows.ranges.items row h in
        (it.0, it.1, one_row it.0.line bearer.line (results_value it.0.results) (results_value bearer.results) row it.2 has)

    abbrev all : List BearerRow
    all = earlier ++ bearer ∷ next.later

    up : IsStrictlySortedBy bearer_cmp (map bearer_value all)
    up = subst (λ l. IsStrictlySortedBy bearer_cmp (map bearer_value l)) next.are next.is_flat.bearers.rises

    module _ (last : BearerRow) (n : ℕ) (long : length earlier ≡ suc n) (is : get_or earlier n last ≡ last) where
      all_long : suc n < length all
      all_long = omega (arith, long, length-append earlier (bearer ∷ next.later))

      at_last : get_or all n last ≡ last
      at_last = get_or_append_left earlier (bearer ∷ next.later) last n (omega (arith, long)) ∙ is

      at_this : get_or all (suc n) last ≡ bearer
      at_this = ap (λ k. get_or all k last) (omega (arith, long)) ∙ get_or-append-add earlier (bearer ∷ next.later) 0 last

      below : last.line ≤ bearer.line
      below = rw (at_last, at_this) at (bearers_rise all up n (suc n) last (omega arith) all_long)

      above_by : (b : BearerRow) (k : ℕ) → k < length earlier → get_or all k last ≡ b → (t : Bool) → ltb k n ≡ t → b.line ≤ last.line
      above_by b k low is_it true e = rw (is_it, at_last) at (bearers_rise all up k n last (grind (arith, e)) (omega (arith, all_long)))
      above_by b k low is_it false e =
          let same : k ≡ n = grind (arith, e, low, long) in
          let one : b ≡ last = sym is_it ∙ (ap (λ i. get_or all i last) same ∙ at_last) in
          subst (λ (c : BearerRow). c.line ≤ last.line) (sym one) (omega arith)

      above : (b : BearerRow) → Has earlier b → b.line ≤ last.line
      above b there =
          let k = place_of earlier b there in
          above_by b k.0 k.1 (get_or_append_left earlier (bearer ∷ next.later) last k.0 k.1 ∙ k.2 last) (ltb k.0 n) refl

      -- where a bearer before has the row, the last before has what this one has
      pub last_same : Has earlier last → Has (flat_map (λ b. bearer_more (bearer_value b)) earlier) row → SameMore last.line last.results
      last_same there h =
          let it = from_flat (λ (b : BearerRow). bearer_more (bearer_value b)) earlier row h in
          let at = one_row it.0.line bearer.line (results_value it.0.results) (results_value bearer.results) row it.2 has in
          same_bearer last there (omega (arith, at, below, above it.0 it.1))

-- ---- the last of some

got_at : {X : Type 0} (xs : List X) (i : ℕ) (x : X) → slice_get xs i ≡ Some x → get_or xs i x ≡ x
got_at [] i x e = absurd cc
got_at (y ∷ xs) zero x e = cc
got_at (y ∷ xs) (suc i) x e = got_at xs i x e

pub last_at : {X : Type 0} (xs : List X) (x : X) → slice_get xs (length xs - 1) ≡ Some x → (n : ℕ) × (length xs ≡ suc n) × (get_or xs n x ≡ x)
last_at [] x e = absurd cc
last_at (y ∷ xs) x e = (length xs, refl, got_at (y ∷ xs) (length xs) x (subst (λ k. slice_get (y ∷ xs) k ≡ Some x) (omega arith) e))
