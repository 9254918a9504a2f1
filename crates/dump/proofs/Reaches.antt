-- Which spans of a list in order a further span may conflict with.
use Rattle.std.proofs.Common.{◌≡◌, ◌⊎◌, inl, inr, ◌∙◌, ◌&&◌, ◌||◌, ◌++◌, ◌∷◌, [], ℕ, zero, suc, ◌+◌, ◌-◌, ◌≤◌, ◌<◌, Bool, true, false, not, nat_lt, List, length, take, drop, get_or, IsPermutation, refl, sym, ap, ap₂, subst, append_assoc, append-nil, arith}
use Rattle.std.specs.List.{list_any}
use Rattle.std.specs.Ordering.{is_lt}
use Rattle.std.proofs.lemmas.Bool.{cases_eq, cases_lt}
use Rattle.std.proofs.lemmas.List.{get_or_default, get_or_push, get_or_append_left, length_push, take-append-drop}
use Rattle.std.proofs.lemmas.List.Folds.{list_any_at, list_any-append}
use Rattle.std.proofs.lemmas.List.Concat.{flat_map-append}
use Rattle.std.specs.List.Sorted.{IsPartitionedBy}
use Rattle.std.proofs.lemmas.List.Sorted.{sorted_far, ranks_by, IsPermutation-trans, IsPermutation-append_right, list_any-IsPermutation}
use Rattle.streams.proofs.Lists.{drop_next, drop_end}
use Rattle.streams.proofs.Bools.{and_both, or_none, not_false, absurd_true, or_left}
use Rattle.positions.specs.Position.{PositionValue, is_before}
use Rattle.positions.specs.Span.{SpanValue, nests, overlaps}
use Rattle.dump.specs.Contained.{conflicts, any_conflicts, has_conflict}
use Rattle.dump.specs.declared.sorted_spans.Link.{Link}
use Rattle.dump.specs.Steps.Spans.{span_order, GoesOn, IsOrdered, HasLinks, JumpsTo, TwoJumps, goes_by, conflicts_before, joined}
use Rattle.dump.proofs.Conflicts.{has_conflict-append, has_conflict-permutation}
use Rattle.dump.proofs.Merges.{not_both}
use Rattle.dump.proofs.Nests.{equal_positions, either_conflict}
use Rattle.dump.proofs.Passes.{not_true, at_most, less_at_most, one_way, NotAfter, not_after, each_not_after, same_position, apart_no_nests, plain_conflict, overlap_apart, first_end, reaches, true_is, span_total}

-- ---- links

-- what is known of links, for one that was read
module _ (spans : List SpanValue) (links : List Link) (h : HasLinks spans links) (i : ℕ) (link : Link) (less : i < length links) (is : link ≡ get_or links i link) where
  pub is_below : (link.next ≤ i) × (link.jump ≤ i)
  is_below = subst (λ (l : Link). (l.next ≤ i) × (l.jump ≤ i)) (sym is) (h.below i link less)

  over_at : (k : ℕ) (d : SpanValue) → link.next ≤ k → k < i → is_before (get_or spans i d).«end» (get_or spans k d).«end» ≡ false
  over_at k d = subst (λ (l : Link). l.next ≤ k → k < i → is_before (get_or spans i d).«end» (get_or spans k d).«end» ≡ false) (sym is) (h.over i k link d less)

  far_at : (k : ℕ) (d : SpanValue) → 0 < link.jump → link.jump ≤ k → k ≤ i → is_before (get_or spans (link.jump - 1) d).«end» (get_or spans k d).«end» ≡ false
  far_at k d = subst (λ (l : Link). 0 < l.jump → l.jump ≤ k → k ≤ i → is_before (get_or spans (l.jump - 1) d).«end» (get_or spans k d).«end» ≡ false) (sym is) (h.far i k link d less)

-- the span at the end of so many ends no later than the position: neither do those from where a
-- climb goes on
pub over_more : (spans : List SpanValue) (links : List Link) (count at further : ℕ) (p : PositionValue) (s : SpanValue) (link : Link) → HasLinks spans links → count ≤ length links → count ≤ length spans
    → 0 < at → at ≤ count → s ≡ get_or spans (at - 1) s → is_before p s.«end» ≡ false → link ≡ get_or links (at - 1) link → GoesOn spans link p further
    → ((k : ℕ) (d : SpanValue) → at ≤ k → k < count → is_before p (get_or spans k d).«end» ≡ false)
    → (k : ℕ) (d : SpanValue) → further ≤ k → k < count → is_before p (get_or spans k d).«end» ≡ false
over_more spans links count at further p s link h known bound some below is here there goes above k d le lt = elim (cases_lt k at) [
  | inl less ↦ elim goes [
    | inl next ↦ by_next (omega (arith, next, le)) (omega arith)
    | inr jump ↦ at_most (get_or spans k d).«end» (get_or spans (further - 1) d).«end» p
        (subst (λ (f : ℕ). is_before (get_or spans (f - 1) d).«end» (get_or spans k d).«end» ≡ false) (sym jump.0)
        (far_at spans links h (at - 1) link (omega arith) there k d (subst (λ (f : ℕ). 0 < f) jump.0 jump.1.0) (omega (arith, jump.0, le)) (omega arith)))
        (jump.1.1 d)
  ]
  | inr more ↦ above k d more lt
]
  where
    same : (e : SpanValue) → get_or spans (at - 1) e ≡ s
    same e = get_or_default spans (at - 1) e s (omega arith) ∙ sym is

    by_next : link.next ≤ k → k ≤ at - 1 → is_before p (get_or spans k d).«end» ≡ false
    by_next from within = elim (cases_lt k (at - 1)) [
      | inl less ↦ at_most (get_or spans k d).«end» s.«end» p (subst (λ (u : SpanValue). is_before u.«end» (get_or spans k d).«end» ≡ false) (same d) (over_at spans links h (at - 1) link (omega arith) there k d from less)) here
      | inr more ↦ let equal : k ≡ at - 1 = omega (arith, more, within) in
          subst (λ (i : ℕ). is_before p (get_or spans i d).«end» ≡ false) (sym equal) (subst (λ (u : SpanValue). is_before p u.«end» ≡ false) (sym (same d)) here)
    ]

-- a climb goes back
pub goes_back : (spans : List SpanValue) (links : List Link) (count at further : ℕ) (p : PositionValue) (link : Link) → HasLinks spans links → count ≤ length links → 0 < at → at ≤ count → link ≡ get_or links (at - 1) link
    → GoesOn spans link p further → further < at
goes_back spans links count at further p link h known some below there goes =
    let back = is_below spans links h (at - 1) link (omega arith) there in
    elim goes [
      | inl next ↦ omega (arith, back, next)
      | inr jump ↦ omega (arith, back, jump.0)
    ]

-- one link more
module _ (spans : List SpanValue) (links : List Link) (link : Link) (s : SpanValue) (h : HasLinks spans links) (room : length links < length spans) (is : s ≡ get_or spans (length links) s)
    (within : link.next ≤ length links)
    (over : (k : ℕ) (d : SpanValue) → link.next ≤ k → k < length links → is_before s.«end» (get_or spans k d).«end» ≡ false)
    (reaches_on : (k : ℕ) (d : SpanValue) → k + 1 ≡ link.next → is_before s.«end» (get_or spans k d).«end» ≡ true)
    (jumps : JumpsTo links link.next link.jump) where
  last_is : (d : SpanValue) → get_or spans (length links) d ≡ s
  last_is d = get_or_default spans (length links) d s room ∙ sym is

  -- from the next on all end no later than the next
  next_far : (k : ℕ) (d : SpanValue) → 0 < link.next → link.next ≤ k → k ≤ length links → is_before (get_or spans (link.next - 1) d).«end» (get_or spans k d).«end» ≡ false
  next_far k d some low high =
      let later : is_before (get_or spans (link.next - 1) d).«end» s.«end» ≡ false = one_way s.«end» (get_or spans (link.next - 1) d).«end» (reaches_on (link.next - 1) d (omega arith)) in
      elim (cases_lt k (length links)) [
        | inl less ↦ at_most (get_or spans k d).«end» s.«end» (get_or spans (link.next - 1) d).«end» (over k d low less) later
        | inr more ↦ let equal : k ≡ length links = omega (arith, more, high) in
            subst (λ (i : ℕ). is_before (get_or spans (link.next - 1) d).«end» (get_or spans i d).«end» ≡ false) (sym equal)
            (subst (λ (u : SpanValue). is_before (get_or spans (link.next - 1) d).«end» u.«end» ≡ false) (sym (last_is d)) later)
      ]

  -- from behind two jumps on all end no later than the span that these lead to
  two_far : (t : TwoJumps links link.next link.jump) (k : ℕ) (d : SpanValue) → 0 < t.second.jump → t.second.jump ≤ k → k ≤ length links
      → is_before (get_or spans (t.second.jump - 1) d).«end» (get_or spans k d).«end» ≡ false
  two_far t k d some low high =
      let i = link.next - 1 in
      let j = t.first.jump - 1 in
      let at_first = is_below spans links h i t.first (omega (arith, t.some)) t.is_first in
      let at_second = is_below spans links h j t.second (omega (arith, t.some, t.goes, at_first)) t.is_second in
      let by_second = λ (m : ℕ) (lo : t.second.jump ≤ m) (hi : m ≤ j). far_at spans links h j t.second (omega (arith, t.some, t.goes, at_first)) t.is_second m d some lo hi in
      let by_first = λ (m : ℕ) (lo : t.first.jump ≤ m) (hi : m ≤ i). at_most (get_or spans m d).«end» (get_or spans j d).«end» (get_or spans (t.second.jump - 1) d).«end»
      (far_at spans links h i t.first (omega (arith, t.some)) t.is_first m d t.goes lo hi) (by_second j (omega (arith, at_second)) (omega arith)) in
      elim (cases_lt k t.first.jump) [
        | inl less ↦ by_second k low (omega (arith, less))
        | inr more ↦ elim (cases_lt k link.next) [
          | inl before ↦ by_first k more (omega (arith, before))
          | inr after ↦ at_most (get_or spans k d).«end» (get_or spans i d).«end» (get_or spans (t.second.jump - 1) d).«end» (next_far k d t.some after high) (by_first i (omega (arith, at_first, t.some)) (omega arith))
        ]
      ]

  new_far : (k : ℕ) (d : SpanValue) → 0 < link.jump → link.jump ≤ k → k ≤ length links → is_before (get_or spans (link.jump - 1) d).«end» (get_or spans k d).«end» ≡ false
  new_far k d some low high = elim jumps [
    | inl next ↦ subst (λ (f : ℕ). is_before (get_or spans (f - 1) d).«end» (get_or spans k d).«end» ≡ false) (sym next) (next_far k d (subst (λ (f : ℕ). 0 < f) next some) (subst (λ (f : ℕ). f ≤ k) next low) high)
    | inr two ↦ subst (λ (f : ℕ). is_before (get_or spans (f - 1) d).«end» (get_or spans k d).«end» ≡ false) (sym two.ends)
        (two_far two k d (subst (λ (f : ℕ). 0 < f) two.ends some) (subst (λ (f : ℕ). f ≤ k) two.ends low) high)
  ]

  jump_below : link.jump ≤ length links
  jump_below = elim jumps [
    | inl next ↦ omega (arith, next, within)
    | inr two ↦
        let at_first = is_below spans links h (link.next - 1) two.first (omega (arith, two.some)) two.is_first in
        let at_second = is_below spans links h (two.first.jump - 1) two.second (omega (arith, two.some, two.goes, at_first)) two.is_second in
        omega (arith, two.some, two.goes, at_first, at_second, two.ends)
  ]

  pub links_more : (after : List Link) → after ≡ links ++ link ∷ [] → HasLinks spans after
  links_more after pushed =
      let long = length_push links link in
      let here = λ (i : ℕ) (l : Link) (same : i ≡ length links). get_or_push links link l i (sym same) in
      let there = λ (i : ℕ) (l : Link) (lt : i < length links). get_or_append_left links (link ∷ []) l i lt in
      subst (HasLinks spans) (sym pushed) (record {
        below = λ i l less. elim (cases_eq i (length links)) [
          | inl same ↦ subst (λ (m : Link). (m.next ≤ i) × (m.jump ≤ i)) (sym (here i l same)) (omega (arith, same, within), omega (arith, same, jump_below))
          | inr other ↦ subst (λ (m : Link). (m.next ≤ i) × (m.jump ≤ i)) (sym (there i l (omega arith))) (h.below i l (omega arith))
        ];
        over = λ i k l d less. elim (cases_eq i (length links)) [
          | inl same ↦
              let there_is : get_or spans i d ≡ s = ap (λ (j : ℕ). get_or spans j d) same ∙ last_is d in
              subst (λ (m : Link). m.next ≤ k → k < i → is_before (get_or spans i d).«end» (get_or spans k d).«end» ≡ false) (sym (here i l same))
              (λ low high. subst (λ (u : SpanValue). is_before u.«end» (get_or spans k d).«end» ≡ false) (sym there_is) (over k d low (omega (arith, high, same))))
          | inr other ↦ subst (λ (m : Link). m.next ≤ k → k < i → is_before (get_or spans i d).«end» (get_or spans k d).«end» ≡ false) (sym (there i l (omega arith))) (h.over i k l d (omega arith))
        ];
        far = λ i k l d less. elim (cases_eq i (length links)) [
          | inl same ↦ subst (λ (m : Link). 0 < m.jump → m.jump ≤ k → k ≤ i → is_before (get_or spans (m.jump - 1) d).«end» (get_or spans k d).«end» ≡ false) (sym (here i l same))
              (λ some low high. new_far k d some low (omega (arith, high, same)))
          | inr other ↦ subst (λ (m : Link). 0 < m.jump → m.jump ≤ k → k ≤ i → is_before (get_or spans (m.jump - 1) d).«end» (get_or spans k d).«end» ≡ false) (sym (there i l (omega arith)))
              (h.far i k l d (omega arith))
        ];
      })

-- ---- when two spans conflict

-- the first starts before the second and ends in it
record Reaching (s t : SpanValue) : Type 0 where
  pub apart : is_before s.start t.start ≡ true
  pub over : is_before t.start s.«end» ≡ true
  pub short : is_before s.«end» t.«end» ≡ true

none_both : (a b : Bool) → b ≡ true → (not a && not b) ≡ false
none_both true b e = refl
none_both false true e = refl
none_both false false e = cc

reaching_conflicts : (s t : SpanValue) → Reaching s t → conflicts s t ≡ true
reaching_conflicts s t h =
    let ends : overlaps s t ≡ true = overlap_apart s t h.apart ∙ ap (is_before t.start) (first_end s.«end» t.«end» (one_way s.«end» t.«end» h.short)) ∙ h.over in
    let outside : nests t s ≡ false = none_both (is_before t.start s.start) (is_before s.«end» t.«end») h.short in
    plain_conflict (nests s t) (nests t s) (overlaps s t) (apart_no_nests s t h.apart) outside ∙ ends

first_too : (n m o : Bool) → m ≡ true → ((n && m) || (o && not n && not m)) ≡ true → n ≡ true
first_too true m o e h = refl
first_too false true true e h = h
first_too false true false e h = h
first_too false false o e h = cc

both_conflict : (n m o : Bool) → n ≡ true → m ≡ true → ((n && m) || (o && not n && not m)) ≡ true
both_conflict true true o e f = refl
both_conflict true false o e f = cc
both_conflict false m o e f = cc

-- each lies in the other
Equal : SpanValue → SpanValue → Type 0
Equal s t = (nests s t ≡ true) × (nests t s ≡ true)

conflict_cases : (s t : SpanValue) → NotAfter s t → conflicts s t ≡ true → Equal s t ⊎ Reaching s t
unfolding Equal
conflict_cases s t order h = by_inner (nests t s) refl
  where
    by_inner : (b : Bool) → nests t s ≡ b → Equal s t ⊎ Reaching s t
    by_inner true e = inl (first_too (nests s t) (nests t s) (overlaps s t) e h, e)
    by_inner false e =
        let short = reaches s t order.start e in
        let apart = true_is (is_before s.start t.start) (λ f. sym short ∙ order.within f) in
        let shared = ap (is_before t.start) (first_end s.«end» t.«end» (one_way s.«end» t.«end» short)) in
        let ends : overlaps s t ≡ true = sym (plain_conflict (nests s t) (nests t s) (overlaps s t) (apart_no_nests s t apart) e) ∙ h in
        inr (record { apart = apart; over = sym (overlap_apart s t apart ∙ shared) ∙ ends; short = short })

at_most_less : (a b c : PositionValue) → is_before b a ≡ false → is_before b c ≡ true → is_before a c ≡ true
at_most_less a b c e f = grind (arith, e, f)

-- u comes after s and not after t, and ends after t starts
later_reaches : (s u t : SpanValue) → NotAfter s u → NotAfter u t → conflicts s u ≡ false → is_before t.start u.«end» ≡ true → Reaching s t → conflicts u t ≡ true
later_reaches s u t su ut clear ends h =
    let begins : is_before u.start s.«end» ≡ true = at_most_less u.start t.start s.«end» ut.start h.over in
    let inside = lies_in (nests u s) refl begins in
    let last : is_before s.«end» u.«end» ≡ false = not_true (is_before s.«end» u.«end») (and_both (not (is_before u.start s.start)) (not (is_before s.«end» u.«end»)) inside).1 in
    let short : is_before u.«end» t.«end» ≡ true = at_most_less u.«end» s.«end» t.«end» last h.short in
    let apart : is_before u.start t.start ≡ true = true_is (is_before u.start t.start) (λ e. sym short ∙ ut.within e) in
    reaching_conflicts u t (record { apart = apart; over = ends; short = short })
  where
    lies_in : (b : Bool) → nests u s ≡ b → is_before u.start s.«end» ≡ true → nests u s ≡ true
    lies_in true e begins = e
    lies_in false e begins =
        let far = reaches s u su.start e in
        let apart = true_is (is_before s.start u.start) (λ f. sym far ∙ su.within f) in
        absurd (absurd_true (sym (reaching_conflicts s u (record { apart = apart; over = begins; short = far })) ∙ clear))

-- u is between two that are equal
between_conflicts : (s u t : SpanValue) → NotAfter s u → NotAfter u t → Equal s t → conflicts u t ≡ true
unfolding Equal
between_conflicts s u t su ut h =
    let a = and_both (not (is_before s.start t.start)) (not (is_before t.«end» s.«end»)) h.0 in
    let s_t : is_before s.start t.start ≡ false = not_true (is_before s.start t.start) a.0 in
    let t_s : is_before t.«end» s.«end» ≡ false = not_true (is_before t.«end» s.«end») a.1 in
    let first : is_before u.start t.start ≡ false = at_most t.start s.start u.start s_t su.start in
    let last : is_before t.«end» u.«end» ≡ false = at_most u.«end» s.«end» t.«end» (su.within (at_most u.start t.start s.start ut.start s_t)) t_s in
    let inner : nests u t ≡ true = rw (first, last) refl in
    let outer : nests t u ≡ true = let begins = ut.start in let ends = ut.within first in rw (begins, ends) refl in
    both_conflict (nests u t) (nests t u) (overlaps u t) inner outer

not_less_equal : (s t : SpanValue) → Equal s t → is_lt (span_order t s) ≡ false
unfolding Equal
not_less_equal s t h =
    let a = and_both (not (is_before s.start t.start)) (not (is_before t.«end» s.«end»)) h.0 in
    let b = and_both (not (is_before t.start s.start)) (not (is_before s.«end» t.«end»)) h.1 in
    let starts : s.start ≡ t.start = equal_positions s.start t.start (not_true (is_before s.start t.start) a.0) (not_true (is_before t.start s.start) b.0) in
    let ends : s.«end» ≡ t.«end» = equal_positions s.«end» t.«end» (not_true (is_before s.«end» t.«end») b.1) (not_true (is_before t.«end» s.«end») a.1) in
    rw (starts, ends, same_position t.start, same_position t.«end») refl

-- ---- two of a list without conflict

pub pair_clear : (xs : List SpanValue) → has_conflict xs ≡ false → (i j : ℕ) (d : SpanValue) → i < j → j < length xs → conflicts (get_or xs i d) (get_or xs j d) ≡ false
pair_clear [] h i j d less lt = absurd (omega arith)
pair_clear (x ∷ xs) h i zero d less lt = absurd (omega arith)
pair_clear (x ∷ xs) h zero (suc j) d less lt = none_at xs (or_none (list_any (conflicts x) xs) (has_conflict xs) h).0 j (omega arith)
  where
    none_at : (ys : List SpanValue) → list_any (conflicts x) ys ≡ false → (k : ℕ) → k < length ys → conflicts x (get_or ys k d) ≡ false
    none_at [] e k within = absurd (omega arith)
    none_at (y ∷ ys) e zero within = (or_none (conflicts x y) (list_any (conflicts x) ys) e).0
    none_at (y ∷ ys) e (suc k) within = none_at ys (or_none (conflicts x y) (list_any (conflicts x) ys) e).1 k (omega arith)
pair_clear (x ∷ xs) h (suc i) (suc j) d less lt = pair_clear xs (or_none (list_any (conflicts x) xs) (has_conflict xs) h).1 i j d (omega arith) (omega arith)

none_any : {X : Type 0} (p : X → Bool) (xs : List X) → ((i : ℕ) (d : X) → i < length xs → p (get_or xs i d) ≡ false) → list_any p xs ≡ false
none_any p [] h = refl
none_any p (x ∷ xs) h = ap₂ (λ a b. a || b) (h 0 x (omega arith)) (none_any p xs (λ i d lt. h (suc i) d (omega arith)))

-- ---- the spans that a further one is compared with

module _ (xs : List SpanValue) (t : SpanValue) (up : IsOrdered xs) (k p : ℕ) (k_le : k ≤ length xs)
    (pairs : (i j : ℕ) (d : SpanValue) → i < j → j < k → conflicts (get_or xs i d) (get_or xs j d) ≡ false)
    (before : (i : ℕ) (d : SpanValue) → i < k → goes_by (get_or xs i d) t ≡ true)
    (p_le : p ≤ k)
    (p_over : (i : ℕ) (d : SpanValue) → p ≤ i → i < k → is_before t.start (get_or xs i d).«end» ≡ false)
    (p_reaches : (i : ℕ) (d : SpanValue) → i + 1 ≡ p → is_before t.start (get_or xs i d).«end» ≡ true) where
  no_later : (i : ℕ) (d : SpanValue) → i < k → NotAfter (get_or xs i d) t
  no_later i d lt = not_after (get_or xs i d) t (not_true (is_lt (span_order t (get_or xs i d))) (before i d lt))

  turned : (i : ℕ) → conflicts (get_or xs i t) t ≡ true → conflicts t (get_or xs i t) ≡ true
  turned i e = either_conflict t (get_or xs i t) ∙ e

  -- one that t conflicts with and that doesn't come after it: t conflicts with the last such, or
  -- with the last that ends after its start
  pub hit_before : (i : ℕ) → i < k → conflicts t (get_or xs i t) ≡ true → (conflicts_before xs k t ≡ true) ⊎ (conflicts_before xs p t ≡ true)
  hit_before i lt hit =
      let s = get_or xs i t in
      elim (conflict_cases s t (no_later i t lt) (either_conflict s t ∙ hit)) [
        | inl equal ↦
            let found = turned (k - 1) (between_conflicts s (get_or xs (k - 1) t) t (each_not_after xs up i (k - 1) t (omega arith) (omega arith)) (no_later (k - 1) t (omega arith)) equal) in
            let some : nat_lt 0 k ≡ true = grind (arith, lt) in
            inl (rw (some, found) refl)
        | inr reaching ↦ inr (by_last s reaching)
      ]
    where
      within : (s : SpanValue) → s ≡ get_or xs i t → Reaching s t → i < p
      within s is reaching = elim (cases_lt i p) [
        | inl less ↦ less
        | inr more ↦ absurd (absurd_true (sym reaching.over ∙ ap (λ (u : SpanValue). is_before t.start u.«end») is ∙ p_over i t more lt))
      ]

      by_last : (s : SpanValue) → Reaching (get_or xs i t) t → conflicts_before xs p t ≡ true
      by_last s reaching =
          let less = within (get_or xs i t) refl reaching in
          let some : nat_lt 0 p ≡ true = grind (arith, less) in
          let found : conflicts t (get_or xs (p - 1) t) ≡ true = elim (cases_eq i (p - 1)) [
            | inl same ↦ subst (λ (j : ℕ). conflicts t (get_or xs j t) ≡ true) same hit
            | inr other ↦ turned (p - 1) (later_reaches (get_or xs i t) (get_or xs (p - 1) t) t (each_not_after xs up i (p - 1) t (omega arith) (omega arith)) (no_later (p - 1) t (omega arith))
                (pairs i (p - 1) t (omega arith) (omega arith)) (p_reaches (p - 1) t (omega arith)) reaching)
          ] in
          rw (some, found) refl

  module _ (l q : ℕ) (after : (i : ℕ) (d : SpanValue) → k ≤ i → i < length xs → goes_by (get_or xs i d) t ≡ false)
      (l_le : l ≤ length xs)
      (begun : (i : ℕ) (d : SpanValue) → i < l → is_before (get_or xs i d).start t.«end» ≡ true)
      (not_begun : (i : ℕ) (d : SpanValue) → l ≤ i → i < length xs → is_before (get_or xs i d).start t.«end» ≡ false)
      (q_le : q ≤ l)
      (q_over : (i : ℕ) (d : SpanValue) → q ≤ i → i < l → is_before t.«end» (get_or xs i d).«end» ≡ false)
      (q_reaches : (i : ℕ) (d : SpanValue) → i + 1 ≡ q → is_before t.«end» (get_or xs i d).«end» ≡ true) where
    -- one that t conflicts with and that comes after it: t conflicts with the last of those that
    -- start in it which ends after it
    hit_after : (i : ℕ) → k ≤ i → i < length xs → conflicts t (get_or xs i t) ≡ true → conflicts_before xs q t ≡ true
    unfolding Equal
    hit_after i le lt hit =
        let s = get_or xs i t in
        let less : is_lt (span_order t s) ≡ true = not_false (is_lt (span_order t s)) (after i t le lt) in
        let order : NotAfter t s = not_after t s (not_less_back s less) in
        elim (conflict_cases t s order hit) [
          | inl equal ↦ absurd (absurd_true (sym less ∙ not_less_equal s t (equal.1, equal.0)))
          | inr reaching ↦ by_last reaching
        ]
      where
        not_less_back : (s : SpanValue) → is_lt (span_order t s) ≡ true → is_lt (span_order s t) ≡ false
        not_less_back s less = not_both (span_order s t) (span_order t s) (span_total.antisymm s t) less

        inside : Reaching t (get_or xs i t) → i < q
        inside reaching = elim (cases_lt i l) [
          | inl within ↦ elim (cases_lt i q) [
            | inl less ↦ less
            | inr more ↦ absurd (absurd_true (sym reaching.short ∙ q_over i t more within))
          ]
          | inr beyond ↦ absurd (absurd_true (sym reaching.over ∙ not_begun i t beyond lt))
        ]

        by_last : Reaching t (get_or xs i t) → conflicts_before xs q t ≡ true
        by_last reaching =
            let less = inside reaching in
            let some : nat_lt 0 q ≡ true = grind (arith, less) in
            let u = get_or xs (q - 1) t in
            let apart : is_before t.start u.start ≡ true = less_at_most t.start (get_or xs i t).start u.start reaching.apart (each_not_after xs up i (q - 1) t (omega arith) (omega arith)).start in
            let found : conflicts t u ≡ true = reaching_conflicts t u (record { apart = apart; over = begun (q - 1) t (omega arith); short = q_reaches (q - 1) t (omega arith) }) in
            rw (some, found) refl

    found_one : (n : ℕ) → n ≤ length xs → conflicts_before xs n t ≡ true → list_any (conflicts t) xs ≡ true
    found_one n le e =
        let both = and_both (nat_lt 0 n) (conflicts t (get_or xs (n - 1) t)) e in
        let some : 0 < n = grind (arith, both) in
        list_any_at (conflicts t) xs (n - 1) t (omega arith) both.1

    none_found : conflicts_before xs k t ≡ false → conflicts_before xs p t ≡ false → conflicts_before xs q t ≡ false → list_any (conflicts t) xs ≡ false
    none_found no_k no_p no_q = none_any (conflicts t) xs (λ i d lt. by_hit i d lt (conflicts t (get_or xs i t)) refl)
      where
        by_hit : (i : ℕ) (d : SpanValue) → i < length xs → (b : Bool) → conflicts t (get_or xs i t) ≡ b → conflicts t (get_or xs i d) ≡ false
        by_hit i d lt false e = ap (conflicts t) (get_or_default xs i d t lt) ∙ e
        by_hit i d lt true e = elim (cases_lt i k) [
          | inl low ↦ elim (hit_before i low e) [ inl at_k ↦ absurd (absurd_true (sym at_k ∙ no_k)) | inr at_p ↦ absurd (absurd_true (sym at_p ∙ no_p)) ]
          | inr high ↦ absurd (absurd_true (sym (hit_after i high lt e) ∙ no_q))
        ]

    pub compared : ((conflicts_before xs k t || conflicts_before xs p t) || conflicts_before xs q t) ≡ list_any (conflicts t) xs
    compared = by_each (conflicts_before xs k t) (conflicts_before xs p t) (conflicts_before xs q t) refl refl refl
      where
        by_each : (a b c : Bool) → conflicts_before xs k t ≡ a → conflicts_before xs p t ≡ b → conflicts_before xs q t ≡ c → ((a || b) || c) ≡ list_any (conflicts t) xs
        by_each true b c e f g = sym (found_one k k_le e)
        by_each false true c e f g = sym (found_one p (omega (arith, p_le, k_le)) f)
        by_each false false true e f g = sym (found_one q (omega (arith, q_le, l_le)) g)
        by_each false false false e f g = sym (none_found e f g)

-- ---- where the spans are split

pub up_to_parted : (xs : List SpanValue) → IsOrdered xs → (t : SpanValue) → IsPartitionedBy (λ s. goes_by s t) xs
up_to_parted xs up t i j d le lt h =
    let order = ranks_by span_total (λ (s : SpanValue). s) in
    let far = sorted_far (λ s t. is_lt (span_order s t)) order xs up i j d le lt in
    ap not (order.chain t (get_or xs j d) (get_or xs i d) (not_true (is_lt (span_order t (get_or xs j d))) h) far)

pub started_parted : (xs : List SpanValue) → IsOrdered xs → (p : PositionValue) → IsPartitionedBy (λ s. is_before s.start p) xs
started_parted xs up p i j d le lt h = at_most_less (get_or xs i d).start (get_or xs j d).start p (each_not_after xs up i j d le lt).start h

-- ---- the spans of several lists

pub joined_more : (lists : List (List SpanValue)) (k n : ℕ) (xs targets had now : List SpanValue) → n ≡ k + 1 → k < length lists → xs ≡ get_or lists k xs
    → IsPermutation (joined (drop n lists) ++ targets) had → IsPermutation (xs ++ had) now → IsPermutation (joined (drop k lists) ++ targets) now
joined_more lists k n xs targets had now next lt is all more =
    let here : joined (drop k lists) ++ targets ≡ xs ++ (joined (drop n lists) ++ targets) =
    ap (λ ls. joined ls ++ targets) (drop_next lists k xs lt is ∙ ap (λ m. xs ∷ drop m lists) (sym next)) ∙ append_assoc xs (joined (drop n lists)) targets in
    subst (λ l. IsPermutation l now) (sym here) (IsPermutation-trans _ _ _ (IsPermutation-append_right xs (joined (drop n lists) ++ targets) had all) more)

-- ---- loops that look for a conflict

or_pairs : (a b c d : Bool) → ((a || b) || (c || d)) ≡ ((a || c) || (b || d))
or_pairs true b c d = refl
or_pairs false true true d = refl
or_pairs false true false d = refl
or_pairs false false c d = refl

pub any_of_both : (ts xs ys : List SpanValue) → any_conflicts ts (xs ++ ys) ≡ (any_conflicts ts xs || any_conflicts ts ys)
any_of_both [] xs ys = refl
any_of_both (t ∷ ts) xs ys =
    ap₂ (λ a b. a || b) (list_any-append (conflicts t) xs ys) (any_of_both ts xs ys)
    ∙ or_pairs (list_any (conflicts t) xs) (list_any (conflicts t) ys) (any_conflicts ts xs) (any_conflicts ts ys)

none_of : (ts : List SpanValue) → any_conflicts ts [] ≡ false
none_of [] = refl
none_of (t ∷ ts) = none_of ts

pub each_clear : (lists : List (List SpanValue)) → has_conflict (joined lists) ≡ false → (k : ℕ) (xs : List SpanValue) → k < length lists → xs ≡ get_or lists k xs → has_conflict xs ≡ false
each_clear [] h k xs lt is = absurd (omega arith)
each_clear (ys ∷ lists) h zero xs lt is = ap has_conflict is ∙ (or_none (has_conflict ys) (any_conflicts ys (joined lists) || has_conflict (joined lists)) (sym (has_conflict-append ys (joined lists)) ∙ h)).0
each_clear (ys ∷ lists) h (suc k) xs lt is =
    let rest = (or_none (has_conflict ys) (any_conflicts ys (joined lists) || has_conflict (joined lists)) (sym (has_conflict-append ys (joined lists)) ∙ h)).1 in
    each_clear lists (or_none (any_conflicts ys (joined lists)) (has_conflict (joined lists)) rest).1 k xs (omega arith) is

module _ (ts : List SpanValue) (lists : List (List SpanValue)) (k : ℕ) (whole : Bool) (inv : any_conflicts ts (joined (drop k lists)) ≡ whole) where
  split : (xs : List SpanValue) → k < length lists → xs ≡ get_or lists k xs → (any_conflicts ts xs || any_conflicts ts (joined (drop (k + 1) lists))) ≡ whole
  split xs lt is = sym (ap (λ ls. any_conflicts ts (joined ls)) (drop_next lists k xs lt is) ∙ any_of_both ts xs (joined (drop (k + 1) lists))) ∙ inv

  pub list_hit : (xs : List SpanValue) → k < length lists → xs ≡ get_or lists k xs → any_conflicts ts xs ≡ true → true ≡ whole
  list_hit xs lt is h = sym (ap (λ b. b || any_conflicts ts (joined (drop (k + 1) lists))) h) ∙ split xs lt is

  pub list_miss : (xs : List SpanValue) → k < length lists → xs ≡ get_or lists k xs → any_conflicts ts xs ≡ false → any_conflicts ts (joined (drop (k + 1) lists)) ≡ whole
  list_miss xs lt is h = sym (ap (λ b. b || any_conflicts ts (joined (drop (k + 1) lists))) h) ∙ split xs lt is

  pub list_end : length lists ≤ k → false ≡ whole
  list_end le = sym (ap (λ ls. any_conflicts ts (joined ls)) (drop_end lists k le) ∙ none_of ts) ∙ inv

-- ---- a list more

pub added : (lists after : List (List SpanValue)) (n : ℕ) (targets sorted spans : List SpanValue) → IsPermutation targets sorted → IsPermutation (joined (drop n lists) ++ sorted) spans
    → after ≡ take n lists ++ spans ∷ [] → IsPermutation (joined lists ++ targets) (joined after)
added lists after n targets sorted spans moved all pushed =
    let old : joined lists ≡ joined (take n lists) ++ joined (drop n lists) = ap joined (sym (take-append-drop n lists)) ∙ flat_map-append (λ (xs : List SpanValue). xs) (take n lists) (drop n lists) in
    let new : joined after ≡ joined (take n lists) ++ spans = ap joined pushed ∙ flat_map-append (λ (xs : List SpanValue). xs) (take n lists) (spans ∷ []) ∙ ap (λ xs. joined (take n lists) ++ xs) (append-nil spans) in
    let rest : IsPermutation (joined (drop n lists) ++ targets) spans = IsPermutation-trans _ _ _ (IsPermutation-append_right (joined (drop n lists)) targets sorted moved) all in
    subst (λ l. IsPermutation l (joined after)) (sym (ap (λ l. l ++ targets) old ∙ append_assoc (joined (take n lists)) (joined (drop n lists)) targets))
    (subst (IsPermutation (joined (take n lists) ++ (joined (drop n lists) ++ targets))) (sym new) (IsPermutation-append_right (joined (take n lists)) (joined (drop n lists) ++ targets) spans rest))

-- ---- targets that are put in order before

module _ (ts sorted ls : List SpanValue) (moved : IsPermutation ts sorted) where
  any_sorted : any_conflicts ts ls ≡ any_conflicts sorted ls
  any_sorted = list_any-IsPermutation (λ s. list_any (conflicts s) ls) ts sorted moved

  pub sorted_hit : any_conflicts sorted ls ≡ true → true ≡ (any_conflicts ts ls || has_conflict ts)
  sorted_hit h = sym (or_left (any_conflicts ts ls) (has_conflict ts) (any_sorted ∙ h))

  pub sorted_miss : any_conflicts sorted ls ≡ false → has_conflict sorted ≡ (any_conflicts ts ls || has_conflict ts)
  sorted_miss h = has_conflict-permutation ts sorted moved ∙ sym (ap (λ b. b || has_conflict ts) (any_sorted ∙ h))

-- ---- a list's own spans

all_clear : (xs : List SpanValue) → ((i j : ℕ) (d : SpanValue) → i < j → j < length xs → conflicts (get_or xs i d) (get_or xs j d) ≡ false) → has_conflict xs ≡ false
all_clear [] h = refl
all_clear (x ∷ xs) h = ap₂ (λ a b. a || b) (none_any (conflicts x) xs (λ i d lt. h 0 (suc i) d (omega arith) (omega arith))) (all_clear xs (λ i j d less lt. h (suc i) (suc j) d (omega arith) (omega arith)))

pub clear_end : (xs : List SpanValue) (n : ℕ) → length xs ≤ n → ((i j : ℕ) (d : SpanValue) → i < j → j < n → conflicts (get_or xs i d) (get_or xs j d) ≡ false) → false ≡ has_conflict xs
clear_end xs n le pairs = sym (all_clear xs (λ i j d less lt. pairs i j d less (omega arith)))

module _ (xs : List SpanValue) (up : IsOrdered xs) (k : ℕ) (t : SpanValue) (lt : k < length xs) (is : t ≡ get_or xs k t) where
  pub pair_found : (n : ℕ) → n ≤ k → conflicts_before xs n t ≡ true → true ≡ has_conflict xs
  pair_found n le e = sym (true_is (has_conflict xs) (λ clear.
      let both = and_both (nat_lt 0 n) (conflicts t (get_or xs (n - 1) t)) e in
      let some : 0 < n = grind (arith, both) in
      let none = pair_clear xs clear (n - 1) k t (omega arith) lt in
      sym (both.1) ∙ either_conflict t (get_or xs (n - 1) t) ∙ ap (conflicts (get_or xs (n - 1) t)) is ∙ none))

  goes_before : (i : ℕ) (d : SpanValue) → i < k → goes_by (get_or xs i d) t ≡ true
  goes_before i d less =
      let far = sorted_far (λ s u. is_lt (span_order s u)) (ranks_by span_total (λ (s : SpanValue). s)) xs up i k d (omega arith) lt in
      ap not (subst (λ (s : SpanValue). is_lt (span_order s (get_or xs i d)) ≡ false) (get_or_default xs k d t lt ∙ sym is) far)

  module _ (p : ℕ) (pairs : (i j : ℕ) (d : SpanValue) → i < j → j < k → conflicts (get_or xs i d) (get_or xs j d) ≡ false)
      (p_le : p ≤ k)
      (p_over : (i : ℕ) (d : SpanValue) → p ≤ i → i < k → is_before t.start (get_or xs i d).«end» ≡ false)
      (p_reaches : (i : ℕ) (d : SpanValue) → i + 1 ≡ p → is_before t.start (get_or xs i d).«end» ≡ true)
      (no_k : conflicts_before xs k t ≡ false) (no_p : conflicts_before xs p t ≡ false) where
    with_last : (i : ℕ) → i < k → (b : Bool) → conflicts t (get_or xs i t) ≡ b → conflicts t (get_or xs i t) ≡ false
    with_last i less false e = e
    with_last i less true e = elim (hit_before xs t up k p (omega arith) pairs goes_before p_le p_over p_reaches i less e) [
      | inl at_k ↦ absurd (absurd_true (sym at_k ∙ no_k))
      | inr at_p ↦ absurd (absurd_true (sym at_p ∙ no_p))
    ]

    pub pairs_more : (i j : ℕ) (d : SpanValue) → i < j → j < k + 1 → conflicts (get_or xs i d) (get_or xs j d) ≡ false
    pairs_more i j d less below = elim (cases_eq j k) [
      | inl same ↦
          let here : get_or xs j d ≡ t = ap (λ (m : ℕ). get_or xs m d) same ∙ get_or_default xs k d t lt ∙ sym is in
          let there : get_or xs i d ≡ get_or xs i t = get_or_default xs i d t (omega arith) in
          ap₂ conflicts there here ∙ either_conflict (get_or xs i t) t ∙ with_last i (omega arith) (conflicts t (get_or xs i t)) refl
      | inr other ↦ pairs i j d less (omega arith)
    ]
