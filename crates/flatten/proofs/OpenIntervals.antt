-- The smallest range in which each range lies.
use Rattle.std.proofs.Common.{◌≡◌, ◌⊎◌, inl, inr, ⊎_elim, ◌∙◌, ℕ, ◌+◌, ◌-◌, ◌<◌, ◌≤◌, Bool, true, false, nat_le, List, [], ◌∷◌, ◌++◌, length, map, get_or, refl, sym, ap, subst, arith, length-append}
use Rattle.std.specs.Prelude.{◌↔◌, ◌&&◌, ◌==◌, Contains, Option, Some, None}
use Rattle.std.specs.Option.{SomeIff}
use Rattle.std.proofs.lemmas.Bool.{cases_lt}
use Rattle.std.proofs.lemmas.List.{get_or-map, get_or_append_left, get_or_push, length-map}
use Rattle.std.proofs.lemmas.List.Elements.{Contains-append_left, Contains-append_right, Contains-push_cases}
use Rattle.flatten.specs.Steps.Parents.{IntervalValue, AreLinks, AreIntervals, Follows, IsInside, IsLinkPair, IsOpenBefore, encloses, interval_at}
use Rattle.streams.proofs.Members.{one_contains}

-- ---- from the last interval before one outward

-- of the intervals before the index, those that it lies in are the open one or around it
abbrev pub IsAbove : List IntervalValue → ℕ → Option ℕ → Type 0
IsAbove intervals i (Some c) = (c < i) × ((q : ℕ) → q < i → IsInside (interval_at intervals i) (interval_at intervals q) → (q ≡ c) ⊎ ((q < c) × IsInside (interval_at intervals c) (interval_at intervals q)))
IsAbove intervals i None = (q : ℕ) → q < i → IsInside (interval_at intervals i) (interval_at intervals q) → ⊥

-- what comes after an interval and begins before its end lies in it
before_last : (a c i : IntervalValue) → a.first < a.last → c.first < c.last → i.first < i.last → Follows a c → Follows c i → IsInside i a → IsInside c a
before_last a c i fa fc fi (inl doc) fci inside = absurd (by fci)
  where
    by : Follows c i → ⊥
    by (inl d) = omega (arith, doc, d, inside.0)
    by (inr d) = omega (arith, doc, d.0, inside.0)
before_last a c i fa fc fi (inr (doc, inl within)) fci inside = (doc, within.0, within.1)
before_last a c i fa fc fi (inr (doc, inr behind)) fci inside = absurd (by fci)
  where
    by : Follows c i → ⊥
    by (inl d) = omega (arith, doc, d, inside.0)
    by (inr (d, inl w)) = omega (arith, behind, w.0, inside.2, fi)
    by (inr (d, inr w)) = omega (arith, behind, w, inside.2, fi, fc)

module _ (intervals : List IntervalValue) (are : AreIntervals intervals) (i : ℕ) (lt : i < length intervals) where
  pub above_first : (c : ℕ) → c + 1 ≡ i → IsAbove intervals i (Some c)
  above_first c next = (omega (arith, next), λ q less inside. by q less inside)
    where
      by : (q : ℕ) → q < i → IsInside (interval_at intervals i) (interval_at intervals q) → (q ≡ c) ⊎ ((q < c) × IsInside (interval_at intervals c) (interval_at intervals q))
      by q less inside = elim (cases_lt q c) [
        | inl before ↦ inr (
          before,
          before_last (interval_at intervals q) (interval_at intervals c) (interval_at intervals i) (are.filled q (omega (arith, less, lt))) (are.filled c (omega (arith, next, lt))) (are.filled i lt)
              (are.follows q c before (omega (arith, next, lt))) (are.follows c i (omega (arith, next)) lt) inside,
        )
        | inr after ↦ inl (omega (arith, after, less, next))
      ]

  pub above_none : i ≡ 0 → IsAbove intervals i None
  above_none first q less inside = omega (arith, first, less)

  -- where the open one isn't around the interval, the one around it is next
  pub above_next : (c : ℕ) (o : Option ℕ) → IsAbove intervals i (Some c) → IsOpenBefore intervals c o → (IsInside (interval_at intervals i) (interval_at intervals c) → ⊥) → IsAbove intervals i o
  above_next c None (below, above) link out = λ q less inside. elim (above q less inside) [
    | inl same ↦ out (subst (λ k. IsInside (interval_at intervals i) (interval_at intervals k)) same inside)
    | inr more ↦ link q more.0 more.1
  ]
  above_next c (Some p) (below, above) (before, around, least) out = (
    omega (arith, before, below),
    λ q less inside. elim (above q less inside) [
      | inl same ↦ absurd (out (subst (λ k. IsInside (interval_at intervals i) (interval_at intervals k)) same inside))
      | inr more ↦ least q more.0 more.1
    ],
  )

  pub above_found : (c : ℕ) → IsAbove intervals i (Some c) → IsInside (interval_at intervals i) (interval_at intervals c) → IsOpenBefore intervals i (Some c)
  above_found c (below, above) inside = (below, inside, above)

  -- what lies around an interval comes before it
  pub around_before : (j : ℕ) → j < length intervals → IsInside (interval_at intervals i) (interval_at intervals j) → (j < i) ⊎ (j ≡ i)
  around_before j jt inside = elim (cases_lt j i) [
    | inl before ↦ inl before
    | inr after ↦ elim (cases_lt i j) [
      | inl more ↦ absurd (by (are.follows i j more jt))
      | inr same ↦ inr (omega (arith, after, same))
    ]
  ]
    where
      by : Follows (interval_at intervals i) (interval_at intervals j) → ⊥
      by (inl d) = omega (arith, d, inside.0)
      by (inr (d, inl (first, last, inl less))) = omega (arith, less, inside.1)
      by (inr (d, inl (first, last, inr less))) = omega (arith, less, inside.2)
      by (inr (d, inr behind)) = omega (arith, behind, inside.1, are.filled i lt)

  -- no two are alike
  pub apart : (j : ℕ) → j < i → (interval_at intervals j).first ≡ (interval_at intervals i).first → (interval_at intervals j).last ≡ (interval_at intervals i).last → (interval_at intervals j).document ≡ (interval_at intervals i).document → ⊥
  apart j before first last document = by (are.follows j i before lt)
    where
      by : Follows (interval_at intervals j) (interval_at intervals i) → ⊥
      by (inl d) = omega (arith, d, document)
      by (inr (d, inl (f, l, inl less))) = omega (arith, less, first)
      by (inr (d, inl (f, l, inr less))) = omega (arith, less, last)
      by (inr (d, inr behind)) = omega (arith, behind, first, are.filled i lt)

-- ---- the links

pub links_more : (intervals : List IntervalValue) (links : List (Option ℕ)) (o : Option ℕ) → AreLinks intervals links → IsOpenBefore intervals (length links) o → AreLinks intervals (links ++ o ∷ [])
links_more intervals links o are link i lt = elim (cases_lt i (length links)) [
  | inl before ↦ subst (IsOpenBefore intervals i) (sym (get_or_append_left links (o ∷ []) None i before)) (are i before)
  | inr after ↦
      let same : length links ≡ i = omega (arith, lt, after, length-append links (o ∷ [])) in
      subst (λ k. IsOpenBefore intervals k (get_or (links ++ o ∷ []) k None)) same (subst (IsOpenBefore intervals (length links)) (sym (get_or_push links o None (length links) refl)) link)
]

-- ---- the pairs of numbers

earlier : (intervals : List IntervalValue) (links : List (Option ℕ)) (k : ℕ) (p : ℕ × ℕ) → IsLinkPair intervals links k p → IsLinkPair intervals links (k + 1) p
earlier intervals links k p h = record { inner = h.inner; outer = h.outer; below = omega (arith, h.below); link = h.link; is_inner = h.is_inner; is_outer = h.is_outer }

-- of an interval that lies in none
pub pairs_none : (intervals : List IntervalValue) (links : List (Option ℕ)) (k : ℕ) (pairs new : List (ℕ × ℕ)) → get_or links k None ≡ None → new ≡ pairs → ((p : ℕ × ℕ) → Contains pairs p ↔ IsLinkPair intervals links k p)
    → (p : ℕ × ℕ) → Contains new p ↔ IsLinkPair intervals links (k + 1) p
pairs_none intervals links k pairs new none same each p = (
  λ at. earlier intervals links k p ((each p).0 (subst (λ l. Contains l p) same at)),
  λ h. elim (cases_lt h.inner k) [
    | inl less ↦ subst (λ l. Contains l p) (sym same) ((each p).1 (record { inner = h.inner; outer = h.outer; below = less; link = h.link; is_inner = h.is_inner; is_outer = h.is_outer }))
    | inr more ↦ absurd (by h more)
  ],
)
  where
    by : (h : IsLinkPair intervals links (k + 1) p) → k ≤ h.inner → ⊥
    by h more =
        let here : h.inner ≡ k = omega (arith, h.below, more) in
        let e : ◌≡◌ {A = Option ℕ} None (Some h.outer) = sym none ∙ ap (λ i. get_or links i None) (sym here) ∙ h.link in cc

-- of an interval that lies in one
pub pairs_some : {A : Type 0} (v : A → IntervalValue) (xs : List A) (z : A) (links : List (Option ℕ)) (k outer : ℕ) (pairs new : List (ℕ × ℕ)) → AreLinks (map v xs) links → length links ≡ length xs → k < length links → get_or links k None ≡ Some outer
    → new ≡ pairs ++ ((v (get_or xs k z)).range, (v (get_or xs outer z)).range) ∷ [] → ((p : ℕ × ℕ) → Contains pairs p ↔ IsLinkPair (map v xs) links k p) → (p : ℕ × ℕ) → Contains new p ↔ IsLinkPair (map v xs) links (k + 1) p
pairs_some {A} v xs z links k outer pairs new are same_length lt link pushed each p = (
  λ at. ⊎_elim (λ (h : Contains pairs p). earlier (map v xs) links k p ((each p).0 h)) (λ (e : one ≡ p). here e) (Contains-push_cases pairs one p (subst (λ l. Contains l p) pushed at)),
  λ h. subst (λ l. Contains l p) (sym pushed) (elim (cases_lt h.inner k) [
    | inl less ↦ Contains-append_left pairs (one ∷ []) p ((each p).1 (record { inner = h.inner; outer = h.outer; below = less; link = h.link; is_inner = h.is_inner; is_outer = h.is_outer }))
    | inr more ↦ Contains-append_right pairs (one ∷ []) p (one_contains one p (there h more))
  ]),
)
  where
    one : ℕ × ℕ
    one = ((v (get_or xs k z)).range, (v (get_or xs outer z)).range)

    before : outer < k
    before = (subst (IsOpenBefore (map v xs) k) link (are k lt)).0

    none : IntervalValue
    none = record { document = 0; first = 0; last = 0; range = 0 }

    at_inner : (interval_at (map v xs) k).range ≡ (v (get_or xs k z)).range
    at_inner = ap (λ (s : IntervalValue). s.range) (get_or-map v xs k z none (omega (arith, lt, same_length)))

    at_outer : (interval_at (map v xs) outer).range ≡ (v (get_or xs outer z)).range
    at_outer = ap (λ (s : IntervalValue). s.range) (get_or-map v xs outer z none (omega (arith, before, lt, same_length)))

    here : one ≡ p → IsLinkPair (map v xs) links (k + 1) p
    here e = record {
      inner = k;
      outer = outer;
      below = omega arith;
      link = link;
      is_inner = sym (ap (λ (q : ℕ × ℕ). q.0) e) ∙ sym at_inner;
      is_outer = sym (ap (λ (q : ℕ × ℕ). q.1) e) ∙ sym at_outer;
    }

    there : (h : IsLinkPair (map v xs) links (k + 1) p) → k ≤ h.inner → one ≡ p
    there h more =
        let inner : h.inner ≡ k = omega (arith, h.below, more) in
        let e : ◌≡◌ {A = Option ℕ} (Some outer) (Some h.outer) = sym link ∙ ap (λ i. get_or links i None) (sym inner) ∙ h.link in
        let out : outer ≡ h.outer = cc in
        let a : one.0 ≡ p.0 = sym at_inner ∙ ap (λ i. (interval_at (map v xs) i).range) (sym inner) ∙ sym h.is_inner in
        let b : one.1 ≡ p.1 = sym at_outer ∙ ap (λ i. (interval_at (map v xs) i).range) out ∙ sym h.is_outer in
        λ i. (a i, b i)

-- how far it may still go outward
abbrev pub weight : Option ℕ → ℕ
weight None = 0
weight (Some c) = c + 1

-- the test that one interval lies in another
both_of : (a b : Bool) → (a && b) ≡ true → (a ≡ true) × (b ≡ true)
both_of true b e = (refl, e)
both_of false b e = cc

pub inside_not : (outer inner : IntervalValue) → encloses outer inner ≡ false → IsInside inner outer → ⊥
inside_not outer inner off h =
    let a : (outer.document == inner.document) ≡ true = grind (arith, h.0) in
    let b : nat_le outer.first inner.first ≡ true = grind (arith, h.1) in
    let c : nat_le inner.last outer.last ≡ true = grind (arith, h.2) in
    let t : encloses outer inner ≡ true = rw (a, b, c) refl in
    let e : true ≡ false = sym t ∙ off in cc

pub above_init : (intervals : List IntervalValue) → AreIntervals intervals → (i : ℕ) → i < length intervals → (o : Option ℕ) → SomeIff o (1 ≤ i) (i - 1) → IsAbove intervals i o
above_init intervals are i lt None none = above_none intervals are i lt (omega (arith, none))
above_init intervals are i lt (Some c) (some, is) = above_first intervals are i lt c (omega (arith, some, is))

-- where the test is false, what its link leads to is next
pub above_on : {A : Type 0} (v : A → IntervalValue) (xs : List A) (links : List (Option ℕ)) (i : ℕ) (z : A) → AreIntervals (map v xs) → AreLinks (map v xs) links → i < length xs → length links ≡ i → (o : Option ℕ) (c : ℕ) → o ≡ Some c → IsAbove (map v xs) i o
    → false ≡ encloses (v (get_or xs c z)) (v (get_or xs i z)) → IsAbove (map v xs) i (get_or links c None)
above_on v xs links i z are link lt same o c is above off =
    let it : IsAbove (map v xs) i (Some c) = subst (IsAbove (map v xs) i) is above in
    let at_c = get_or-map v xs c z (record { document = 0; first = 0; last = 0; range = 0 }) (omega (arith, it.0, lt)) in
    let at_i = get_or-map v xs i z (record { document = 0; first = 0; last = 0; range = 0 }) lt in
    let no : encloses (interval_at (map v xs) c) (interval_at (map v xs) i) ≡ false = ap (λ a. encloses a (interval_at (map v xs) i)) at_c ∙ ap (encloses (v (get_or xs c z))) at_i ∙ sym off in
    above_next (map v xs) are i (omega (arith, lt, length-map xs v)) c (get_or links c None) it (link c (omega (arith, it.0, same))) (inside_not (interval_at (map v xs) c) (interval_at (map v xs) i) no)
