-- Of two spans that don't conflict one lies in the other, or they are apart.
use Rattle.std.proofs.Common.{◌≡◌, ◌⊎◌, inl, inr, ◌∙◌, ◌&&◌, ◌||◌, Bool, true, false, not, refl, sym, ap, subst, arith}
use Rattle.std.specs.Prelude.{if◌then◌else◌}
use Rattle.positions.specs.Position.{PositionValue, IsBefore, IsAtOrBefore, is_before}
use Rattle.positions.specs.Span.{SpanValue, Covers, Nests, nests, overlaps}
use Rattle.dump.specs.Contained.{conflicts}
use Rattle.dump.specs.Requests.{IsWithin}
use Rattle.dump.proofs.OnePicks.{same_position}
use Rattle.dump.proofs.Passes.{not_true}
use Rattle.tables.specs.Steps.Climbs.{ComesBefore}
use Rattle.tables.proofs.Keeping.{both}

-- ---- positions

before_false : (p q : PositionValue) → is_before p q ≡ false → IsBefore p q → ⊥
before_false p q e h = grind arith

never : (p : PositionValue) → IsBefore p p → ⊥
never p h = grind arith

before_then : (p q r : PositionValue) → IsBefore p q → IsBefore q r → IsBefore p r
before_then p q r f g = grind arith

before_at : (p q r : PositionValue) → IsBefore p q → IsAtOrBefore q r → IsBefore p r
before_at p q r f g = grind arith

at_before : (p q r : PositionValue) → IsAtOrBefore p q → IsBefore q r → IsBefore p r
at_before p q r f g = grind arith

pub at_then : (p q r : PositionValue) → IsAtOrBefore p q → IsAtOrBefore q r → IsAtOrBefore p r
at_then p q r f g h = grind arith

pub weaker : (p q : PositionValue) → IsBefore p q → IsAtOrBefore p q
weaker p q f h = never p (before_then p q p f h)

-- ---- spans

abbrev pub IsFilled : SpanValue → Type 0
IsFilled s = IsBefore s.start s.«end»

abbrev pub AreApart : SpanValue → SpanValue → Type 0
AreApart s t = IsAtOrBefore s.«end» t.start ⊎ IsAtOrBefore t.«end» s.start

pub nests_both : (s t : SpanValue) → Nests s t → Nests t s → s ≡ t
nests_both s t f g =
    let start = same_position s.start t.start g.0 f.0 in
    let last = same_position s.«end» t.«end» f.1 g.1 in
    λ i. record { start = start i; «end» = last i }

pub nests_same : (s t : SpanValue) → s ≡ t → Nests s t
nests_same s t e = subst (Nests s) e (never s.start, never s.«end»)

pub nests_then : (s t u : SpanValue) → Nests s t → Nests t u → Nests s u
nests_then s t u f g = (at_then u.start t.start s.start g.0 f.0, at_then s.«end» t.«end» u.«end» f.1 g.1)

pub within_then : (s t u : SpanValue) → IsWithin s t → IsWithin t u → IsWithin s u
within_then s t u f g = (nests_then s t u f.0 g.0, λ e. f.1 (nests_both s t f.0 (nests_then t u s g.0 (nests_same u s (sym e)))))

-- what covers isn't empty
pub covers_filled : (s : SpanValue) (p : PositionValue) → Covers s p → IsFilled s
covers_filled s p h = at_before s.start p s.«end» h.0 h.1

nests_of : (s t : SpanValue) → nests s t ≡ true → Nests s t
nests_of s t e =
    let h = both (not (is_before s.start t.start)) (not (is_before t.«end» s.«end»)) e in
    (before_false s.start t.start (not_true (is_before s.start t.start) h.0), before_false t.«end» s.«end» (not_true (is_before t.«end» s.«end») h.1))

true_false : {X : Type 0} (b : Bool) → b ≡ true → b ≡ false → X
true_false b e f = absurd (let h : true ≡ false = sym e ∙ f in cc)

apart_of : (s t : SpanValue) → IsFilled s → IsFilled t → overlaps s t ≡ false → AreApart s t
apart_of s t f g e = by (is_before s.start t.start) (is_before t.«end» s.«end») refl refl e
  where
    by : (a b : Bool) → is_before s.start t.start ≡ a → is_before t.«end» s.«end» ≡ b → is_before (if a then t.start else s.start) (if b then t.«end» else s.«end») ≡ false → AreApart s t
    by true true a b e = absurd (before_false t.start t.«end» e g)
    by true false a b e = inl (before_false t.start s.«end» e)
    by false true a b e = inr (before_false s.start t.«end» e)
    by false false a b e = absurd (before_false s.start s.«end» e f)

pub one_of_three : (s t : SpanValue) → IsFilled s → IsFilled t → conflicts s t ≡ false → IsWithin s t ⊎ (IsWithin t s ⊎ AreApart s t)
one_of_three s t f g clear = by (nests s t) (nests t s) (overlaps s t) refl refl refl clear
  where
    turned : s ≡ t → nests s t ≡ nests t s
    turned e = ap (λ (u : SpanValue). nests u t) e ∙ ap (λ (u : SpanValue). nests t u) (sym e)

    by : (n m o : Bool) → nests s t ≡ n → nests t s ≡ m → overlaps s t ≡ o → ((n && m) || (o && not n && not m)) ≡ false → IsWithin s t ⊎ (IsWithin t s ⊎ AreApart s t)
    by true true o a b c e = absurd cc
    by true false o a b c e = inl (nests_of s t a, λ same. true_false (nests s t) a (turned same ∙ b))
    by false true o a b c e = inr (inl (nests_of t s b, λ same. true_false (nests t s) b (sym (turned (sym same)) ∙ a)))
    by false false true a b c e = absurd cc
    by false false false a b c e = inr (inr (apart_of s t f g c))

-- a span that covers a position at or after another's start, and comes before this one, lies around
-- it
pub comes_around : (s t : SpanValue) (p : PositionValue) → IsFilled t → conflicts s t ≡ false → Covers s p → IsAtOrBefore t.start p → ComesBefore s t → Nests t s
comes_around s t p f clear h start (inr ties) = (λ k. never s.start (subst (λ q. IsBefore q s.start) (sym ties.0) k), ties.1)
comes_around s t p f clear h start (inl less) = elim (one_of_three s t (covers_filled s p h) f clear) [
  | inl within ↦ absurd (within.0.0 less)
  | inr (inl around) ↦ around.0
  | inr (inr (inl left)) ↦ absurd (left (at_before t.start p s.«end» start h.1))
  | inr (inr (inr right)) ↦ absurd (never s.start (before_then s.start t.start s.start less (before_at t.start t.«end» s.start f right)))
]

-- a span that lies in another isn't apart from it
pub not_apart : (s t : SpanValue) → IsFilled s → Nests s t → AreApart t s → ⊥
not_apart s t f h (inl left) = left (before_at s.start s.«end» t.«end» f h.1)
not_apart s t f h (inr right) = right (at_before t.start s.start s.«end» h.0 f)
