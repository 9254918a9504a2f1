-- Where the greater start is before the lesser end, a position is covered by both spans, and only
-- there.
use Rattle.std.proofs.Common.{◌≡◌, Bool, true, false, if◌then◌else◌, refl, arith}
use Rattle.positions.specs.Position.{PositionValue, IsBefore, is_before, later_of, earlier_of}
use Rattle.positions.specs.Span.{SpanValue, overlaps, Covers}

before_true : (p q : PositionValue) → is_before p q ≡ true → IsBefore p q
before_true p q e = grind arith

before_false : (p q : PositionValue) → is_before p q ≡ false → IsBefore p q → ⊥
before_false p q e h = grind arith

true_before : (p q : PositionValue) → IsBefore p q → is_before p q ≡ true
true_before p q h = grind arith

later_by : (a b : PositionValue) (t : Bool) → is_before a b ≡ t → (IsBefore (if t then b else a) a → ⊥) × (IsBefore (if t then b else a) b → ⊥)
later_by a b true e = let h = before_true a b e in (λ k. grind arith, λ k. grind arith)
later_by a b false e = let h = before_false a b e in (λ k. grind arith, λ k. h k)

earlier_by : (q c d : PositionValue) (t : Bool) → is_before d c ≡ t → IsBefore q (if t then d else c) → IsBefore q c × IsBefore q d
earlier_by q c d true e k = let h = before_true d c e in (grind arith, k)
earlier_by q c d false e k = let h = before_false d c e in (k, grind arith)

later_of_both : (x a b : PositionValue) (t : Bool) → (IsBefore x a → ⊥) → (IsBefore x b → ⊥) → IsBefore x (if t then b else a) → ⊥
later_of_both x a b true f g k = g k
later_of_both x a b false f g k = f k

earlier_of_both : (x c d : PositionValue) (t : Bool) → IsBefore x c → IsBefore x d → IsBefore x (if t then d else c)
earlier_of_both x c d true f g = g
earlier_of_both x c d false f g = f

between : (x l e : PositionValue) → (IsBefore x l → ⊥) → IsBefore x e → IsBefore l e
between x l e f g = grind arith

pub overlaps-covered : (s t : SpanValue) → overlaps s t ≡ true → (p : PositionValue) × (Covers s p × Covers t p)
overlaps-covered s t e =
    let start = later_by s.start t.start (is_before s.start t.start) refl in
    let last = earlier_by (later_of s.start t.start) s.«end» t.«end» (is_before t.«end» s.«end») refl (before_true (later_of s.start t.start) (earlier_of s.«end» t.«end») e) in
    (later_of s.start t.start, ((start.0, last.0), (start.1, last.1)))

pub covered-overlaps : (s t : SpanValue) (p : PositionValue) → Covers s p → Covers t p → overlaps s t ≡ true
covered-overlaps s t p f g =
    let start = later_of_both p s.start t.start (is_before s.start t.start) f.0 g.0 in
    let last = earlier_of_both p s.«end» t.«end» (is_before t.«end» s.«end») f.1 g.1 in
    true_before _ _ (between p (later_of s.start t.start) (earlier_of s.«end» t.«end») start last)
