-- The ranges that the walk lists are those that cover the position, the smallest first.
use Rattle.std.proofs.Common.{◌≡◌, ◌≢◌, ◌∙◌, ◌&&◌, ◌||◌, ℕ, nat_lt, Bool, true, false, not, cond, if◌then◌else◌, List, refl, sym, ap, subst, arith}
use Rattle.std.specs.Prelude.{T, Option, Some, ◌==◌}
use Rattle.std.proofs.Math.Dec.{eqb→eq}
use Rattle.std.specs.Cmp.{IsTotalOrder, then_total, on_total, nat_cmp_total, unsigned_ties}
use Rattle.std.specs.Ordering.{is_eq, is_lt, nat_cmp, ordering_then}
use Rattle.std.specs.declared.cmp.Ordering.{Ordering}
use Rattle.std.specs.declared.cmp.Ordering.TheVariants.{Less, Equal, Greater}
use Rattle.std.proofs.lemmas.Cmp.{back_total}
use Rattle.positions.specs.Position.{PositionValue, IsBefore, is_before, later_of, earlier_of}
use Rattle.positions.specs.Span.{SpanValue, Covers, Nests, covers, nests, overlaps}
use Rattle.lsif.specs.Element.{IdValue, same_id, VertexValue, range, ElementValue}
use Rattle.dump.specs.Graph.{vertex_at, span_of}
use Rattle.dump.specs.Contained.{is_in, conflicts, IsNested}
use Rattle.dump.specs.Places.{position_cmp}
use Rattle.dump.specs.Requests.{IsWithin, RangeValue}
use Rattle.machine.specs.Steps.Covers.{inner_order}
use Rattle.streams.proofs.Bools.{and_both, and_of}
use Rattle.dump.proofs.SameIds.{same_id_eq, same_id_self}

-- ---- positions and spans

before_true : (p q : PositionValue) → is_before p q ≡ true → IsBefore p q
before_true p q e = grind arith

before_false : (p q : PositionValue) → is_before p q ≡ false → IsBefore p q → ⊥
before_false p q e h = grind arith

true_before : (p q : PositionValue) → IsBefore p q → is_before p q ≡ true
true_before p q h = grind arith

not_false : (p q : PositionValue) → (IsBefore p q → ⊥) → not (is_before p q) ≡ true
not_false p q none = by (is_before p q) refl
  where
    by : (b : Bool) → is_before p q ≡ b → not b ≡ true
    by true e = absurd (none (before_true p q e))
    by false e = refl

not_itself : (p : PositionValue) → is_before p p ≡ false
not_itself p = grind arith

before_through : (p l e : PositionValue) → (IsBefore p l → ⊥) → IsBefore p e → IsBefore l e
before_through p l e f g = grind arith

later_of_both : (x a b : PositionValue) (t : Bool) → (IsBefore x a → ⊥) → (IsBefore x b → ⊥) → IsBefore x (if t then b else a) → ⊥
later_of_both x a b true f g k = g k
later_of_both x a b false f g k = f k

earlier_of_both : (x c d : PositionValue) (t : Bool) → IsBefore x c → IsBefore x d → IsBefore x (if t then d else c)
earlier_of_both x c d true f g = g
earlier_of_both x c d false f g = f

covered_overlaps : (s t : SpanValue) (p : PositionValue) → Covers s p → Covers t p → overlaps s t ≡ true
covered_overlaps s t p f g =
    let start = later_of_both p s.start t.start (is_before s.start t.start) f.0 g.0 in
    let last = earlier_of_both p s.«end» t.«end» (is_before t.«end» s.«end») f.1 g.1 in
    true_before _ _ (before_through p (later_of s.start t.start) (earlier_of s.«end» t.«end») start last)

not_true : (a : Bool) → not a ≡ true → a ≡ false
not_true true e = cc
not_true false e = refl

nests_of : (s t : SpanValue) → nests s t ≡ true → Nests s t
nests_of s t e =
    let h = and_both (not (is_before s.start t.start)) (not (is_before t.«end» s.«end»)) e in
    (before_false s.start t.start (not_true (is_before s.start t.start) h.0), before_false t.«end» s.«end» (not_true (is_before t.«end» s.«end») h.1))

nests_itself : (s : SpanValue) → nests s s ≡ true
nests_itself s = let start = not_itself s.start in let last = not_itself s.«end» in rw (start, last) refl

conflicts_itself : (s : SpanValue) → conflicts s s ≡ true
conflicts_itself s = let h = nests_itself s in rw h refl

pub covers_of : (s : SpanValue) (p : PositionValue) → covers s p ≡ true → Covers s p
covers_of s p e =
    let h = and_both (not (is_before p s.start)) (is_before p s.«end») e in
    (before_false p s.start (not_true (is_before p s.start) h.0), before_true p s.«end» h.1)

pub covers_from : (s : SpanValue) (p : PositionValue) → Covers s p → covers s p ≡ true
covers_from s p h = and_of (not (is_before p s.start)) (is_before p s.«end») (not_false p s.start h.0) (true_before p s.«end» h.1)

-- of two spans that overlap and don't conflict one nests in the other
other_nests : (n m o : Bool) → o ≡ true → m ≡ false → ((n && m) || (o && not n && not m)) ≡ false → n ≡ true
other_nests true m o over back e = refl
other_nests false true o over back e = cc
other_nests false false true over back e = cc
other_nests false false false over back e = cc

-- ---- the order of spans

position_total : IsTotalOrder position_cmp
position_total = then_total (on_total (λ p. p.line) nat_cmp_total) (on_total (λ p. p.character) nat_cmp_total)

pub inner_total : IsTotalOrder inner_order
inner_total = then_total (back_total (on_total (λ s. s.start) position_total)) (on_total (λ s. s.«end») position_total)

less_by : (a b c d : Bool) → is_lt (ordering_then (cond a Less (cond b Equal Greater)) (cond c Less (cond d Equal Greater))) ≡ (a || (b && c))
less_by true b c d = refl
less_by false true true d = refl
less_by false true false true = refl
less_by false true false false = refl
less_by false false c d = refl

less_before : (p q : PositionValue) → is_lt (position_cmp p q) ≡ is_before p q
less_before p q = less_by (nat_lt p.line q.line) (p.line == q.line) (nat_lt p.character q.character) (p.character == q.character)

and_false : (a : Bool) → (a && false) ≡ false
and_false true = refl
and_false false = refl

not_back_by : (x y : Ordering) (a b : Bool) → is_lt x ≡ a → is_lt y ≡ b → ordering_then x y ≡ Less → (not a && not b) ≡ false
not_back_by Less y a b f g e = subst (λ z. (not z && not b) ≡ false) f refl
not_back_by Equal Less a b f g e = subst (λ z. (not a && not z) ≡ false) g (and_false (not a))
not_back_by Equal Equal a b f g e = cc
not_back_by Equal Greater a b f g e = cc
not_back_by Greater y a b f g e = cc

-- a span doesn't nest in one that comes before it
not_back : (s t : SpanValue) → inner_order s t ≡ Less → nests t s ≡ false
not_back s t e = not_back_by (position_cmp t.start s.start) (position_cmp s.«end» t.«end») (is_before t.start s.start) (is_before s.«end» t.«end») (less_before t.start s.start) (less_before s.«end» t.«end») e

-- ---- the sort

pub ties_both : (a b : Ordering) (p q : Bool) → p ≡ is_eq a → q ≡ is_eq b → (p && q) ≡ is_eq (ordering_then a b)
ties_both Less b p q e f = rw e refl
ties_both Greater b p q e f = rw e refl
ties_both Equal b p q e f = rw (e, f) refl

abbrev pub same_position : PositionValue → PositionValue → Bool
same_position p q = (p.line == q.line) && (p.character == q.character)

pub position_ties : (p q : PositionValue) → same_position p q ≡ is_eq (position_cmp p q)
position_ties p q = ties_both (nat_cmp p.line q.line) (nat_cmp p.character q.character) (p.line == q.line) (p.character == q.character) (unsigned_ties p.line q.line) (unsigned_ties p.character q.character)

eq_back : (m n : ℕ) → (m == n) ≡ (n == m)
eq_back m n = grind arith

pub position_back : (p q : PositionValue) → same_position p q ≡ same_position q p
position_back p q = let l = eq_back p.line q.line in let c = eq_back p.character q.character in rw (l, c) refl

eq_of : (x y : ℕ) → (x == y) ≡ true → x ≡ y
eq_of x y e = eqb→eq x y (subst T (sym e) tt)

pub position_same : (p q : PositionValue) → same_position p q ≡ true → p ≡ q
position_same p q e =
    let h = and_both (p.line == q.line) (p.character == q.character) e in
    let a = eq_of p.line q.line h.0 in
    let b = eq_of p.character q.character h.1 in
    λ i. record { line = a i; character = b i }

-- ---- the ranges of a document that cover a position

range_is : (v w : SpanValue) → ◌≡◌ {A = Option VertexValue} (Some (range v)) (Some (range w)) → v ≡ w
range_is v w h = some_is v w (ap span_of h)
  where
    some_is : (e f : SpanValue) → ◌≡◌ {A = Option SpanValue} (Some e) (Some f) → e ≡ f
    some_is e f h = cc

-- the range lies in the document, has this span, and covers the position
abbrev pub Lies : List ElementValue → IdValue → PositionValue → RangeValue → Type 0
Lies d doc p r = (is_in d doc r.id ≡ true) × Covers r.span p × (vertex_at d r.id ≡ Some (range r.span))

-- ---- two of them

module _ (d : List ElementValue) (doc : IdValue) (p : PositionValue) (nested : IsNested d) where
  clear : (r s : RangeValue) → Lies d doc p r → Lies d doc p s → same_id r.id s.id ≡ false → conflicts r.span s.span ≡ false
  clear r s at_r at_s other =
      let apart : r.id ≡ s.id → ⊥ = λ h. let k : true ≡ false = sym (same_id_self s.id) ∙ subst (λ z. same_id z s.id ≡ false) h other in cc in
      nested doc r.id s.id r.span s.span at_r.0 at_s.0 at_r.2 at_s.2 apart

  pub two : (r s : RangeValue) → Lies d doc p r → Lies d doc p s → r.span ≡ s.span → r ≡ s
  two r s at_r at_s same = by (same_id r.id s.id) refl
    where
      by : (t : Bool) → same_id r.id s.id ≡ t → r ≡ s
      by true e = let k = same_id_eq r.id s.id e in λ i. record { id = k i; span = same i }
      by false e = let k : true ≡ false = sym (conflicts_itself s.span) ∙ subst (λ z. conflicts z s.span ≡ false) same (clear r s at_r at_s e) in cc

  pub within : (r s : RangeValue) → Lies d doc p r → Lies d doc p s → inner_order r.span s.span ≡ Less → IsWithin r.span s.span
  within r s at_r at_s less = (by (same_id r.id s.id) refl, unlike)
    where
      back : nests s.span r.span ≡ false
      back = not_back r.span s.span less

      unlike : r.span ≢ s.span
      unlike h = let k : true ≡ false = sym (nests_itself s.span) ∙ subst (λ z. nests s.span z ≡ false) h back in cc

      by : (t : Bool) → same_id r.id s.id ≡ t → Nests r.span s.span
      by true e = absurd (unlike (range_is r.span s.span (sym at_r.2 ∙ ap (vertex_at d) (same_id_eq r.id s.id e) ∙ at_s.2)))
      by false e = nests_of r.span s.span (other_nests (nests r.span s.span) (nests s.span r.span) (overlaps r.span s.span) (covered_overlaps r.span s.span p at_r.1 at_s.1) back (clear r s at_r at_s e))
