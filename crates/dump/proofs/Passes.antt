-- The order of spans, and when two of them conflict.
use Rattle.std.proofs.Common.{◌≡◌, ◌∙◌, ◌&&◌, ◌||◌, ℕ, ◌≤◌, ◌<◌, Bool, true, false, not, cond, nat_lt, ◌==◌, List, length, get_or, refl, sym, subst, arith}
use Rattle.std.specs.declared.cmp.Ordering.{Ordering}
use Rattle.std.specs.declared.cmp.Ordering.TheVariants.{Less, Equal, Greater}
use Rattle.std.specs.Ordering.{nat_cmp, ordering_then, is_lt}
use Rattle.std.specs.Cmp.{IsTotalOrder, then_total, on_total, nat_cmp_total}
use Rattle.std.proofs.lemmas.Cmp.{back_total}
use Rattle.std.proofs.lemmas.List.Sorted.{sorted_far, ranks_by}
use Rattle.positions.specs.Position.{PositionValue, is_before, earlier_of}
use Rattle.positions.specs.Span.{SpanValue, nests, overlaps}
use Rattle.dump.specs.Contained.{conflicts}
use Rattle.dump.specs.Places.{position_cmp}
use Rattle.dump.specs.Steps.Spans.{span_order, IsOrdered}
use Rattle.streams.proofs.Bools.{not_false}
use Rattle.dump.proofs.Nests.{equal_positions}

-- ---- positions

pub not_true : (b : Bool) → not b ≡ true → b ≡ false
not_true true e = cc
not_true false e = refl

pub at_most : (a b c : PositionValue) → is_before b a ≡ false → is_before c b ≡ false → is_before c a ≡ false
at_most a b c e f = grind (arith, e, f)

pub less_at_most : (a b c : PositionValue) → is_before a b ≡ true → is_before c b ≡ false → is_before a c ≡ true
less_at_most a b c e f = grind (arith, e, f)

pub one_way : (a b : PositionValue) → is_before a b ≡ true → is_before b a ≡ false
one_way a b e = grind (arith, e)

-- ---- the order of spans

position_total : IsTotalOrder position_cmp
position_total = then_total (on_total (λ p. p.line) nat_cmp_total) (on_total (λ p. p.character) nat_cmp_total)

less_by : (a b c d : Bool) → is_lt (ordering_then (cond a Less (cond b Equal Greater)) (cond c Less (cond d Equal Greater))) ≡ (a || (b && c))
less_by true b c d = refl
less_by false true true d = refl
less_by false true false true = refl
less_by false true false false = refl
less_by false false c d = refl

less_before : (p q : PositionValue) → is_lt (position_cmp p q) ≡ is_before p q
less_before p q = less_by (nat_lt p.line q.line) (p.line == q.line) (nat_lt p.character q.character) (p.character == q.character)

-- the first isn't after the second in the order of spans
pub record NotAfter (s t : SpanValue) : Type 0 where
  pub start : is_before t.start s.start ≡ false
  pub within : is_before s.start t.start ≡ false → is_before s.«end» t.«end» ≡ false

not_less : (x y : Ordering) → is_lt (ordering_then x y) ≡ false → is_lt x ≡ false
not_less Less y e = cc
not_less Equal y e = refl
not_less Greater y e = refl

not_less_then : (x y : Ordering) → x ≡ Equal → is_lt (ordering_then x y) ≡ false → is_lt y ≡ false
not_less_then x y same e = let h = rw same at e in h

same_order : (n : ℕ) → nat_cmp n n ≡ Equal
same_order n = grind arith

pub same_position : (p : PositionValue) → position_cmp p p ≡ Equal
same_position p = rw (same_order p.line) (same_order p.character)

pub not_after : (s t : SpanValue) → is_lt (span_order t s) ≡ false → NotAfter s t
not_after s t e =
    let first = sym (less_before t.start s.start) ∙ not_less (position_cmp t.start s.start) (position_cmp s.«end» t.«end») e in
    record {
      start = first;
      within = λ f.
          let same : position_cmp t.start s.start ≡ Equal = subst (λ p. position_cmp t.start p ≡ Equal) (equal_positions t.start s.start first f) (same_position t.start) in
          sym (less_before s.«end» t.«end») ∙ not_less_then (position_cmp t.start s.start) (position_cmp s.«end» t.«end») same e;
    }

pub span_total : IsTotalOrder span_order
span_total = then_total (on_total (λ s. s.start) position_total) (back_total (on_total (λ s. s.«end») position_total))

-- each span isn't after a later one
pub each_not_after : (xs : List SpanValue) → IsOrdered xs → (i j : ℕ) (d : SpanValue) → i ≤ j → j < length xs → NotAfter (get_or xs i d) (get_or xs j d)
each_not_after xs up i j d le lt = not_after (get_or xs i d) (get_or xs j d) (sorted_far (λ s t. is_lt (span_order s t)) (ranks_by span_total (λ s. s)) xs up i j d le lt)

-- ---- two spans

pub apart_no_nests : (s t : SpanValue) → is_before s.start t.start ≡ true → nests s t ≡ false
apart_no_nests s t e = rw e refl

-- of two spans that don't nest in each other, those that overlap conflict
pub plain_conflict : (n m o : Bool) → n ≡ false → m ≡ false → ((n && m) || (o && not n && not m)) ≡ o
plain_conflict true m o e f = cc
plain_conflict false true o e f = cc
plain_conflict false false true e f = refl
plain_conflict false false false e f = refl

pub overlap_apart : (s t : SpanValue) → is_before s.start t.start ≡ true → overlaps s t ≡ is_before t.start (earlier_of s.«end» t.«end»)
overlap_apart s t e = rw e refl

pub first_end : (b d : PositionValue) → is_before d b ≡ false → earlier_of b d ≡ b
first_end b d e = rw e refl

pub reaches : (s t : SpanValue) → is_before t.start s.start ≡ false → nests t s ≡ false → is_before s.«end» t.«end» ≡ true
reaches s t e f = not_false (is_before s.«end» t.«end») (subst (λ b. (not b && not (is_before s.«end» t.«end»)) ≡ false) e f)

pub true_is : (b : Bool) → (b ≡ false → true ≡ false) → b ≡ true
true_is true h = refl
true_is false h = sym (h refl)

pub nests_itself : (s : SpanValue) → nests s s ≡ true
nests_itself s =
    let start : is_before s.start s.start ≡ false = itself s.start in
    let last : is_before s.«end» s.«end» ≡ false = itself s.«end» in
    rw (start, last) refl
  where
    itself : (p : PositionValue) → is_before p p ≡ false
    itself p = grind arith

pub conflicts_itself : (s : SpanValue) → conflicts s s ≡ true
conflicts_itself s = let h = nests_itself s in rw h refl
