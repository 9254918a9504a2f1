-- A set has one list in order, and so at most one range answers a request at a position.
use Rattle.std.proofs.Common.{◌≡◌, ⊎_elim, ◌∙◌, ℕ, suc, List, [], ◌∷◌, refl, sym, ap, subst, arith}
use Rattle.std.specs.Prelude.{◌↔◌, ⊤, Contains, Option}
use Rattle.std.specs.List.{AllPairs}
use Rattle.std.specs.List.Sorted.{IsStrictlySortedBy}
use Rattle.std.specs.Cmp.{IsTotalOrder, then_total, on_total, nat_cmp_total}
use Rattle.std.specs.Cmp.Lexicographic.{on_texts}
use Rattle.std.specs.Ordering.{ordering_reverse}
use Rattle.std.specs.declared.cmp.Ordering.{Ordering}
use Rattle.std.specs.declared.cmp.Ordering.TheVariants.{Less, Greater}
use Rattle.std.proofs.lemmas.List.Elements.{All-contains, All-from_recursion}
use Rattle.positions.specs.Position.{PositionValue, IsAtOrBefore}
use Rattle.lsif.specs.Element.{IdValue, ElementValue}
use Rattle.lsif.specs.declared.request_kind.RequestKind.{RequestKind}
use Rattle.dump.specs.Places.{IsListing, IsCovering, PlaceValue, position_cmp, place_cmp}
use Rattle.dump.specs.declared.single.SingleLabel.TheVariants.{Request}
use Rattle.dump.specs.Requests.{RangeValue, IsWithin, Cover, First, IsFirst, nobody, here, later, Pick, Speaks}
use Rattle.dump.specs.Walks.{first_of_list, single_pairs, next_pairs}
use Rattle.dump.proofs.Chains.{unique}
use Rattle.streams.proofs.Members.{contains_head, contains_tail, contains_cases, not_in_nil}

-- ---- one list of a set

-- each member comes before those after it
abbrev pub Rises : {X : Type 0} → (X → X → Type 0) → List X → Type 0
Rises R [] = ⊤
Rises {X} R (x ∷ xs) = ((y : X) → Contains xs y → R x y) × Rises R xs

module _ {X : Type 0} (R : X → X → Type 0) (asym : (x y : X) → R x y → R y x → ⊥) where
  heads : (x y : X) (xs ys : List X) → ((z : X) → Contains xs z → R x z) → ((z : X) → Contains ys z → R y z) → Contains (y ∷ ys) x → Contains (x ∷ xs) y → x ≡ y
  heads x y xs ys h k at there = ⊎_elim
      (λ (e : y ≡ x). sym e)
      (λ (t : Contains ys x). ⊎_elim (λ (e : x ≡ y). e) (λ (u : Contains xs y). absurd (asym x y (h y u) (k x t))) (contains_cases x xs y there))
      (contains_cases y ys x at)

  -- what comes after the head of the one comes after that of the other
  behind : (x y z : X) (xs ys : List X) → x ≡ y → ((w : X) → Contains xs w → R x w) → Contains (y ∷ ys) z → Contains xs z → Contains ys z
  behind x y z xs ys same h at t = ⊎_elim
      (λ (e : y ≡ z). let this : R x x = subst (R x) (sym (same ∙ e)) (h z t) in absurd (asym x x this this))
      (λ (u : Contains ys z). u)
      (contains_cases y ys z at)

  one_list : (xs ys : List X) → Rises R xs → Rises R ys → ((z : X) → Contains xs z → Contains ys z) → ((z : X) → Contains ys z → Contains xs z) → xs ≡ ys
  one_list [] [] h k to from = refl
  one_list [] (y ∷ ys) h k to from = absurd (not_in_nil y (from y (contains_head y ys)))
  one_list (x ∷ xs) [] h k to from = absurd (not_in_nil x (to x (contains_head x xs)))
  one_list (x ∷ xs) (y ∷ ys) h k to from =
      let same = heads x y xs ys h.0 k.0 (to x (contains_head x xs)) (from y (contains_head y ys)) in
      let rest = one_list xs ys h.1 k.1
      (λ z t. behind x y z xs ys same h.0 (to z (contains_tail x xs z t)) t)
      (λ z t. behind y x z ys xs (sym same) k.0 (from z (contains_tail y ys z t)) t) in
      λ i. same i ∷ rest i

  one_of : (P : X → Type 0) (xs ys : List X) → Rises R xs → Rises R ys → ((z : X) → Contains xs z ↔ P z) → ((z : X) → Contains ys z ↔ P z) → xs ≡ ys
  one_of P xs ys h k a b = one_list xs ys h k (λ z at. (b z).1 ((a z).0 at)) (λ z at. (a z).1 ((b z).0 at))

-- ---- a listing

module _ {X : Type 0} (cmp : X → X → Ordering) (total : IsTotalOrder cmp) where
  asym : (x y : X) → cmp x y ≡ Less → cmp y x ≡ Less → ⊥
  asym x y e f = let k : Less ≡ Greater = sym e ∙ total.antisymm x y ∙ ap ordering_reverse f in cc

  rises : (xs : List X) → IsStrictlySortedBy cmp xs → Rises (λ x y. cmp x y ≡ Less) xs
  unfolding IsStrictlySortedBy
  rises [] h = tt
  rises (x ∷ xs) h = (λ y at. All-contains (λ z. cmp x z ≡ Less) xs y (All-from_recursion (λ z. cmp x z ≡ Less) xs h.0) at, rises xs h.1)

  pub one_listing : (P : X → Type 0) (xs ys : List X) → IsListing cmp P xs → IsListing cmp P ys → xs ≡ ys
  one_listing P xs ys a b = one_of (λ x y. cmp x y ≡ Less) asym P xs ys (rises xs a.rises) (rises ys b.rises) a.each b.each

position_total : IsTotalOrder position_cmp
position_total = then_total (on_total (λ (p : PositionValue). p.line) nat_cmp_total) (on_total (λ (p : PositionValue). p.character) nat_cmp_total)

pub place_total : IsTotalOrder place_cmp
place_total = then_total (on_texts (λ (p : PlaceValue). p.uri)) (then_total (on_total (λ (p : PlaceValue). p.span.start) position_total) (on_total (λ (p : PlaceValue). p.span.«end») position_total))

pub one_place_list : (places others : List PlaceValue) → IsStrictlySortedBy place_cmp places → IsStrictlySortedBy place_cmp others → ((place : PlaceValue) → Contains places place ↔ Contains others place) → places ≡ others
one_place_list places others a b same =
    one_listing place_cmp place_total (Contains others) places others (record { rises = a; each = same }) (record { rises = b; each = λ p. (λ t. t, λ t. t) })

-- ---- the first result

pub one_result : (request : RequestKind) (d : List ElementValue) (x : IdValue) (r s : Option IdValue) → First request d x r → First request d x s → r ≡ s
one_result request d x r s (xs, chain, is) (ys, other, says) =
    is ∙ ap (first_of_list (single_pairs (Request request) d)) (unique (next_pairs d) x xs ys chain other) ∙ sym says

-- ---- the ranges that cover a position

pub same_position : (p q : PositionValue) → IsAtOrBefore p q → IsAtOrBefore q p → p ≡ q
same_position p q f g =
    let line : p.line ≡ q.line = grind arith in
    let character : p.character ≡ q.character = grind arith in
    λ i. record { line = line i; character = character i }

within_asym : (r s : RangeValue) → IsWithin r.span s.span → IsWithin s.span r.span → ⊥
within_asym r s f g =
    let start = same_position r.span.start s.span.start g.0.0 f.0.0 in
    let last = same_position r.span.«end» s.span.«end» f.0.1 g.0.1 in
    f.1 (λ i. record { start = start i; «end» = last i })

pairs_rise : {X : Type 0} (R : X → X → Type 0) (xs : List X) → AllPairs R xs → Rises R xs
pairs_rise R [] h = tt
pairs_rise R (x ∷ xs) h = (
  λ y (k, lt, is). subst (R x) is (h 0 (suc k) y (omega arith) (omega arith)),
  pairs_rise R xs (λ i j d lt within. h (suc i) (suc j) d (omega arith) (omega arith)),
)

pub one_cover : (d : List ElementValue) (uri : List ℕ) (p : PositionValue) (ranges others : List RangeValue) → Cover d uri p ranges → Cover d uri p others → ranges ≡ others
one_cover d uri p ranges others a b =
    one_of (λ r s. IsWithin r.span s.span) within_asym (λ r. IsCovering d uri p r.id r.span) ranges others
    (pairs_rise (λ (r s : RangeValue). IsWithin r.span s.span) ranges a.rises) (pairs_rise (λ (r s : RangeValue). IsWithin r.span s.span) others b.rises) a.each b.each

one_first : {X : Type 0} (P : X → Type 0) (xs : List X) (o q : Option X) → IsFirst P xs o → IsFirst P xs q → o ≡ q
one_first P [] o q nobody nobody = refl
one_first P (x ∷ xs) o q (here h) (here k) = refl
one_first P (x ∷ xs) o q (here h) (later n k) = absurd (n h)
one_first P (x ∷ xs) o q (later n h) (here k) = absurd (n k)
one_first P (x ∷ xs) o q (later n h) (later m k) = one_first P xs o q h k

pub one_pick : (request : RequestKind) (d : List ElementValue) (uri : List ℕ) (p : PositionValue) (o q : Option RangeValue) → Pick request d uri p o → Pick request d uri p q → o ≡ q
one_pick request d uri p o q (ranges, cover, first) (others, other, second) =
    let same = one_cover d uri p ranges others cover other in
    one_first (λ (r : RangeValue). Speaks request d r.id) others o q (subst (λ rs. IsFirst (λ (r : RangeValue). Speaks request d r.id) rs o) same first) second
