-- Whether two spans of a list conflict is the same in every order, and that of two lists in one
-- comes from the parts.
use Rattle.std.proofs.Common.{◌≡◌, ◌∙◌, ◌||◌, ◌++◌, ◌∷◌, [], ◌+◌, ℕ, Bool, true, false, cond, nat_lt, List, Result, Ok, Err, IfOk, length, IsPermutation, refl, sym, ap, ap₂, arith}
use Rattle.std.specs.Prelude.{sum_by}
use Rattle.std.specs.List.{list_any}
use Rattle.std.proofs.lemmas.Bool.Decides.{nat_tests}
use Rattle.std.proofs.lemmas.List.Folds.{list_any-append}
use Rattle.std.proofs.lemmas.List.Sums.{sum_by-cons}
use Rattle.std.proofs.lemmas.List.Sorted.{sum_by-IsPermutation, length_permutation, IsPermutation-append_comm}
use Rattle.positions.specs.Span.{SpanValue}
use Rattle.dump.specs.Contained.{conflicts, any_conflicts, has_conflict}
use Rattle.dump.proofs.Nests.{either_conflict}
use Rattle.dump.proofs.Passes.{conflicts_itself}

-- ---- two lists in one

or_regroup : (a b c d e : Bool) → ((a || b) || (c || (d || e))) ≡ ((a || c) || ((b || d) || e))
or_regroup true b c d e = refl
or_regroup false true true d e = refl
or_regroup false true false d e = refl
or_regroup false false true d e = refl
or_regroup false false false d e = refl

pub has_conflict-append : (xs ys : List SpanValue) → has_conflict (xs ++ ys) ≡ (has_conflict xs || (any_conflicts xs ys || has_conflict ys))
has_conflict-append [] ys = refl
has_conflict-append (x ∷ xs) ys =
    ap₂ (λ b c. b || c) (list_any-append (conflicts x) xs ys) (has_conflict-append xs ys)
    ∙ or_regroup (list_any (conflicts x) xs) (list_any (conflicts x) ys) (has_conflict xs) (any_conflicts xs ys) (has_conflict ys)

-- ---- every order

-- with how many spans of the list the span conflicts
count : List SpanValue → SpanValue → ℕ
count xs s = sum_by (λ t. cond (conflicts s t) 1 0) xs

-- in how many pairs of a first and a second, which may be one and the same, the two conflict
pairs : List SpanValue → ℕ
pairs xs = sum_by (count xs) xs

count-cons : (x : SpanValue) (xs : List SpanValue) (s : SpanValue) → count (x ∷ xs) s ≡ cond (conflicts s x) 1 0 + count xs s
unfolding count
count-cons x xs s = sum_by-cons (λ t. cond (conflicts s t) 1 0) x xs

sum-plus : (f g h : SpanValue → ℕ) → ((s : SpanValue) → f s ≡ g s + h s) → (xs : List SpanValue) → sum_by f xs ≡ sum_by g xs + sum_by h xs
sum-plus f g h e [] = refl
sum-plus f g h e (x ∷ xs) =
    let a = sum_by-cons f x xs in
    let b = sum_by-cons g x xs in
    let c = sum_by-cons h x xs in
    let d = sum-plus f g h e xs in
    let i = e x in
    omega arith

-- each conflicts with itself, and two that conflict make two pairs
pairs-cons : (x : SpanValue) (xs : List SpanValue) → conflicts x x ≡ true → pairs (x ∷ xs) ≡ 1 + (count xs x + count xs x) + pairs xs
unfolding pairs count
pairs-cons x xs self =
    let whole = sum_by-cons (count (x ∷ xs)) x xs in
    let here : count (x ∷ xs) x ≡ 1 + count xs x = count-cons x xs x ∙ ap (λ b. cond b 1 0 + count xs x) self in
    let rest = sum-plus (count (x ∷ xs)) (λ s. cond (conflicts s x) 1 0) (count xs) (count-cons x xs) xs in
    let back : sum_by (λ s. cond (conflicts s x) 1 0) xs ≡ count xs x = ap (λ (f : SpanValue → ℕ). sum_by f xs) (λ i s. cond (either_conflict s x i) 1 0) in
    omega arith

-- how many pairs conflict
conflict_count : List SpanValue → ℕ
conflict_count [] = 0
conflict_count (x ∷ xs) = count xs x + conflict_count xs

pairs_are : (xs : List SpanValue) → pairs xs ≡ length xs + (conflict_count xs + conflict_count xs)
unfolding conflict_count pairs
pairs_are [] = refl
pairs_are (x ∷ xs) =
    let more = pairs-cons x xs (conflicts_itself x) in
    let rest = pairs_are xs in
    more ∙ omega arith

or_cond : (b : Bool) (n : ℕ) → (b || nat_lt 0 n) ≡ nat_lt 0 (cond b 1 0 + n)
or_cond true n = grind (arith, nat_tests)
or_cond false n = grind (arith, nat_tests)

or_plus : (n m : ℕ) → (nat_lt 0 n || nat_lt 0 m) ≡ nat_lt 0 (n + m)
or_plus n m = grind (arith, nat_tests)

any_counted : (s : SpanValue) (xs : List SpanValue) → list_any (conflicts s) xs ≡ nat_lt 0 (count xs s)
unfolding count
any_counted s [] = refl
any_counted s (x ∷ xs) =
    ap (λ b. conflicts s x || b) (any_counted s xs) ∙ or_cond (conflicts s x) (count xs s) ∙ ap (nat_lt 0) (sym (count-cons x xs s))

has_counted : (xs : List SpanValue) → has_conflict xs ≡ nat_lt 0 (conflict_count xs)
unfolding conflict_count
has_counted [] = refl
has_counted (x ∷ xs) = ap₂ (λ b c. b || c) (any_counted x xs) (has_counted xs) ∙ or_plus (count xs x) (conflict_count xs)

pairs-permutation : (xs ys : List SpanValue) → IsPermutation xs ys → pairs ys ≡ pairs xs
unfolding pairs count
pairs-permutation xs ys moved =
    let each : count ys ≡ count xs = λ i s. sum_by-IsPermutation (λ t. cond (conflicts s t) 1 0) xs ys moved i in
    ap (λ (f : SpanValue → ℕ). sum_by f ys) each ∙ sum_by-IsPermutation (count xs) xs ys moved

pub has_conflict-permutation : (xs ys : List SpanValue) → IsPermutation xs ys → has_conflict ys ≡ has_conflict xs
has_conflict-permutation xs ys moved =
    let same = pairs-permutation xs ys moved in
    let long = length_permutation xs ys moved in
    let before = pairs_are xs in
    let after = pairs_are ys in
    let equal : conflict_count ys ≡ conflict_count xs = omega arith in
    has_counted ys ∙ ap (nat_lt 0) equal ∙ sym (has_counted xs)

-- ---- the targets and those that the document contains already

or_turned : (a b : Bool) → (a || (b || false)) ≡ (b || a)
or_turned true true = refl
or_turned true false = refl
or_turned false true = refl
or_turned false false = refl

-- two of the targets and the others conflict, where no two of the others do
pub conflict_of_both : (others targets spans : List SpanValue) → has_conflict others ≡ false → IsPermutation (others ++ targets) spans → has_conflict spans ≡ (any_conflicts targets others || has_conflict targets)
conflict_of_both others targets spans clear moved =
    has_conflict-permutation (others ++ targets) spans moved
    ∙ has_conflict-permutation (targets ++ others) (others ++ targets) (IsPermutation-append_comm targets others)
    ∙ has_conflict-append targets others
    ∙ ap (λ b. has_conflict targets || (any_conflicts targets others || b)) clear
    ∙ or_turned (has_conflict targets) (any_conflicts targets others)

pub answer_of_both : {E : Type 0} (others targets spans seen : List SpanValue) (r : Result Bool E) → has_conflict others ≡ false → IsPermutation (others ++ targets) spans → seen ≡ spans
    → IfOk r (λ b. b ≡ has_conflict seen) → IfOk r (λ b. b ≡ (any_conflicts targets others || has_conflict targets))
answer_of_both others targets spans seen (Ok b) clear moved is h = h ∙ ap has_conflict is ∙ conflict_of_both others targets spans clear moved
answer_of_both others targets spans seen (Err e) clear moved is h = h
