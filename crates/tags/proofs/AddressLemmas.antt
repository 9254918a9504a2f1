-- Steps of the loops that read an address.
use Rattle.std.proofs.Common.{◌≡◌, ◌∙◌, ◌==◌, ◌&&◌, ℕ, ◌+◌, ◌*◌, ◌-◌, ◌<◌, ◌≤◌, Bool, true, false, not, cond, nat_lt, nat_le, List, [], ◌∷◌, length, drop, get_or, Option, Some, None, refl, ap, sym, arith, position}
use Rattle.std.proofs.lemmas.Bool.Decides.{nat_tests}
use Rattle.std.proofs.lemmas.List.{drop_more, drop_all}
use Rattle.std.proofs.lemmas.List.Sums.{prefix_len-le-length}
use Rattle.std.specs.List.{list_all}
use Rattle.std.specs.Char.{is_ascii_digit, digit_value}
use Rattle.std.specs.Str.Parse.{digits_value_after}
use Rattle.tags.specs.Bytes.{backslash}
use Rattle.tags.specs.Steps.Cutting.{closing, further, digits_len, greatest_number}

-- ---- digits

some_by : (n pl len : ℕ) (t : Bool) → nat_lt pl len ≡ t → Some n ≡ cond t (Some pl) None → n ≡ pl
some_by n pl len true e h = cc
some_by n pl len false e h = absurd cc

pub digits_len-some : (bs : List ℕ) (n : ℕ) → Some n ≡ position (λ b. not (is_ascii_digit b)) bs → n ≡ digits_len bs
digits_len-some bs n h = some_by n (digits_len bs) (length bs) (nat_lt (digits_len bs) (length bs)) refl h

none_by : (pl len : ℕ) (t : Bool) → nat_lt pl len ≡ t → pl ≤ len → None ≡ cond t (Some pl) None → len ≡ pl
none_by pl len true e le h = absurd cc
none_by pl len false e le h = let ge : len ≤ pl = grind (arith, nat_tests) in omega arith

pub digits_len-le-length : (bs : List ℕ) → digits_len bs ≤ length bs
digits_len-le-length bs = prefix_len-le-length (λ b. not (not (is_ascii_digit b))) bs

pub digits_len-none : (bs : List ℕ) → None ≡ position (λ b. not (is_ascii_digit b)) bs → length bs ≡ digits_len bs
digits_len-none bs h = none_by (digits_len bs) (length bs) (nat_lt (digits_len bs) (length bs)) refl (digits_len-le-length bs) h

pub ruleset digits = (digits_len-some, digits_len-none, digits_len-le-length)

-- ---- the value of a number

-- whether value, followed by the digits from the place on, represents a number in range
abbrev pub in_range_from : ℕ → List ℕ → Bool
in_range_from value ds = list_all is_ascii_digit ds && nat_le (digits_value_after 10 value ds) greatest_number

pub in_range_from-digit : (value d : ℕ) (ds : List ℕ) → is_ascii_digit d ≡ true → in_range_from value (d ∷ ds) ≡ in_range_from (value * 10 + digit_value d) ds
in_range_from-digit value d ds e = rw e refl

le-digits_value_after : (value : ℕ) (ds : List ℕ) → value ≤ digits_value_after 10 value ds
le-digits_value_after value [] = omega arith
le-digits_value_after value (d ∷ ds) = omega (arith, le-digits_value_after (value * 10 + digit_value d) ds)

and_false : (b : Bool) → (b && false) ≡ false
and_false true = refl
and_false false = refl

pub in_range_from-large : (value : ℕ) (ds : List ℕ) → greatest_number < value → in_range_from value ds ≡ false
in_range_from-large value ds lt =
    let large : nat_le (digits_value_after 10 value ds) greatest_number ≡ false = grind (arith, nat_tests, le-digits_value_after value ds) in
    rw large (and_false (list_all is_ascii_digit ds))

pub digit_value-is : (d : ℕ) → is_ascii_digit d ≡ true → digit_value d ≡ d - 48
digit_value-is d e = grind (arith, nat_tests)

-- ---- the end of a pattern

pub further-further : (m n : ℕ) (o : Option ℕ) → further m (further n o) ≡ further (m + n) o
further-further m n None = refl
further-further m n (Some k) = ap Some (omega arith)

pub closing-escaped : (d b : ℕ) (bs : List ℕ) → closing d true (b ∷ bs) ≡ further 1 (closing d false bs)
unfolding closing
closing-escaped d b bs = refl

pub closing-here : (d b : ℕ) (bs : List ℕ) → (b == d) ≡ true → closing d false (b ∷ bs) ≡ Some 0
unfolding closing
closing-here d b bs e = rw e refl

pub closing-later : (d b : ℕ) (bs : List ℕ) → (b == d) ≡ false → closing d false (b ∷ bs) ≡ further 1 (closing d (b == backslash) bs)
unfolding closing
closing-later d b bs e = rw e refl

pub closing-nil : (d : ℕ) (escaped : Bool) → closing d escaped [] ≡ None
unfolding closing
closing-nil d true = refl
closing-nil d false = refl

-- the loop's state at a place of the bytes
abbrev pub closing_from : ℕ → Bool → List ℕ → ℕ → Option ℕ
closing_from d escaped bs k = further k (closing d escaped (drop k bs))

at_more : (bs : List ℕ) (k b : ℕ) → k < length bs → b ≡ get_or bs k 0 → drop k bs ≡ b ∷ drop (k + 1) bs
at_more bs k b lt e = drop_more bs k 0 lt ∙ ap (λ x. x ∷ drop (k + 1) bs) (sym e)

pub closing_from-escaped : (d b : ℕ) (bs : List ℕ) (k : ℕ) → k < length bs → b ≡ get_or bs k 0 → closing_from d true bs k ≡ closing_from d false bs (k + 1)
closing_from-escaped d b bs k lt e = rw (at_more bs k b lt e, closing-escaped) (further-further k 1 (closing d false (drop (k + 1) bs)))

pub closing_from-later : (d b : ℕ) (bs : List ℕ) (k : ℕ) → k < length bs → b ≡ get_or bs k 0 → (b == d) ≡ false → closing_from d false bs k ≡ closing_from d (b == backslash) bs (k + 1)
closing_from-later d b bs k lt e n = rw (at_more bs k b lt e, closing-later d b (drop (k + 1) bs) n) (further-further k 1 (closing d (b == backslash) (drop (k + 1) bs)))

pub closing_from-here : (d b : ℕ) (bs : List ℕ) (k : ℕ) → k < length bs → b ≡ get_or bs k 0 → (b == d) ≡ true → closing_from d false bs k ≡ Some k
closing_from-here d b bs k lt e n = rw (at_more bs k b lt e, closing-here d b (drop (k + 1) bs) n) (ap Some (omega arith))

pub closing_from-end : (d : ℕ) (escaped : Bool) (bs : List ℕ) (k : ℕ) → length bs ≤ k → closing_from d escaped bs k ≡ None
closing_from-end d escaped bs k le = rw (drop_all k bs le, closing-nil) refl

-- the number at a place of its digits
pub in_range-next : (value d : ℕ) (ds : List ℕ) (k : ℕ) → k < length ds → d ≡ get_or ds k 0 → is_ascii_digit d ≡ true → in_range_from value (drop k ds) ≡ in_range_from (value * 10 + (d - 48)) (drop (k + 1) ds)
in_range-next value d ds k lt e t = rw (at_more ds k d lt e, ← digit_value-is d t) (in_range_from-digit value d (drop (k + 1) ds) t)
