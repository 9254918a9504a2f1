-- What is around the first of a byte, in the words of std.
use Rattle.std.proofs.Common.{◌≡◌, ◌∙◌, ◌==◌, ℕ, ◌+◌, ◌<◌, ◌≤◌, suc, Bool, true, false, not, List, [], ◌∷◌, length, take, drop, Option, Some, None, option_map, refl, ap, sym, add-one, arith, cond, nat_lt, MatchOption, Bor}
use Rattle.std.proofs.Math.Numerals.{one-add}
use Rattle.std.proofs.lemmas.Bool.Decides.{nat_tests}
use Rattle.std.proofs.lemmas.List.Sums.{prefix_len-le-length}
use Rattle.std.specs.List.{position, position_or_len, before_first, after_first, slice_split, onto_first}
use Rattle.tags.specs.Around.{around, longer}

abbrev pub is : ℕ → ℕ → Bool
is c b = b == c

-- the place of the first c, where the first byte isn't one
place-later : (c b : ℕ) (bs : List ℕ) → (b == c) ≡ false → position_or_len (is c) (b ∷ bs) ≡ suc (position_or_len (is c) bs)
place-later c b bs e = rw e (one-add (position_or_len (is c) bs))

before-later : (c b : ℕ) (bs : List ℕ) → (b == c) ≡ false → before_first (is c) (b ∷ bs) ≡ b ∷ before_first (is c) bs
before-later c b bs e = ap (λ n. take n (b ∷ bs)) (place-later c b bs e)

after-later : (c b : ℕ) (bs : List ℕ) → (b == c) ≡ false → after_first (is c) (b ∷ bs) ≡ after_first (is c) bs
after-later c b bs e = ap (λ n. drop (n + 1) (b ∷ bs)) (place-later c b bs e) ∙ ap (λ n. drop n (b ∷ bs)) (add-one (suc (position_or_len (is c) bs))) ∙ ap (λ n. drop n bs) (sym (add-one (position_or_len (is c) bs)))

here : (c b : ℕ) (bs : List ℕ) → (b == c) ≡ true → around c (b ∷ bs) ≡ Some (before_first (is c) (b ∷ bs), after_first (is c) (b ∷ bs))
unfolding around
here c b bs e = rw e refl

later : (c b : ℕ) (bs : List ℕ) → (b == c) ≡ false → around c bs ≡ Some (before_first (is c) bs, after_first (is c) bs) → around c (b ∷ bs) ≡ Some (before_first (is c) (b ∷ bs), after_first (is c) (b ∷ bs))
unfolding around
later c b bs e h = rw (before-later c b bs e, after-later c b bs e, e, h) refl

found_by : (c b : ℕ) (bs : List ℕ) (t : Bool) → (b == c) ≡ t → (position_or_len (is c) bs < length bs → around c bs ≡ Some (before_first (is c) bs, after_first (is c) bs)) → position_or_len (is c) (b ∷ bs) < suc (length bs) → around c (b ∷ bs) ≡ Some (before_first (is c) (b ∷ bs), after_first (is c) (b ∷ bs))
found_by c b bs true e ih lt = here c b bs e
found_by c b bs false e ih lt = later c b bs e (ih (omega (arith, place-later c b bs e)))

pub around-found : (c : ℕ) (bs : List ℕ) → position_or_len (is c) bs < length bs → around c bs ≡ Some (before_first (is c) bs, after_first (is c) bs)
around-found c [] lt = absurd (omega arith)
around-found c (b ∷ bs) lt = found_by c b bs (b == c) refl (around-found c bs) lt

none_by : (c b : ℕ) (bs : List ℕ) (t : Bool) → (b == c) ≡ t → (position_or_len (is c) bs ≡ length bs → around c bs ≡ None) → position_or_len (is c) (b ∷ bs) ≡ suc (length bs) → around c (b ∷ bs) ≡ None
unfolding around
none_by c b bs true e ih lt = let zero_is : position_or_len (is c) (b ∷ bs) ≡ 0 = rw e refl in absurd (omega (arith, zero_is))
none_by c b bs false e ih lt = let less : position_or_len (is c) bs ≡ length bs = omega (arith, place-later c b bs e) in rw (e, ih less) refl

pub around-none : (c : ℕ) (bs : List ℕ) → position_or_len (is c) bs ≡ length bs → around c bs ≡ None
unfolding around
around-none c [] e = refl
around-none c (b ∷ bs) e = none_by c b bs (b == c) refl (around-none c bs) e

-- the answer of `split_once`
pub around-split : (c : ℕ) (bs : List ℕ) (r : Option (Bor (List ℕ) × Bor (List ℕ))) → MatchOption r (position_or_len (is c) bs ≡ length bs) (λ x. (position_or_len (is c) bs < length bs) × (x.0.now ≡ before_first (is c) bs) × (x.1.now ≡ after_first (is c) bs)) → option_map (λ p. (p.0.now, p.1.now)) r ≡ around c bs
around-split c bs None h = sym (around-none c bs h)
around-split c bs (Some x) h = rw (h.1, h.2) (sym (around-found c bs h.0))

position_by : (c n : ℕ) (bs : List ℕ) (t : Bool) → nat_lt (position_or_len (is c) bs) (length bs) ≡ t → cond t (Some (position_or_len (is c) bs)) None ≡ Some n → around c bs ≡ Some (take n bs, drop (n + 1) bs)
position_by c n bs true e h = let same : position_or_len (is c) bs ≡ n = cc in let lt : position_or_len (is c) bs < length bs = grind (arith, nat_tests) in rw (around-found c bs lt, same) refl
position_by c n bs false e h = absurd cc

pub around-position : (c n : ℕ) (bs : List ℕ) → position (is c) bs ≡ Some n → around c bs ≡ Some (take n bs, drop (n + 1) bs)
around-position c n bs h = position_by c n bs (nat_lt (position_or_len (is c) bs) (length bs)) refl h

no_position_by : (c : ℕ) (bs : List ℕ) (t : Bool) → nat_lt (position_or_len (is c) bs) (length bs) ≡ t → cond t (Some (position_or_len (is c) bs)) None ≡ None → around c bs ≡ None
no_position_by c bs true e h = absurd cc
no_position_by c bs false e h = let le : length bs ≤ position_or_len (is c) bs = grind (arith, nat_tests) in around-none c bs (omega (arith, prefix_len-le-length (λ x. not (is c x)) bs))

pub around-no_position : (c : ℕ) (bs : List ℕ) → position (is c) bs ≡ None → around c bs ≡ None
around-no_position c bs h = no_position_by c bs (nat_lt (position_or_len (is c) bs) (length bs)) refl h

pub ruleset places = (around-position, around-no_position)

-- ---- the parts between the bytes

-- the parts, by what is around the first of the bytes
abbrev pub parts_by : ℕ → List ℕ → Option (List ℕ × List ℕ) → List (List ℕ)
parts_by c bs None = bs ∷ []
parts_by c bs (Some p) = p.0 ∷ slice_split (is c) p.1

onto-parts_by : (c b : ℕ) (bs : List ℕ) (o : Option (List ℕ × List ℕ)) → onto_first b (parts_by c bs o) ≡ parts_by c (b ∷ bs) (option_map (longer b) o)
onto-parts_by c b bs None = refl
onto-parts_by c b bs (Some p) = refl

split_by : (c b : ℕ) (bs : List ℕ) (t : Bool) → (b == c) ≡ t → slice_split (is c) bs ≡ parts_by c bs (around c bs) → slice_split (is c) (b ∷ bs) ≡ parts_by c (b ∷ bs) (around c (b ∷ bs))
unfolding around
split_by c b bs true e ih = rw e refl
split_by c b bs false e ih = rw (e, ih) (onto-parts_by c b bs (around c bs))

pub split-around : (c : ℕ) (bs : List ℕ) → slice_split (is c) bs ≡ parts_by c bs (around c bs)
unfolding around
split-around c [] = refl
split-around c (b ∷ bs) = split_by c b bs (b == c) refl (split-around c bs)
