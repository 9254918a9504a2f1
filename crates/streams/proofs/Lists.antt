-- Steps of a loop over a list: the result of the rest is that of the whole. And lists of numbers
-- that are equal by a test.
use Rattle.std.proofs.Common.{◌≡◌, ◌∙◌, ◌&&◌, ◌||◌, ℕ, ◌+◌, ◌<◌, ◌≤◌, suc, Bool, true, false, List, [], ◌∷◌, map, length, drop, get_or, drop-cons, add-one, refl, ap, sym}
use Rattle.std.proofs.Math.ListN.{drop_of_length-le}
use Rattle.std.specs.Cmp.Lexicographic.{pointwise}
use Rattle.std.specs.List.{list_all, list_any}
use Rattle.std.specs.Prelude.{◌==◌, nat_eq}
use Rattle.streams.proofs.Bools.{and_both, eq_of}

-- the item at an index, and those after it
pub drop_next : {A : Type 0} (xs : List A) (k : ℕ) (x : A) → k < length xs → x ≡ get_or xs k x → drop k xs ≡ x ∷ drop (k + 1) xs
drop_next xs k x lt e = let d : drop k xs ≡ get_or xs k x ∷ drop (suc k) xs = drop-cons xs k x lt in rw add-one (d ∙ ap (λ y. y ∷ drop (suc k) xs) (sym e))

pub drop_end : {A : Type 0} (xs : List A) (k : ℕ) → length xs ≤ k → drop k xs ≡ []
drop_end xs k le = drop_of_length-le xs le

or_true : (b c : Bool) → b ≡ true → (b || c) ≡ true
or_true b c e = rw e refl

or_false : (b c : Bool) → b ≡ false → (b || c) ≡ c
or_false b c e = rw e refl

and_true : (b c : Bool) → b ≡ true → (b && c) ≡ c
and_true b c e = rw e refl

and_false : (b c : Bool) → b ≡ false → (b && c) ≡ false
and_false b c e = rw e refl

-- ---- whether an item passes

pub any-hit : {A B : Type 0} (p : B → Bool) (f : A → B) (xs : List A) (k : ℕ) (x : A) (whole : Bool) → k < length xs → x ≡ get_or xs k x → p (f x) ≡ true → list_any p (map f (drop k xs)) ≡ whole → true ≡ whole
any-hit p f xs k x whole lt e h inv = let now = rw (drop_next xs k x lt e) at inv in sym (or_true (p (f x)) _ h) ∙ now

pub any-miss : {A B : Type 0} (p : B → Bool) (f : A → B) (xs : List A) (k : ℕ) (x : A) (whole : Bool) → k < length xs → x ≡ get_or xs k x → p (f x) ≡ false → list_any p (map f (drop k xs)) ≡ whole → list_any p (map f (drop (k + 1) xs)) ≡ whole
any-miss p f xs k x whole lt e h inv = let now = rw (drop_next xs k x lt e) at inv in sym (or_false (p (f x)) _ h) ∙ now

pub any-end : {A B : Type 0} (p : B → Bool) (f : A → B) (xs : List A) (k : ℕ) (whole : Bool) → length xs ≤ k → list_any p (map f (drop k xs)) ≡ whole → false ≡ whole
any-end p f xs k whole le inv = rw (drop_end xs k le) at inv

-- ---- whether each item passes

pub all-hit : {A B : Type 0} (p : B → Bool) (f : A → B) (xs : List A) (k : ℕ) (x : A) (whole : Bool) → k < length xs → x ≡ get_or xs k x → p (f x) ≡ false → list_all p (map f (drop k xs)) ≡ whole → false ≡ whole
all-hit p f xs k x whole lt e h inv = let now = rw (drop_next xs k x lt e) at inv in sym (and_false (p (f x)) _ h) ∙ now

pub all-miss : {A B : Type 0} (p : B → Bool) (f : A → B) (xs : List A) (k : ℕ) (x : A) (whole : Bool) → k < length xs → x ≡ get_or xs k x → p (f x) ≡ true → list_all p (map f (drop k xs)) ≡ whole → list_all p (map f (drop (k + 1) xs)) ≡ whole
all-miss p f xs k x whole lt e h inv = let now = rw (drop_next xs k x lt e) at inv in sym (and_true (p (f x)) _ h) ∙ now

pub all-end : {A B : Type 0} (p : B → Bool) (f : A → B) (xs : List A) (k : ℕ) (whole : Bool) → length xs ≤ k → list_all p (map f (drop k xs)) ≡ whole → true ≡ whole
all-end p f xs k whole le inv = rw (drop_end xs k le) at inv

-- ---- lists of numbers that are equal by a test

pub text_eq : (xs ys : List ℕ) → pointwise nat_eq xs ys ≡ true → xs ≡ ys
text_eq [] [] e = refl
text_eq [] (y ∷ ys) e = cc
text_eq (x ∷ xs) [] e = cc
text_eq (x ∷ xs) (y ∷ ys) e = let b = and_both (x == y) (pointwise nat_eq xs ys) e in let h = eq_of x y b.0 in let t = text_eq xs ys b.1 in λ i. h i ∷ t i
