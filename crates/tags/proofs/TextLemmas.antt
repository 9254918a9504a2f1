-- Parts of a text between ASCII bytes are texts.
use Rattle.std.proofs.Common.{◌≡◌, ◌==◌, ℕ, ◌+◌, ◌<◌, ◌≤◌, Bool, true, false, List, [], ◌∷◌, ◌++◌, length, take, drop, get_or, Option, Some, None, option_map, refl, ap, add-one, arith, length-append}
use Rattle.std.proofs.lemmas.Bool.Decides.{nat_tests}
use Rattle.std.proofs.lemmas.List.{take_at, get_or_at}
use Rattle.std.proofs.lemmas.Option.{some_pair_parts}
use Rattle.std.proofs.lemmas.Str.{IsUtf8-take, IsUtf8-drop, IsCharBoundary-before_ascii, IsCharBoundary-after_ascii, IsUtf8-from_is_utf8, is_utf8-from_IsUtf8}
use Rattle.std.proofs.lemmas.Bool.{false_from_ne_true}
use Rattle.std.specs.Str.{IsUtf8, is_utf8, IsCharBoundary}
use Rattle.tags.specs.Around.{around, longer}

abbrev pub Surround : ℕ → List ℕ → List ℕ × List ℕ → Type 0
Surround c bs p = bs ≡ p.0 ++ c ∷ p.1

surround_later : (c b : ℕ) (bs : List ℕ) (o : Option (List ℕ × List ℕ)) → ((p : List ℕ × List ℕ) → o ≡ Some p → Surround c bs p) → (p : List ℕ × List ℕ) → option_map (longer b) o ≡ Some p → Surround c (b ∷ bs) p
surround_later c b bs None ih p h = absurd cc
surround_later c b bs (Some q) ih p h =
    let front : b ∷ q.0 ≡ p.0 = (some_pair_parts (b ∷ q.0) p.0 q.1 p.1 h).0 in
    let back : q.1 ≡ p.1 = (some_pair_parts (b ∷ q.0) p.0 q.1 p.1 h).1 in
    rw (← front, ← back) (ap (λ xs. b ∷ xs) (ih q refl))

surround_by : (c b : ℕ) (bs : List ℕ) (t : Bool) → (b == c) ≡ t → ((p : List ℕ × List ℕ) → around c bs ≡ Some p → Surround c bs p) → (p : List ℕ × List ℕ) → around c (b ∷ bs) ≡ Some p → Surround c (b ∷ bs) p
unfolding around
surround_by c b bs true e ih p h =
    let same : b ≡ c = grind (arith, nat_tests) in
    let found : ◌≡◌ {A = Option (List ℕ × List ℕ)} (Some ([], bs)) (Some (p.0, p.1)) = rw e at h in
    let parts = some_pair_parts [] p.0 bs p.1 found in
    rw (← parts.0, ← parts.1, same) refl
surround_by c b bs false e ih p h =
    let later : option_map (longer b) (around c bs) ≡ Some p = rw e at h in
    surround_later c b bs (around c bs) ih p later

-- the bytes are the two parts and what is between them
pub around-surrounds : (c : ℕ) (bs : List ℕ) (p : List ℕ × List ℕ) → around c bs ≡ Some p → Surround c bs p
unfolding around
around-surrounds c [] p h = absurd cc
around-surrounds c (b ∷ bs) p h = surround_by c b bs (b == c) refl (around-surrounds c bs) p h

pub text-front : (xs ys : List ℕ) (c : ℕ) → c < 128 → IsUtf8 (xs ++ c ∷ ys) → IsUtf8 xs
text-front xs ys c ascii text =
    let lt : length xs < length (xs ++ c ∷ ys) = omega (arith, length-append xs (c ∷ ys)) in
    let at : get_or (xs ++ c ∷ ys) (length xs) 0 ≡ c = get_or_at xs c ys 0 (length xs) refl in
    let low : get_or (xs ++ c ∷ ys) (length xs) 0 < 128 = rw at ascii in
    rw (take_at xs (c ∷ ys) (length xs) refl) at (IsUtf8-take (xs ++ c ∷ ys) (length xs) text (IsCharBoundary-before_ascii (xs ++ c ∷ ys) (length xs) lt low))

drop_past : (xs ys : List ℕ) (c : ℕ) → drop (length xs + 1) (xs ++ c ∷ ys) ≡ ys
drop_past [] ys c = refl
drop_past (x ∷ xs) ys c = rw add-one (rw add-one at (drop_past xs ys c))

pub text-back : (xs ys : List ℕ) (c : ℕ) → c < 128 → IsUtf8 (xs ++ c ∷ ys) → IsUtf8 ys
text-back xs ys c ascii text =
    let lt : length xs < length (xs ++ c ∷ ys) = omega (arith, length-append xs (c ∷ ys)) in
    let at : get_or (xs ++ c ∷ ys) (length xs) 0 ≡ c = get_or_at xs c ys 0 (length xs) refl in
    let low : get_or (xs ++ c ∷ ys) (length xs) 0 < 128 = rw at ascii in
    rw (drop_past xs ys c) at (IsUtf8-drop (xs ++ c ∷ ys) (length xs + 1) text (IsCharBoundary-after_ascii (xs ++ c ∷ ys) (length xs) text lt low))

pub around-texts : (c : ℕ) (bs xs ys : List ℕ) → c < 128 → IsUtf8 bs → around c bs ≡ Some (xs, ys) → IsUtf8 xs × IsUtf8 ys
around-texts c bs xs ys ascii text h =
    let whole : bs ≡ xs ++ c ∷ ys = around-surrounds c bs (xs, ys) h in
    let same : IsUtf8 (xs ++ c ∷ ys) = rw whole at text in
    (text-front xs ys c ascii same, text-back xs ys c ascii same)

-- a place before an ASCII byte, or at the end
pub boundary_at : (bs : List ℕ) (n : ℕ) → n ≤ length bs → get_or bs n 0 < 128 → IsCharBoundary bs n
boundary_at bs n le low = (le, λ lt ge. absurd (omega arith))

pub texts_at : (bs : List ℕ) (n : ℕ) → n ≤ length bs → get_or bs n 0 < 128 → IsUtf8 bs → IsUtf8 (take n bs) × IsUtf8 (drop n bs)
texts_at bs n le low text = (IsUtf8-take bs n text (boundary_at bs n le low), IsUtf8-drop bs n text (boundary_at bs n le low))

pub is_utf8-text : (bs : List ℕ) → IsUtf8 bs → is_utf8 bs ≡ true
is_utf8-text bs text = is_utf8-from_IsUtf8 bs text

pub is_utf8-no_text : (bs : List ℕ) → ¬ IsUtf8 bs → is_utf8 bs ≡ false
is_utf8-no_text bs no_text = false_from_ne_true (is_utf8 bs) (λ e. no_text (IsUtf8-from_is_utf8 bs e))

pub ruleset texts = (is_utf8-text, is_utf8-no_text)
