-- How values are written, against how they are read.
use Rattle.std.proofs.Common.{◌≡◌, ◌≢◌, ◌∙◌, ◌==◌, ◌&&◌, ◌++◌, ℕ, ◌+◌, ◌*◌, ◌<◌, Bool, true, false, nat_lt, cond, List, [], ◌∷◌, Option, Some, None, option_and_then, refl, ap, sym, subst, arith}
use Rattle.std.proofs.lemmas.Bool.Decides.{nat_tests}
use Rattle.std.specs.List.{flat_map}
use Rattle.std.specs.Char.{digit_value}
use Rattle.tags.specs.Bytes.{backslash, letter_x}
use Rattle.tags.specs.Escapes.{onto, decoded, after_backslash, after_x, after_digit, letter_value, hex_value, in_ascii}
use Rattle.tags.specs.Written.{Piece, itself, letter, digits, piece_text, IsHex, StandsFor, StandFor, IsWritten}

-- ---- what is written so is read

no_letter_x : letter_value letter_x ≡ None
unfolding letter_value
no_letter_x = refl

other_letter : (c v : ℕ) → letter_value c ≡ Some v → c ≢ letter_x
other_letter c v h e = let none : letter_value c ≡ None = ap letter_value e ∙ no_letter_x in cc

other_test : (b c : ℕ) → b ≢ c → (b == c) ≡ false
other_test b c h = grind (arith, nat_tests, h)

low_test : (m n : ℕ) → m < n → nat_lt m n ≡ true
low_test m n h = grind (arith, nat_tests)

hex_value-hex : (high low value : ℕ) → IsHex high low value → hex_value high low ≡ Some value
unfolding hex_value
hex_value-hex high low value h =
    let positive : nat_lt 0 (digit_value high * 16 + digit_value low) ≡ true = low_test 0 (digit_value high * 16 + digit_value low) (omega (arith, h.sum, h.positive)) in
    let ascii : nat_lt (digit_value high * 16 + digit_value low) 128 ≡ true = low_test (digit_value high * 16 + digit_value low) 128 (omega (arith, h.sum, h.ascii)) in
    rw (low_test (digit_value high) 16 h.first_digit, low_test (digit_value low) 16 h.second_digit, positive, ascii) (ap Some (sym h.sum))

decoded_itself : (b : ℕ) (rest : List ℕ) → b ≢ backslash → decoded (b ∷ rest) ≡ onto b (decoded rest)
unfolding decoded
decoded_itself b rest h = rw (other_test b backslash h) refl

decoded_letter : (c v : ℕ) (rest : List ℕ) → letter_value c ≡ Some v → decoded (backslash ∷ c ∷ rest) ≡ onto v (decoded rest)
unfolding decoded
decoded_letter c v rest h = rw (other_test c letter_x (other_letter c v h), h) refl

decoded_digits : (high low v : ℕ) (rest : List ℕ) → hex_value high low ≡ Some v → decoded (backslash ∷ letter_x ∷ high ∷ low ∷ rest) ≡ onto v (decoded rest)
unfolding decoded
decoded_digits high low v rest h = rw h refl

decoded_piece : (p : Piece) (v : ℕ) (rest : List ℕ) → StandsFor p v → decoded (piece_text p ++ rest) ≡ onto v (decoded rest)
decoded_piece (itself b) v rest h = decoded_itself b rest h.0 ∙ ap (λ x. onto x (decoded rest)) (sym h.1)
decoded_piece (letter c) v rest h = decoded_letter c v rest h
decoded_piece (digits high low) v rest h = decoded_digits high low v rest (hex_value-hex high low v h)

decoded_nothing : decoded [] ≡ Some []
unfolding decoded
decoded_nothing = refl

pub decoded-pieces : (pieces : List Piece) (value : List ℕ) → StandFor pieces value → decoded (flat_map piece_text pieces) ≡ Some value
decoded-pieces [] [] h = decoded_nothing
decoded-pieces [] (v ∷ vs) h = absurd h
decoded-pieces (p ∷ ps) [] h = absurd h
decoded-pieces (p ∷ ps) (v ∷ vs) h = decoded_piece p v (flat_map piece_text ps) h.0 ∙ ap (onto v) (decoded-pieces ps vs h.1)

pub decoded-IsWritten : (written value : List ℕ) → IsWritten value written → decoded written ≡ Some value
decoded-IsWritten written value h = ap decoded h.2 ∙ decoded-pieces h.0 value h.1

-- ---- what is read is written so

from_onto : (b : ℕ) (o : Option (List ℕ)) (value : List ℕ) → onto b o ≡ Some value → (vs : List ℕ) × (o ≡ Some vs) × (b ∷ vs ≡ value)
from_onto b None value h = absurd cc
from_onto b (Some vs) value h = (vs, refl, cc)

-- one piece more in front
one_piece : (p : Piece) (v : ℕ) (vs rest value : List ℕ) → StandsFor p v → IsWritten vs rest → v ∷ vs ≡ value → IsWritten value (piece_text p ++ rest)
one_piece p v vs rest value h w e =
    let longer : IsWritten (v ∷ vs) (piece_text p ++ rest) = (p ∷ w.0, (h, w.1), ap (λ xs. piece_text p ++ xs) w.2) in
    subst (λ xs. IsWritten xs (piece_text p ++ rest)) e longer

written_by : (b : ℕ) (bs value : List ℕ) (t : Bool) → (b == backslash) ≡ t → cond t (after_backslash bs) (onto b (decoded bs)) ≡ Some value → ((vs : List ℕ) → decoded bs ≡ Some vs → IsWritten vs bs) → ((vs : List ℕ) → after_backslash bs ≡ Some vs → IsWritten vs (backslash ∷ bs)) → IsWritten value (b ∷ bs)
written_by b bs value true e h plain escape =
    let same : backslash ≡ b = grind (arith, nat_tests) in
    subst (λ x. IsWritten value (x ∷ bs)) same (escape value h)
written_by b bs value false e h plain escape =
    let rest = from_onto b (decoded bs) value h in
    let other : b ≢ backslash = grind (arith, nat_tests, e) in
    one_piece (itself b) b rest.0 bs value (other, refl) (plain rest.0 rest.1) rest.2

letter_by : (c : ℕ) (cs value : List ℕ) (o : Option ℕ) → letter_value c ≡ o → option_and_then (λ v. onto v (decoded cs)) o ≡ Some value → ((vs : List ℕ) → decoded cs ≡ Some vs → IsWritten vs cs) → IsWritten value (backslash ∷ c ∷ cs)
letter_by c cs value None e h plain = absurd cc
letter_by c cs value (Some v) e h plain =
    let rest = from_onto v (decoded cs) value h in
    one_piece (letter c) v rest.0 cs value e (plain rest.0 rest.1) rest.2

escape_by : (c : ℕ) (cs value : List ℕ) (t : Bool) → (c == letter_x) ≡ t → cond t (after_x cs) (option_and_then (λ v. onto v (decoded cs)) (letter_value c)) ≡ Some value → ((vs : List ℕ) → decoded cs ≡ Some vs → IsWritten vs cs) → ((vs : List ℕ) → after_x cs ≡ Some vs → IsWritten vs (backslash ∷ letter_x ∷ cs)) → IsWritten value (backslash ∷ c ∷ cs)
escape_by c cs value true e h plain digits_follow =
    let same : letter_x ≡ c = grind (arith, nat_tests) in
    subst (λ x. IsWritten value (backslash ∷ x ∷ cs)) same (digits_follow value h)
escape_by c cs value false e h plain digits_follow = letter_by c cs value (letter_value c) refl h plain

ascii_by : (n v : ℕ) (t s : Bool) → nat_lt 0 n ≡ t → nat_lt n 128 ≡ s → cond (t && s) (Some n) None ≡ Some v → (v ≡ n) × (0 < n) × (n < 128)
ascii_by n v true true e f h = (cc, grind (arith, nat_tests), grind (arith, nat_tests))
ascii_by n v true false e f h = absurd cc
ascii_by n v false s e f h = absurd cc

hex_by : (high low v : ℕ) (t s : Bool) → nat_lt (digit_value high) 16 ≡ t → nat_lt (digit_value low) 16 ≡ s → cond (t && s) (in_ascii (digit_value high * 16 + digit_value low)) None ≡ Some v → IsHex high low v
hex_by high low v true true e f h =
    let n = ascii_by (digit_value high * 16 + digit_value low) v (nat_lt 0 (digit_value high * 16 + digit_value low)) (nat_lt (digit_value high * 16 + digit_value low) 128) refl refl h in
    record {
      first_digit = grind (arith, nat_tests);
      second_digit = grind (arith, nat_tests);
      sum = n.0;
      positive = omega (arith, n.0, n.1);
      ascii = omega (arith, n.0, n.2);
    }
hex_by high low v true false e f h = absurd cc
hex_by high low v false s e f h = absurd cc

IsHex-hex_value : (high low v : ℕ) → hex_value high low ≡ Some v → IsHex high low v
unfolding hex_value
IsHex-hex_value high low v h = hex_by high low v (nat_lt (digit_value high) 16) (nat_lt (digit_value low) 16) refl refl h

digits_by : (high low : ℕ) (bs value : List ℕ) (o : Option ℕ) → hex_value high low ≡ o → option_and_then (λ v. onto v (decoded bs)) o ≡ Some value → ((vs : List ℕ) → decoded bs ≡ Some vs → IsWritten vs bs) → IsWritten value (backslash ∷ letter_x ∷ high ∷ low ∷ bs)
digits_by high low bs value None e h plain = absurd cc
digits_by high low bs value (Some v) e h plain =
    let rest = from_onto v (decoded bs) value h in
    one_piece (digits high low) v rest.0 bs value (IsHex-hex_value high low v e) (plain rest.0 rest.1) rest.2

mutual
  unfolding decoded

  pub IsWritten-decoded : (written value : List ℕ) → decoded written ≡ Some value → IsWritten value written
  IsWritten-decoded [] value h = let same : [] ≡ value = cc in subst (λ xs. IsWritten xs []) same ([], tt, refl)
  IsWritten-decoded (b ∷ bs) value h = written_by b bs value (b == backslash) refl h (IsWritten-decoded bs) (written-after_backslash bs)

  written-after_backslash : (bs value : List ℕ) → after_backslash bs ≡ Some value → IsWritten value (backslash ∷ bs)
  written-after_backslash [] value h = absurd cc
  written-after_backslash (c ∷ cs) value h = escape_by c cs value (c == letter_x) refl h (IsWritten-decoded cs) (written-after_x cs)

  written-after_x : (bs value : List ℕ) → after_x bs ≡ Some value → IsWritten value (backslash ∷ letter_x ∷ bs)
  written-after_x [] value h = absurd cc
  written-after_x (high ∷ bs) value h = written-after_digit high bs value h

  written-after_digit : (high : ℕ) (bs value : List ℕ) → after_digit high bs ≡ Some value → IsWritten value (backslash ∷ letter_x ∷ high ∷ bs)
  written-after_digit high [] value h = absurd cc
  written-after_digit high (low ∷ bs) value h = digits_by high low bs value (hex_value high low) refl h (IsWritten-decoded bs)
