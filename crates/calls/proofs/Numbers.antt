-- Numbers that clap reads of an option's text.
use Rattle.std.proofs.Common.{◌≡◌, ℕ, ◌<◌, ◌^◌, true, List, [], ◌∷◌, Option, Some, None, Ok, Err, Result, length, refl, sym, ◌∙◌, ap, arith}
use Rattle.std.specs.Char.{is_digit, digit_value}
use Rattle.std.specs.List.{list_all}
use Rattle.std.specs.Str.Parse.{AllDigits, IsNumeral, ParsesUnsigned, digits_value, without_leading_plus}
use Rattle.std.proofs.lemmas.Bool.{and_parts, false_from_ne_true, leb-true, lt-ltb, ltb-true}
use Rattle.clap.specs.Words.{ReadsOne, Text}
use Rattle.calls.specs.Call.{is_number_up_to, number_named, number_up_to}
use Rattle.calls.specs.Steps.Call.{up_to}

digits_to : (text : Text) → list_all (λ c. is_digit c 10) text ≡ true → AllDigits 10 text
digits_to [] h = tt
digits_to (c ∷ text) h = let p = and_parts (is_digit c 10) (list_all (λ c. is_digit c 10) text) h in (ltb-true (digit_value c) 10 p.0, digits_to text p.1)

digits_from : (text : Text) → AllDigits 10 text → list_all (λ c. is_digit c 10) text ≡ true
digits_from [] h = refl
digits_from (c ∷ text) h = rw (lt-ltb (digit_value c) 10 h.0, digits_from text h.1) refl

-- where the digits are a number, its bounds alone are asked
numeral : (most : ℕ) (digits : Text) → IsNumeral 10 digits → number_up_to most digits ≡ up_to most (Some (digits_value 10 digits))
numeral most digits h = rw (lt-ltb 0 (length digits) h.0, digits_from digits h.1) refl

-- where they aren't one that is small enough, there is none
no_numeral : (most k : ℕ) (digits : Text) → most < k → (IsNumeral 10 digits × (digits_value 10 digits < k) → ⊥) → number_up_to most digits ≡ None
no_numeral most k digits fits none = rw (false_from_ne_true (is_number_up_to most digits) no) refl
  where
    no : is_number_up_to most digits ≡ true → ⊥
    no e =
        let a = and_parts _ _ e in
        let b = and_parts _ _ a.1 in
        let d = and_parts _ _ b.1 in
        let small = leb-true (digits_value 10 digits) most d.1 in
        none ((ltb-true 0 (length digits) a.0, digits_to digits b.0), omega (arith, small, fits))

read : {E : Type 0} (G : List ℕ → Result ℕ E → Type 0) (k most : ℕ) (text : Text) (r : Option ℕ)
    → ((u : List ℕ) (x : Result ℕ E) → G u x → ParsesUnsigned k 10 u x) → most < 2 ^ k → ReadsOne G text r
    → number_up_to most (without_leading_plus text) ≡ up_to most r
read G k most text (Some n) only fits reads =
    let parsed = only text (Ok n) reads in
    numeral most (without_leading_plus text) parsed.0.0 ∙ ap (λ (m : ℕ). up_to most (Some m)) (sym parsed.1)
read G k most text None only fits reads = no_numeral most (2 ^ k) (without_leading_plus text) fits (only text (Err reads.0) reads.1)

-- what clap's getter reads of an option's text, within the bounds, is the number that the text
-- names
pub named : {E : Type 0} (G : List ℕ → Result ℕ E → Type 0) (k most : ℕ) (o : Option Text) (r : Option ℕ)
    → ((u : List ℕ) (x : Result ℕ E) → G u x → ParsesUnsigned k 10 u x) → most < 2 ^ k
    → (o ≡ None → r ≡ None) → ((text : Text) → o ≡ Some text → ReadsOne G text r)
    → up_to most r ≡ number_named most o
named G k most None r only fits none some = ap (up_to most) (none refl)
named G k most (Some text) r only fits none some = sym (read G k most text r only fits (some text refl))
