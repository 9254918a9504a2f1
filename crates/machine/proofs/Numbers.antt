-- Texts that spell numbers.
use Rattle.std.proofs.Common.{◌≡◌, ◌≢◌, ℕ, ◌<◌, ◌≤◌, ◌⊎◌, inl, inr, Bool, true, false, List, [], ◌∷◌, Some, None, length, codes, refl, ap, arith}
use Rattle.std.specs.Prelude.{◌==◌, ◌||◌, not, slice_index}
use Rattle.std.specs.Char.{is_digit, digit_value}
use Rattle.std.specs.List.{list_all}
use Rattle.std.specs.Str.{bytes_eq}
use Rattle.std.specs.Str.Parse.{AllDigits, IsNumeral, digits_value}
use Rattle.std.proofs.lemmas.Bool.{and_parts, and_from, or_cases, not-true, ltb-true, lt-ltb, eqb-false, ne_eqb, false_from_ne_true}
use Rattle.std.proofs.lemmas.Slice.Eq.{bytes_eq-Decides}
use Rattle.std.proofs.lemmas.Str.Parse.{digit_from_value}
use Rattle.positions.specs.Position.{number_limit}
use Rattle.machine.specs.Names.{is_number, number_in}

-- what is read of a text that spells a number
pub record IsNumberText (text : List ℕ) (n : ℕ) : Type 0 where
  pub digits : IsNumeral 10 text
  pub no_leading_zero : (text ≡ codes "0") ⊎ (slice_index text 0 ≢ 48)
  pub value : n ≡ digits_value 10 text
  pub within : n < number_limit

digits_to : (text : List ℕ) → list_all (λ c. is_digit c 10) text ≡ true → AllDigits 10 text
digits_to [] h = tt
digits_to (c ∷ text) h = let p = and_parts (is_digit c 10) (list_all (λ c. is_digit c 10) text) h in (ltb-true (digit_value c) 10 p.0, digits_to text p.1)

digits_from : (text : List ℕ) → AllDigits 10 text → list_all (λ c. is_digit c 10) text ≡ true
digits_from [] h = refl
digits_from (c ∷ text) h = rw (lt-ltb (digit_value c) 10 h.0, digits_from text h.1) refl

zero_to : (text : List ℕ) → (bytes_eq text (codes "0") || not (slice_index text 0 == 48)) ≡ true → (text ≡ codes "0") ⊎ (slice_index text 0 ≢ 48)
zero_to text h = elim (or_cases (bytes_eq text (codes "0")) (not (slice_index text 0 == 48)) h) [
  | inl e ↦ inl ((bytes_eq-Decides text (codes "0")).0 e)
  | inr e ↦ inr (eqb-false (slice_index text 0) 48 (not-true (slice_index text 0 == 48) e))
]

or_right : (a b : Bool) → b ≡ true → (a || b) ≡ true
or_right true b e = refl
or_right false b e = e

zero_from : (text : List ℕ) → (text ≡ codes "0") ⊎ (slice_index text 0 ≢ 48) → (bytes_eq text (codes "0") || not (slice_index text 0 == 48)) ≡ true
zero_from text h = elim h [
  | inl e ↦ rw e refl
  | inr e ↦ or_right (bytes_eq text (codes "0")) (not (slice_index text 0 == 48)) (rw (ne_eqb (slice_index text 0) 48 e) refl)
]

number_to : (text : List ℕ) → is_number text ≡ true → IsNumberText text (digits_value 10 text)
unfolding is_number
number_to text h =
    let a = and_parts _ _ h in
    let b = and_parts _ _ a.1 in
    let d = and_parts _ _ b.1 in
    record {
      digits = (ltb-true 0 (length text) a.0, digits_to text b.0);
      no_leading_zero = zero_to text d.0;
      value = refl;
      within = ltb-true (digits_value 10 text) number_limit d.1;
    }

number_from : (text : List ℕ) (n : ℕ) → IsNumberText text n → is_number text ≡ true
unfolding is_number
number_from text n h =
    and_from _ _ (lt-ltb 0 (length text) h.digits.0)
    (and_from _ _ (digits_from text h.digits.1)
    (and_from _ _ (zero_from text h.no_leading_zero) (lt-ltb (digits_value 10 text) number_limit (rw (← h.value) h.within))))

pub spells : (text : List ℕ) (n : ℕ) → IsNumberText text n → Some n ≡ number_in text
spells text n h = rw (number_from text n h) (ap Some h.value)

pub spells_none : (text : List ℕ) → ((n : ℕ) → IsNumberText text n → ⊥) → None ≡ number_in text
spells_none text none = rw (false_from_ne_true (is_number text) (λ t. none (digits_value 10 text) (number_to text t))) refl

pub spells_zero : (text : List ℕ) → 1 ≤ length text → length text < 2 → slice_index text 0 ≡ 48 → Some 0 ≡ number_in text
unfolding is_number
spells_zero [] some few zero = absurd (omega (arith, some))
spells_zero (c ∷ []) some few zero = rw zero refl
spells_zero (c ∷ d ∷ text) some few zero = absurd (omega (arith, few))

first_digit : (text : List ℕ) (n : ℕ) → IsNumberText text n → (48 ≤ slice_index text 0) × (slice_index text 0 ≤ 57)
first_digit [] n h = let some = h.digits.0 in absurd (omega (arith, some))
first_digit (c ∷ text) n h = digit_from_value c h.digits.1.0

-- the first byte is before the digits, or a zero that another byte follows
pub spells_below : (text : List ℕ) → slice_index text 0 < 48 → None ≡ number_in text
spells_below text below = spells_none text (λ n h. let d = first_digit text n h in omega (arith, below))

pub spells_low : (text : List ℕ) → 2 ≤ length text → slice_index text 0 < 49 → None ≡ number_in text
spells_low text long low =
    spells_none text (λ n h. let d = first_digit text n h in elim h.no_leading_zero [
      | inl zero ↦ let few = ap length zero in omega (arith, few, long)
      | inr other ↦ other (omega (arith, low))
    ])

-- the first byte is after the digits
pub spells_above : (text : List ℕ) → 58 ≤ slice_index text 0 → None ≡ number_in text
spells_above text above = spells_none text (λ n h. let d = first_digit text n h in omega (arith, above))
