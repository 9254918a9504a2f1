-- The end of a number and of an address, against the grammar.
use Rattle.std.proofs.Common.{◌≡◌, ◌≢◌, ◌∙◌, ◌==◌, ◌&&◌, ℕ, ◌+◌, ◌≤◌, suc, Bool, true, false, not, nat_le, List, [], ◌∷◌, ◌++◌, length, take, drop, Some, None, IsTrue, cond, refl, ap, sym, arith, append_assoc, length-append}
use Rattle.std.proofs.Math.Numerals.{one-add}
use Rattle.std.proofs.lemmas.Bool.Decides.{nat_tests}
use Rattle.std.proofs.lemmas.List.{take_at, drop_at, take-append-drop, length-take-le}
use Rattle.std.specs.List.{AllByRecursion, list_all}
use Rattle.std.specs.Char.{is_ascii_digit}
use Rattle.std.specs.Str.Parse.{digits_value}
use Rattle.tags.specs.Bytes.{digit_zero, semicolon, double_quote}
use Rattle.tags.specs.Steps.Cutting.{is_number, is_in_range_number, greatest_number, is_delimiter, pattern_len, digits_len, after_number_len, numbered_len, address_len, further}
use Rattle.tags.specs.Grammar.{Pattern, pattern_text, IsPattern, Address, number, pattern, combined, address_text, IsAddress, IsNumber}
use Rattle.tags.proofs.AddressLemmas.{digits_len-le-length}
use Rattle.tags.proofs.PatternLemmas.{pattern_len-pattern, ReadsPattern, pattern_len-reads, is_delimiter-from_IsDelimiter, from_further}

-- ---- digits

abbrev pub AreDigits : List ℕ → Type 0
AreDigits ds = AllByRecursion (λ b. IsTrue (is_ascii_digit b)) ds

-- what follows a number begins with no digit
abbrev pub EndsDigits : List ℕ → Type 0
EndsDigits [] = Unit {0}
EndsDigits (b ∷ bs) = is_ascii_digit b ≡ false

digit_first : (b : ℕ) (bs : List ℕ) → is_ascii_digit b ≡ true → digits_len (b ∷ bs) ≡ suc (digits_len bs)
digit_first b bs e = rw e (one-add (digits_len bs))

other_first : (b : ℕ) (bs : List ℕ) → is_ascii_digit b ≡ false → digits_len (b ∷ bs) ≡ 0
other_first b bs e = rw e refl

pub digits_len-digits : (ds rest : List ℕ) → AreDigits ds → EndsDigits rest → digits_len (ds ++ rest) ≡ length ds
digits_len-digits [] [] h g = refl
digits_len-digits [] (b ∷ bs) h g = other_first b bs g
digits_len-digits (d ∷ ds) rest h g = digit_first d (ds ++ rest) h.0 ∙ ap suc (digits_len-digits ds rest h.1 g)

list_all-digits : (ds : List ℕ) → AreDigits ds → list_all is_ascii_digit ds ≡ true
list_all-digits [] h = refl
list_all-digits (d ∷ ds) h = rw (h.0) (list_all-digits ds h.1)

and_true : (a b : Bool) → (a && b) ≡ true → (a ≡ true) × (b ≡ true)
and_true true b e = (refl, e)
and_true false b e = absurd cc

AreDigits-from_list_all : (ds : List ℕ) → list_all is_ascii_digit ds ≡ true → AreDigits ds
AreDigits-from_list_all [] e = tt
AreDigits-from_list_all (d ∷ ds) e =
    let both = and_true (is_ascii_digit d) (list_all is_ascii_digit ds) e in
    (both.0, AreDigits-from_list_all ds both.1)

no_digit_zero : (d : ℕ) → d ≢ digit_zero → (d == digit_zero) ≡ false
no_digit_zero d h = grind (arith, nat_tests, h)

in_range : (ds : List ℕ) → digits_value 10 ds ≤ 2147483647 → nat_le (digits_value 10 ds) greatest_number ≡ true
in_range ds h = grind (arith, nat_tests)

pub is_number-from_IsNumber : (ds : List ℕ) → IsNumber ds → is_number ds ≡ true
unfolding is_number
is_number-from_IsNumber [] h = absurd (omega (arith, h.not_empty))
is_number-from_IsNumber (d ∷ ds) h = rw (no_digit_zero d h.no_leading_zero, list_all-digits (d ∷ ds) h.each) (in_range (d ∷ ds) h.in_range)

is_number_parts : (d : ℕ) (ds : List ℕ) → (not (d == digit_zero) && is_in_range_number (d ∷ ds)) ≡ true → IsNumber (d ∷ ds)
is_number_parts d ds e =
    let first = and_true (not (d == digit_zero)) (is_in_range_number (d ∷ ds)) e in
    let second = and_true (list_all is_ascii_digit (d ∷ ds)) (nat_le (digits_value 10 (d ∷ ds)) greatest_number) first.1 in
    let not_zero : d ≢ digit_zero = grind (arith, nat_tests, first.0) in
    let small : digits_value 10 (d ∷ ds) ≤ 2147483647 = grind (arith, nat_tests, second.1) in
    record { not_empty = omega arith; each = AreDigits-from_list_all (d ∷ ds) second.0; no_leading_zero = not_zero; in_range = small }

pub IsNumber-from_is_number : (ds : List ℕ) → is_number ds ≡ true → IsNumber ds
unfolding is_number
IsNumber-from_is_number [] e = absurd cc
IsNumber-from_is_number (d ∷ ds) e = is_number_parts d ds e

-- ---- addresses

-- what follows an address: the end, or `;"`
pub data Follows : List ℕ → Type 0 where
  nothing : Follows []
  extension : (bs : List ℕ) → Follows (semicolon ∷ double_quote ∷ bs)

EndsDigits-Follows : (rest : List ℕ) → Follows rest → EndsDigits rest
EndsDigits-Follows rest nothing = tt
EndsDigits-Follows rest (extension bs) = refl

after_number-Follows : (rest : List ℕ) → Follows rest → after_number_len rest ≡ Some 0
unfolding after_number_len
after_number-Follows rest nothing = refl
after_number-Follows rest (extension []) = refl
after_number-Follows rest (extension (b ∷ bs)) = refl

delimiter_no_digit : (d : ℕ) → is_ascii_digit d ≡ true → is_delimiter d ≡ false
delimiter_no_digit d e = grind (arith, nat_tests)

numbered_by : (ds rest : List ℕ) (n : ℕ) → IsNumber ds → EndsDigits rest → after_number_len rest ≡ Some n → numbered_len (digits_len (ds ++ rest)) (ds ++ rest) ≡ Some (length ds + n)
numbered_by ds rest n h g e =
    rw (digits_len-digits ds rest h.each g, take_at ds rest (length ds) refl, drop_at ds rest (length ds) refl, is_number-from_IsNumber ds h, e) refl

address_len-numbered : (ds rest : List ℕ) (n : ℕ) → IsNumber ds → EndsDigits rest → after_number_len rest ≡ Some n → address_len (ds ++ rest) ≡ Some (length ds + n)
unfolding address_len
address_len-numbered [] rest n h g e = absurd (omega (arith, h.not_empty))
address_len-numbered (d ∷ ds) rest n h g e = rw (delimiter_no_digit d h.each.0) (numbered_by (d ∷ ds) rest n h g e)

address_len-pattern : (p : Pattern) (rest : List ℕ) → IsPattern p → address_len (pattern_text p ++ rest) ≡ Some (length (pattern_text p))
unfolding address_len
address_len-pattern p rest h = rw (is_delimiter-from_IsDelimiter p.delimiter h.0) (pattern_len-pattern p rest h)

after_number-pattern : (p : Pattern) (rest : List ℕ) → IsPattern p → after_number_len (semicolon ∷ (pattern_text p ++ rest)) ≡ Some (1 + length (pattern_text p))
unfolding after_number_len
after_number-pattern p rest h = rw (is_delimiter-from_IsDelimiter p.delimiter h.0, pattern_len-pattern p rest h) refl

-- an address of the grammar is read to its end
pub address_len-address : (a : Address) (rest : List ℕ) → IsAddress a → Follows rest → address_len (address_text a ++ rest) ≡ Some (length (address_text a))
address_len-address (number ds) rest h follows = address_len-numbered ds rest 0 h (EndsDigits-Follows rest follows) (after_number-Follows rest follows) ∙ ap Some (omega arith)
address_len-address (pattern p) rest h follows = address_len-pattern p rest h
address_len-address (combined ds p) rest h follows =
    ap address_len (append_assoc ds (semicolon ∷ pattern_text p) rest)
    ∙ address_len-numbered ds (semicolon ∷ (pattern_text p ++ rest)) (1 + length (pattern_text p)) h.0 refl (after_number-pattern p rest h.1)
    ∙ ap Some (omega (arith, length-append ds (semicolon ∷ pattern_text p)))

-- what was read is an address of the grammar
pub record ReadsAddress (bs : List ℕ) (n : ℕ) : Type 0 where
  pub address : Address
  pub rest : List ℕ
  pub valid : IsAddress address
  pub text : bs ≡ address_text address ++ rest
  pub len : length (address_text address) ≡ n

reads_pattern : (bs : List ℕ) (n : ℕ) → ReadsPattern bs n → ReadsAddress bs n
reads_pattern bs n r = record { address = pattern r.pattern; rest = r.rest; valid = r.valid; text = r.text; len = r.len }

-- what was read after a number
pub data ReadsAfter (rest : List ℕ) (k : ℕ) : Type 0 where
  alone : k ≡ 0 → ReadsAfter rest k
  with_pattern : (bs : List ℕ) (m : ℕ) → rest ≡ semicolon ∷ bs → k ≡ 1 + m → ReadsPattern bs m → ReadsAfter rest k

after_by : (b d k : ℕ) (bs : List ℕ) (t : Bool) → (b == semicolon && is_delimiter d) ≡ t → after_number_len (b ∷ d ∷ bs) ≡ Some k → ReadsAfter (b ∷ d ∷ bs) k
unfolding after_number_len
after_by b d k bs true e h =
    let both = and_true (b == semicolon) (is_delimiter d) e in
    let same : b ≡ semicolon = grind (arith, nat_tests, both.0) in
    let found : further 1 (pattern_len (d ∷ bs)) ≡ Some k = rw e at h in
    let m = from_further 1 k (pattern_len (d ∷ bs)) found in
    with_pattern (d ∷ bs) m.0 (ap (λ x. x ∷ d ∷ bs) same) m.2 (pattern_len-reads (d ∷ bs) m.0 m.1)
after_by b d k bs false e h = let zero_is : Some 0 ≡ Some k = rw e at h in alone cc

after_number-reads : (rest : List ℕ) (k : ℕ) → after_number_len rest ≡ Some k → ReadsAfter rest k
unfolding after_number_len
after_number-reads [] k h = alone cc
after_number-reads (b ∷ []) k h = alone cc
after_number-reads (b ∷ d ∷ bs) k h = after_by b d k bs (b == semicolon && is_delimiter d) refl h

reads_numbered : (bs : List ℕ) (m k : ℕ) → m ≤ length bs → IsNumber (take m bs) → ReadsAfter (drop m bs) k → ReadsAddress bs (m + k)
reads_numbered bs m k le h (alone e) =
    record {
      address = number (take m bs);
      rest = drop m bs;
      valid = h;
      text = sym (take-append-drop m bs);
      len = omega (arith, length-take-le m bs le);
    }
reads_numbered bs m k le h (with_pattern more j same e r) =
    let tail : drop m bs ≡ semicolon ∷ (pattern_text r.pattern ++ r.rest) = same ∙ ap (λ xs. semicolon ∷ xs) r.text in
    record {
      address = combined (take m bs) r.pattern;
      rest = r.rest;
      valid = (h, r.valid);
      text = sym (take-append-drop m bs) ∙ ap (λ xs. take m bs ++ xs) tail ∙ sym (append_assoc (take m bs) (semicolon ∷ pattern_text r.pattern) r.rest);
      len = omega (arith, length-take-le m bs le, length-append (take m bs) (semicolon ∷ pattern_text r.pattern), r.len);
    }

numbered_reads : (bs : List ℕ) (m n : ℕ) (t : Bool) → m ≤ length bs → is_number (take m bs) ≡ t → cond t (further m (after_number_len (drop m bs))) None ≡ Some n → ReadsAddress bs n
numbered_reads bs m n true le e h =
    let k = from_further m n (after_number_len (drop m bs)) h in
    rw k.2 (reads_numbered bs m k.0 le (IsNumber-from_is_number (take m bs) e) (after_number-reads (drop m bs) k.0 k.1))
numbered_reads bs m n false le e h = absurd cc

address_by : (b n : ℕ) (bs : List ℕ) (t : Bool) → is_delimiter b ≡ t → cond t (pattern_len (b ∷ bs)) (numbered_len (digits_len (b ∷ bs)) (b ∷ bs)) ≡ Some n → ReadsAddress (b ∷ bs) n
address_by b n bs true e h = reads_pattern (b ∷ bs) n (pattern_len-reads (b ∷ bs) n h)
address_by b n bs false e h = numbered_reads (b ∷ bs) (digits_len (b ∷ bs)) n (is_number (take (digits_len (b ∷ bs)) (b ∷ bs))) (digits_len-le-length (b ∷ bs)) refl h

pub address_len-reads : (bs : List ℕ) (n : ℕ) → address_len bs ≡ Some n → ReadsAddress bs n
unfolding address_len
address_len-reads [] n h = absurd cc
address_len-reads (b ∷ bs) n h = address_by b n bs (is_delimiter b) refl h
