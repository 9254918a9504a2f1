-- The end of a pattern, against the grammar.
use Rattle.std.proofs.Common.{◌≡◌, ◌≢◌, ◌∙◌, ◌==◌, ◌||◌, inl, inr, ℕ, ◌+◌, Bool, true, false, List, [], ◌∷◌, ◌++◌, length, Option, Some, None, refl, ap, sym, arith, append_assoc, length-append}
use Rattle.std.proofs.lemmas.Bool.Decides.{nat_tests}
use Rattle.std.specs.List.{AllByRecursion, flat_map}
use Rattle.tags.specs.Bytes.{slash, question_mark, backslash}
use Rattle.tags.specs.Steps.Cutting.{closing, further, is_delimiter, pattern_len}
use Rattle.tags.specs.Grammar.{PatternPart, plain, escaped, part_text, IsPatternPart, IsDelimiter, Pattern, pattern_text, IsPattern}
use Rattle.tags.proofs.AddressLemmas.{closing-escaped, closing-here, closing-later}

other_test : (b d : ℕ) → b ≢ d → (b == d) ≡ false
other_test b d h = grind (arith, nat_tests, h)

same_test : (b : ℕ) → (b == b) ≡ true
same_test b = grind (arith, nat_tests)

no_backslash : (d : ℕ) → IsDelimiter d → backslash ≢ d
no_backslash d (inl e) h = omega arith
no_backslash d (inr e) h = omega arith

-- a pattern of the grammar is read to its end
pub closing-parts : (d : ℕ) (parts : List PatternPart) (rest : List ℕ) → IsDelimiter d → AllByRecursion (IsPatternPart d) parts → closing d false (flat_map part_text parts ++ d ∷ rest) ≡ Some (length (flat_map part_text parts))
closing-parts d [] rest del h = closing-here d d rest (same_test d)
closing-parts d (plain b ∷ parts) rest del h =
    let first : (b == d) ≡ false = other_test b d h.0.0 in
    let second : (b == backslash) ≡ false = other_test b backslash h.0.1 in
    closing-later d b (flat_map part_text parts ++ d ∷ rest) first
    ∙ ap (λ e. further 1 (closing d e (flat_map part_text parts ++ d ∷ rest))) second
    ∙ ap (further 1) (closing-parts d parts rest del h.1)
    ∙ ap Some (omega arith)
closing-parts d (escaped b ∷ parts) rest del h =
    let first : (backslash == d) ≡ false = other_test backslash d (no_backslash d del) in
    closing-later d backslash (b ∷ (flat_map part_text parts ++ d ∷ rest)) first
    ∙ ap (further 1) (closing-escaped d b (flat_map part_text parts ++ d ∷ rest) ∙ ap (further 1) (closing-parts d parts rest del h.1))
    ∙ ap Some (omega arith)

-- what was read is a pattern of the grammar
pub record Reads (d : ℕ) (bs : List ℕ) (n : ℕ) : Type 0 where
  pub parts : List PatternPart
  pub rest : List ℕ
  pub each : AllByRecursion (IsPatternPart d) parts
  pub text : bs ≡ flat_map part_text parts ++ d ∷ rest
  pub len : length (flat_map part_text parts) ≡ n

pub from_further : (k n : ℕ) (o : Option ℕ) → further k o ≡ Some n → (m : ℕ) × (o ≡ Some m) × (n ≡ k + m)
from_further k n None h = absurd cc
from_further k n (Some m) h = (m, refl, cc)

reads_here : (d b n : ℕ) (bs : List ℕ) → (b == d) ≡ true → closing d false (b ∷ bs) ≡ Some n → Reads d (b ∷ bs) n
reads_here d b n bs e h =
    let same : b ≡ d = grind (arith, nat_tests) in
    let zero_is : Some 0 ≡ Some n = sym (closing-here d b bs e) ∙ h in
    record { parts = []; rest = bs; each = tt; text = ap (λ x. x ∷ bs) same; len = cc }

reads_plain : (d b n : ℕ) (bs : List ℕ) → (b == d) ≡ false → (b == backslash) ≡ false → closing d false (b ∷ bs) ≡ Some n → ((m : ℕ) → closing d false bs ≡ Some m → Reads d bs m) → Reads d (b ∷ bs) n
reads_plain d b n bs e f h ih =
    let later : further 1 (closing d (b == backslash) bs) ≡ Some n = sym (closing-later d b bs e) ∙ h in
    let plain_later : further 1 (closing d false bs) ≡ Some n = rw f at later in
    let m = from_further 1 n (closing d false bs) plain_later in
    let r = ih m.0 m.1 in
    let not_d : b ≢ d = grind (arith, nat_tests, e) in
    let not_backslash : b ≢ backslash = grind (arith, nat_tests, f) in
    record {
      parts = plain b ∷ r.parts;
      rest = r.rest;
      each = ((not_d, not_backslash), r.each);
      text = ap (λ xs. b ∷ xs) r.text;
      len = omega (arith, r.len, m.2);
    }

escaped_text : (b e : ℕ) (bs text : List ℕ) → b ≡ backslash → bs ≡ text → b ∷ e ∷ bs ≡ backslash ∷ e ∷ text
escaped_text b e bs text same h = rw (same, h) refl

reads_escaped : (d b e n : ℕ) (bs : List ℕ) → (b == d) ≡ false → (b == backslash) ≡ true → closing d false (b ∷ e ∷ bs) ≡ Some n → ((m : ℕ) → closing d false bs ≡ Some m → Reads d bs m) → Reads d (b ∷ e ∷ bs) n
reads_escaped d b e n bs f g h ih =
    let same : b ≡ backslash = grind (arith, nat_tests) in
    let later : further 1 (closing d (b == backslash) (e ∷ bs)) ≡ Some n = sym (closing-later d b (e ∷ bs) f) ∙ h in
    let escaped_later : further 1 (closing d true (e ∷ bs)) ≡ Some n = rw g at later in
    let one = from_further 1 n (closing d true (e ∷ bs)) escaped_later in
    let two = from_further 1 one.0 (closing d false bs) (sym (closing-escaped d e bs) ∙ one.1) in
    let r = ih two.0 two.1 in
    record {
      parts = escaped e ∷ r.parts;
      rest = r.rest;
      each = (tt, r.each);
      text = escaped_text b e bs (flat_map part_text r.parts ++ d ∷ r.rest) same r.text;
      len = omega (arith, r.len, two.2, one.2);
    }

reads_one : (d b n : ℕ) (t s : Bool) → (b == d) ≡ t → (b == backslash) ≡ s → closing d false (b ∷ []) ≡ Some n → Reads d (b ∷ []) n
unfolding closing
reads_one d b n true s e f h = reads_here d b n [] e h
reads_one d b n false s e f h = let no_end : ◌≡◌ {A = Option ℕ} None (Some n) = sym (closing-later d b [] e) ∙ h in absurd cc

reads_two : (d b e n : ℕ) (bs : List ℕ) (t s : Bool) → (b == d) ≡ t → (b == backslash) ≡ s → closing d false (b ∷ e ∷ bs) ≡ Some n → ((m : ℕ) → closing d false (e ∷ bs) ≡ Some m → Reads d (e ∷ bs) m) → ((m : ℕ) → closing d false bs ≡ Some m → Reads d bs m) → Reads d (b ∷ e ∷ bs) n
reads_two d b e n bs true s f g h ih ih2 = reads_here d b n (e ∷ bs) f h
reads_two d b e n bs false true f g h ih ih2 = reads_escaped d b e n bs f g h ih2
reads_two d b e n bs false false f g h ih ih2 = reads_plain d b n (e ∷ bs) f g h ih

pub closing-reads : (d : ℕ) (bs : List ℕ) (n : ℕ) → closing d false bs ≡ Some n → Reads d bs n
unfolding closing
closing-reads d [] n h = absurd cc
closing-reads d (b ∷ []) n h = reads_one d b n (b == d) (b == backslash) refl refl h
closing-reads d (b ∷ e ∷ bs) n h = reads_two d b e n bs (b == d) (b == backslash) refl refl h (closing-reads d (e ∷ bs)) (closing-reads d bs)

delimiter_by : (d : ℕ) (t s : Bool) → (d == slash) ≡ t → (d == question_mark) ≡ s → (t || s) ≡ true → IsDelimiter d
delimiter_by d true s e f h = inl (grind (arith, nat_tests))
delimiter_by d false true e f h = inr (grind (arith, nat_tests))
delimiter_by d false false e f h = absurd cc

pub IsDelimiter-from_test : (d : ℕ) → is_delimiter d ≡ true → IsDelimiter d
IsDelimiter-from_test d h = delimiter_by d (d == slash) (d == question_mark) refl refl h

pub is_delimiter-from_IsDelimiter : (d : ℕ) → IsDelimiter d → is_delimiter d ≡ true
is_delimiter-from_IsDelimiter d (inl e) = rw e refl
is_delimiter-from_IsDelimiter d (inr e) = rw e refl

pub length-pattern_text : (p : Pattern) → length (pattern_text p) ≡ 2 + length (flat_map part_text p.parts)
length-pattern_text p = omega (arith, length-append (flat_map part_text p.parts) (p.delimiter ∷ []))

-- a pattern of the grammar, whatever follows it
pub pattern_len-pattern : (p : Pattern) (rest : List ℕ) → IsPattern p → pattern_len (pattern_text p ++ rest) ≡ Some (length (pattern_text p))
unfolding pattern_len
pattern_len-pattern p rest h =
    let regrouped : (flat_map part_text p.parts ++ p.delimiter ∷ []) ++ rest ≡ flat_map part_text p.parts ++ p.delimiter ∷ rest = append_assoc (flat_map part_text p.parts) (p.delimiter ∷ []) rest in
    let place : closing p.delimiter false ((flat_map part_text p.parts ++ p.delimiter ∷ []) ++ rest) ≡ Some (length (flat_map part_text p.parts)) = rw regrouped (closing-parts p.delimiter p.parts rest h.0 h.1) in
    rw (is_delimiter-from_IsDelimiter p.delimiter h.0, place) (ap Some (sym (length-pattern_text p)))

-- what was read at the front is a pattern of the grammar
pub record ReadsPattern (bs : List ℕ) (n : ℕ) : Type 0 where
  pub pattern : Pattern
  pub rest : List ℕ
  pub valid : IsPattern pattern
  pub text : bs ≡ pattern_text pattern ++ rest
  pub len : length (pattern_text pattern) ≡ n

reads_pattern_by : (d n : ℕ) (bs : List ℕ) (t : Bool) → is_delimiter d ≡ t → pattern_len (d ∷ bs) ≡ Some n → ReadsPattern (d ∷ bs) n
unfolding pattern_len
reads_pattern_by d n bs true e h =
    let found : further 2 (closing d false bs) ≡ Some n = rw e at h in
    let m = from_further 2 n (closing d false bs) found in
    let r = closing-reads d bs m.0 m.1 in
    let p : Pattern = record { delimiter = d; parts = r.parts } in
    record {
      pattern = record { delimiter = d; parts = r.parts };
      rest = r.rest;
      valid = (IsDelimiter-from_test d e, r.each);
      text = ap (λ xs. d ∷ xs) (r.text ∙ sym (append_assoc (flat_map part_text r.parts) (d ∷ []) r.rest));
      len = omega (arith, length-pattern_text (record { delimiter = d; parts = r.parts }), r.len, m.2);
    }
reads_pattern_by d n bs false e h = let none : ◌≡◌ {A = Option ℕ} None (Some n) = rw e at h in absurd cc

pub pattern_len-reads : (bs : List ℕ) (n : ℕ) → pattern_len bs ≡ Some n → ReadsPattern bs n
unfolding pattern_len
pattern_len-reads [] n h = absurd cc
pattern_len-reads (d ∷ bs) n h = reads_pattern_by d n bs (is_delimiter d) refl h
