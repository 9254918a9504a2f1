-- A line of a tag cut at its Tabs and at the end of its address: tags(5), "Proposal".
use Rattle.std.specs.Prelude.{ℕ, ◌+◌, ◌==◌, ◌&&◌, ◌||◌, Bool, true, false, not, nat_le, List, [], ◌∷◌, take, drop, Option, Some, None, option_map, option_and_then, if◌then◌else◌}
use Rattle.std.specs.List.{list_all, position_or_len, slice_split}
use Rattle.std.specs.Char.{is_ascii_digit}
use Rattle.std.specs.Str.Parse.{digits_value}
use Rattle.tags.specs.Around.{around}
use Rattle.tags.specs.Fields.{is_empty}
use Rattle.tags.specs.Bytes.{tab, double_quote, slash, digit_zero, semicolon, question_mark, backslash}

-- ---- the name and the file

-- a name, a file, and what comes after its Tab
pub record Front : Type 0 where
  pub name : List ℕ
  pub file : List ℕ
  pub rest : List ℕ

abbrev pub front_by : List ℕ → List ℕ × List ℕ → Option Front
front_by name p =
    if is_empty name || is_empty p.0 then None
    else Some (record { name = name; file = p.0; rest = p.1 })

-- the name and the file, each before a Tab and not empty
unfoldable pub front_of : List ℕ → Option Front
front_of line = option_and_then (λ p. option_and_then (front_by p.0) (around tab p.1)) (around tab line)

-- ---- the address

-- the greatest line number
abbrev pub greatest_number : ℕ
greatest_number = 2147483647

-- digits that represent a number up to the greatest
abbrev pub is_in_range_number : List ℕ → Bool
is_in_range_number ds = list_all is_ascii_digit ds && nat_le (digits_value 10 ds) greatest_number

-- a line number from 1 on, without leading zero
unfoldable pub is_number : List ℕ → Bool
is_number [] = false
is_number (d ∷ ds) = not (d == digit_zero) && is_in_range_number (d ∷ ds)

abbrev pub is_delimiter : ℕ → Bool
is_delimiter b = b == slash || b == question_mark

-- one place further
abbrev pub further : ℕ → Option ℕ → Option ℕ
further k place = option_map (λ n. k + n) place

-- the place of the delimiter that ends a pattern: the first that no backslash escapes, where a
-- backslash escapes the byte after it; escaped says whether one comes before the first byte
unfoldable pub closing : ℕ → Bool → List ℕ → Option ℕ
closing d escaped [] = None
closing d true (b ∷ bs) = further 1 (closing d false bs)
closing d false (b ∷ bs) = if b == d then Some 0 else further 1 (closing d (b == backslash) bs)

-- how many bytes the pattern at the front takes, with both delimiters
unfoldable pub pattern_len : List ℕ → Option ℕ
pattern_len [] = None
pattern_len (d ∷ bs) = if is_delimiter d then further 2 (closing d false bs) else None

-- what comes after a number: nothing of the address, or `;` and a pattern
unfoldable pub after_number_len : List ℕ → Option ℕ
after_number_len [] = Some 0
after_number_len (b ∷ []) = Some 0
after_number_len (b ∷ d ∷ bs) = if b == semicolon && is_delimiter d then further 1 (pattern_len (d ∷ bs)) else Some 0

-- how many digits are at the front
abbrev pub digits_len : List ℕ → ℕ
digits_len bs = position_or_len (λ b. not (is_ascii_digit b)) bs

abbrev pub numbered_len : ℕ → List ℕ → Option ℕ
numbered_len n bs = if is_number (take n bs) then further n (after_number_len (drop n bs)) else None

-- how many bytes the address at the front takes
unfoldable pub address_len : List ℕ → Option ℕ
address_len [] = None
address_len (b ∷ bs) = if is_delimiter b then pattern_len (b ∷ bs) else numbered_len (digits_len (b ∷ bs)) (b ∷ bs)

-- ---- the fields

-- what comes after the address: the end, or `;"` and the end, or `;"`, a Tab and the fields
unfoldable pub fields_after : List ℕ → Option (Option (List ℕ))
fields_after [] = Some None
fields_after (a ∷ []) = None
fields_after (a ∷ b ∷ []) = if a == semicolon && b == double_quote then Some None else None
fields_after (a ∷ b ∷ c ∷ bs) = if a == semicolon && b == double_quote && c == tab then Some (Some bs) else None

-- an address, and the fields after it, still joined
pub record Tail : Type 0 where
  pub address : List ℕ
  pub fields : Option (List ℕ)

abbrev pub tail_at : List ℕ → ℕ → Option Tail
tail_at rest n = option_map (λ fields. record { address = take n rest; fields = fields }) (fields_after (drop n rest))

unfoldable pub tail_of : List ℕ → Option Tail
tail_of rest = option_and_then (tail_at rest) (address_len rest)

-- the fields apart
abbrev pub each_field : Option (List ℕ) → List (List ℕ)
each_field None = []
each_field (Some bs) = slice_split (λ b. b == tab) bs
