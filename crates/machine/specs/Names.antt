-- The forms of a project's name, of a key and of a number in a request.
use Rattle.std.specs.Prelude.{ℕ, Bool, ◌&&◌, ◌||◌, ◌==◌, not, nat_le, nat_lt, List, length, codes, slice_index, Option, Some, None, if◌then◌else◌}
use Rattle.std.specs.Char.{is_ascii_lowercase, is_ascii_uppercase, is_ascii_digit, is_digit}
use Rattle.std.specs.List.{list_all}
use Rattle.std.specs.Str.{bytes_eq}
use Rattle.std.specs.Str.Parse.{digits_value}
use Rattle.positions.specs.Position.{number_limit}

-- a-z 0-9 _ -
abbrev pub is_project_byte : ℕ → Bool
is_project_byte b = is_ascii_lowercase b || is_ascii_digit b || b == 95 || b == 45

-- A-Z a-z 0-9 _ -
abbrev pub is_key_byte : ℕ → Bool
is_key_byte b = is_ascii_uppercase b || is_project_byte b

-- the most characters of a project's name and of a key
abbrev pub longest_name : ℕ
longest_name = 64

-- 1 to 64 of these characters
abbrev pub is_name_of : (ℕ → Bool) → List ℕ → Bool
is_name_of is_byte text = not (length text == 0) && nat_le (length text) longest_name && list_all is_byte text

abbrev pub is_project_name : List ℕ → Bool
is_project_name = is_name_of is_project_byte

abbrev pub is_key : List ℕ → Bool
is_key = is_name_of is_key_byte

-- no byte is that of U+0000
abbrev pub is_without_nul : List ℕ → Bool
is_without_nul text = list_all (λ b. not (b == 0)) text

-- the text, where it is of the form
abbrev pub where_so : (List ℕ → Bool) → List ℕ → Option (List ℕ)
where_so is_form text = if is_form text then Some text else None

-- decimal digits, the first of which isn't zero but in "0", of a number up to 2147483647
unfoldable pub is_number : List ℕ → Bool
is_number text =
    nat_lt 0 (length text) && (list_all (λ c. is_digit c 10) text
    && ((bytes_eq text (codes "0") || not (slice_index text 0 == 48)) && nat_lt (digits_value 10 text) number_limit))

-- the number that a text spells
abbrev pub number_in : List ℕ → Option ℕ
number_in text = if is_number text then Some (digits_value 10 text) else None
