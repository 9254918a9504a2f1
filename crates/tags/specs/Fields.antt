-- The fields of a tag: tags(5), "Proposal", on tagfield, and "Exceptions in Universal Ctags" on
-- digits in a field's name.
use Rattle.std.specs.Prelude.{ℕ, ◌==◌, ◌||◌, ◌&&◌, Bool, false, not, nat_lt, List, [], ◌∷◌, length, codes, bytes_eq, Option, Some, None, is_none, option_map, option_and_then, if◌then◌else◌}
use Rattle.std.specs.List.{list_all, list_any, filter_map}
use Rattle.std.specs.Option.{option_map_or}
use Rattle.std.specs.Char.{is_ascii_alphabetic, is_ascii_alphanumeric}
use Rattle.tags.specs.Around.{around}
use Rattle.tags.specs.Bytes.{colon}
use Rattle.tags.specs.Escapes.{decoded}
use Rattle.tags.specs.Values.{FieldValue}

-- what comes before a colon, unless it's the name of the kind
abbrev pub other_name : List ℕ × List ℕ → Option (List ℕ)
other_name p = if bytes_eq p.0 (codes "kind") then None else Some p.0

-- the name of a field other than the kind: what comes before the first colon
abbrev pub name_in : List ℕ → Option (List ℕ)
name_in field = option_and_then other_name (around colon field)

-- what comes after the first colon, or the whole field where it has none
abbrev pub value_in : List ℕ → List ℕ
value_in field = option_map_or (λ p. p.1) (around colon field) field

abbrev pub is_empty : List ℕ → Bool
is_empty bs = length bs == 0

-- a letter, and then letters and digits
abbrev pub is_field_name : List ℕ → Bool
is_field_name [] = false
is_field_name (c ∷ cs) = is_ascii_alphabetic c && list_all is_ascii_alphanumeric cs

-- a kind that is empty, as that of an empty field is, or a bad name
abbrev pub is_bad : Option (List ℕ) → List ℕ → Bool
is_bad None written = is_empty written
is_bad (Some name) written = not (is_field_name name)

abbrev pub is_bad_field : List ℕ → Bool
is_bad_field field = is_bad (name_in field) (value_in field)

-- a backslash that begins no escape, in a kind or a value
abbrev pub has_bad_escape : List ℕ → Bool
has_bad_escape field = is_none (decoded (value_in field))

abbrev pub kind_of : Option (List ℕ) → Option (List ℕ) → Option (List ℕ)
kind_of None value = value
kind_of (Some name) value = None

-- the kind that the field gives
abbrev pub kind_in : List ℕ → Option (List ℕ)
kind_in field = kind_of (name_in field) (decoded (value_in field))

abbrev pub other_of : Option (List ℕ) → Option (List ℕ) → Option FieldValue
other_of None value = None
other_of (Some name) value = option_map (λ v. record { name = name; value = v }) value

-- the field of its own name that the field gives
abbrev pub other_in : List ℕ → Option FieldValue
other_in field = other_of (name_in field) (decoded (value_in field))

-- a bad field, or a second kind
abbrev pub has_bad_fields : List (List ℕ) → Bool
has_bad_fields fields = list_any is_bad_field fields || nat_lt 1 (length (filter_map kind_in fields))
