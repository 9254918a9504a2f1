-- The ids that JSON values are (LSIF 0.6.0, "Id").
use Rattle.std.specs.Prelude.{ℕ, ◌&&◌, nat_lt, nat_le, List, [], ◌∷◌, length, Option, Some, None, option_map, option_and_then, if◌then◌else◌}
use Rattle.serde_json.specs.Data.{Data, Items, no_items, item}
use Rattle.serde_json.specs.Find.{get, as_number, as_u64, as_str}
use Rattle.lsif.specs.IdValues.{IdValue, number, text}
pub use Rattle.lsif.specs.IdValues.{greatest_id, longest_id}

-- a number without fraction or exponent, up to 2 ^ 64 - 1
abbrev pub whole_number_in : Data → Option ℕ
whole_number_in d = option_and_then as_u64 (as_number d)

abbrev pub number_id : ℕ → Option IdValue
number_id n = if nat_le n greatest_id then Some (number n) else None

abbrev pub text_id : List ℕ → Option IdValue
text_id s = if nat_lt 0 (length s) && nat_le (length s) longest_id then Some (text s) else None

abbrev pub id_by : Option ℕ → Option (List ℕ) → Option IdValue
id_by (Some n) s = number_id n
id_by None s = option_and_then text_id s

-- the id that a value is
unfoldable pub id_in : Data → Option IdValue
id_in d = id_by (whole_number_in d) (as_str d)

-- what the values of an array are, where each is something
unfoldable pub each_in : {A : Type 0} → (Data → Option A) → Items → Option (List A)
each_in f no_items = Some []
each_in f (item d ds) = option_and_then (λ x. option_map (λ xs. x ∷ xs) (each_in f ds)) (f d)

-- the ids that the values of an array are, where each is one
abbrev pub ids_in : Items → Option (List IdValue)
ids_in ds = each_in id_in ds

-- the id that a member is
abbrev pub id_at : List ℕ → Data → Option IdValue
id_at name d = option_and_then id_in (get name d)

-- the text that a member is
abbrev pub text_at : List ℕ → Data → Option (List ℕ)
text_at name d = option_and_then as_str (get name d)
