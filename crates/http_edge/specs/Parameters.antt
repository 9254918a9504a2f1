-- The parameters of a query string (URL Standard, "application/x-www-form-urlencoded parsing").
use Rattle.std.specs.Prelude.{ℕ, List, [], ◌∷◌, map, if◌then◌else◌}
use Rattle.std.specs.Str.{bytes_eq}
use Rattle.std.specs.Str.Lossy.{utf8_lossy}
use Rattle.form_urlencoded.specs.Form.{raw_pairs, decode}
use Rattle.http_edge.specs.Values.{Values, values}

-- the text that a name or a value represents
abbrev pub decoded : List ℕ → List ℕ
decoded bytes = utf8_lossy (decode bytes)

abbrev pub decoded_pair : List ℕ × List ℕ → List ℕ × List ℕ
decoded_pair (name, value) = (decoded name, decoded value)

-- the names and values of a query string, decoded, in order
unfoldable pub parameters : List ℕ → List (List ℕ × List ℕ)
parameters query = map decoded_pair (raw_pairs query)

-- the values of the pairs of that name, in order
unfoldable pub values_named : List ℕ → List (List ℕ × List ℕ) → List (List ℕ)
values_named name [] = []
values_named name (pair ∷ pairs) = if bytes_eq pair.0 name then pair.1 ∷ values_named name pairs else values_named name pairs

-- the values that a name has in those pairs
abbrev pub parameter : List ℕ → List (List ℕ × List ℕ) → Values
parameter name pairs = values (values_named name pairs)
