-- One value more.
use Rattle.std.specs.Prelude.{ℕ, List, [], ◌∷◌}
use Rattle.http_edge.specs.Values.{Values, absent, single, several, values}

-- one more value
abbrev pub with_value : Values → List ℕ → Values
with_value absent value = single value
with_value (single v) value = several
with_value several value = several

-- the values of a list that follow those
abbrev pub with_values : Values → List (List ℕ) → Values
with_values absent list = values list
with_values (single value) [] = single value
with_values (single value) (other ∷ rest) = several
with_values several list = several
