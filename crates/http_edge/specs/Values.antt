-- The values that a name has: none, one, or several.
use Rattle.std.specs.Prelude.{ℕ, List, [], ◌∷◌}

pub data Values : Type 0 where
  absent : Values
  single : List ℕ → Values
  several : Values

abbrev pub values : List (List ℕ) → Values
values [] = absent
values (value ∷ []) = single value
values (value ∷ other ∷ rest) = several
