-- What pairs of numbers lead to.
use Rattle.std.specs.Prelude.{ℕ, List, Contains}
use Rattle.dump.specs.Walks.{Path}

-- a path of the pairs, of no step or more, leads to the number from one of the starts
abbrev pub IsReached : List ℕ → List (ℕ × ℕ) → ℕ → Type 0
IsReached starts pairs y = (x : ℕ) × Contains starts x × Path pairs x y
