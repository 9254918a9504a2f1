-- What comes before and after a byte.
use Rattle.std.specs.Prelude.{ℕ, ◌==◌, List, [], ◌∷◌, Option, Some, None, option_map, if◌then◌else◌}

-- one byte more in front of the first part
abbrev pub longer : ℕ → List ℕ × List ℕ → List ℕ × List ℕ
longer b p = (b ∷ p.0, p.1)

-- what comes before and after the first c
unfoldable pub around : ℕ → List ℕ → Option (List ℕ × List ℕ)
around c [] = None
around c (b ∷ bs) = if b == c then Some ([], bs) else option_map (longer b) (around c bs)
