-- An escape at the front of what comes after its backslash.
use Rattle.std.specs.Prelude.{ℕ, ◌==◌, List, [], ◌∷◌, Option, None, option_map, if◌then◌else◌}
use Rattle.tags.specs.Bytes.{letter_x}
use Rattle.tags.specs.Escapes.{hex_value, letter_value}

-- the byte that is at the front after a backslash, and how many bytes its escape takes there
unfoldable pub escape_at : List ℕ → Option (ℕ × ℕ)
escape_at [] = None
escape_at (c ∷ []) = option_map (λ v. (v, 1)) (letter_value c)
escape_at (c ∷ d ∷ []) = option_map (λ v. (v, 1)) (letter_value c)
escape_at (c ∷ d ∷ e ∷ bs) = if c == letter_x then option_map (λ v. (v, 3)) (hex_value d e) else option_map (λ v. (v, 1)) (letter_value c)
