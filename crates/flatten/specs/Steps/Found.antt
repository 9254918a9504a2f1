-- Numbers in the order in which they were found.
use Rattle.std.specs.Prelude.{◌≡◌, ◌↔◌, ◌⊎◌, ◌++◌, ℕ, List, Contains}

-- the numbers were added, at the end, where they weren't there
pub record Gains (old numbers new : List ℕ) : Type 0 where
  pub more : List ℕ
  pub grown : new ≡ old ++ more
  pub each : (y : ℕ) → Contains new y ↔ (Contains old y ⊎ Contains numbers y)
