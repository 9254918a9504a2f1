-- Ids without where they lie in memory (LSIF 0.6.0, "Id").
use Rattle.std.specs.Prelude.{◌<◌, ◌≤◌, ℕ, List, length}

-- an id: the number 1 and the text "1" differ
pub data IdValue : Type 0 where
  number : ℕ → IdValue
  text : List ℕ → IdValue

-- the greatest number that is an id
abbrev pub greatest_id : ℕ
greatest_id = 9007199254740991

-- the greatest length of an id's text, in bytes
abbrev pub longest_id : ℕ
longest_id = 128

-- a number is within the limit, and a text isn't empty
abbrev pub IsWhole : IdValue → Type 0
IsWhole (number n) = n ≤ greatest_id
IsWhole (text s) = 0 < length s
