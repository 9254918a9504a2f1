-- How much there may be of a dump's rows.
use Rattle.std.specs.Prelude.{ℕ}

-- so many rows of a kind, and so many pairs that a walk follows
abbrev pub most_rows : ℕ
most_rows = 4000000

-- so many bytes of the texts of rows count as a row
abbrev pub text_bytes : ℕ
text_bytes = 128
