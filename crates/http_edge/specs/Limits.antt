-- The limits of requests and replies. `src/limits.rt` has the source of each number.
use Rattle.std.specs.Prelude.{ℕ}

-- how many bytes a head has at most
unfoldable pub head_limit : ℕ
head_limit = 8192

-- how many lines a head has at most: a request line, its fields and the empty line
abbrev pub line_limit : ℕ
line_limit = 34

-- how many fields a head has at most
abbrev pub field_limit : ℕ
field_limit = 32

-- how many bytes a body has at most
unfoldable pub body_limit : ℕ
body_limit = 33554432

-- how many digits the number of a body's bytes has at most
abbrev pub digits_limit : ℕ
digits_limit = 19

-- how many bytes of a reply its first write takes at most
abbrev pub first_bytes : ℕ
first_bytes = 65536
