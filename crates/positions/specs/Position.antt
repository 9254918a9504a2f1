-- What a position is to a clause, and how positions are ordered (Language Server Protocol 3.17,
-- "Position").
use Rattle.std.specs.Prelude.{◌≡◌, ℕ, ◌+◌, ◌*◌, ◌<◌, ◌⊎◌, Bool, nat_lt, ◌&&◌, ◌||◌, ◌==◌, if◌then◌else◌}

-- a zero-based line, and in it a zero-based character in UTF-16 code units
pub record PositionValue : Type 0 where
  pub line : ℕ
  pub character : ℕ

-- both numbers of a position are below this
abbrev pub number_limit : ℕ
number_limit = 2147483648

abbrev pub IsPosition : PositionValue → Type 0
IsPosition p = (p.line < number_limit) × (p.character < number_limit)

-- by line, then by character
abbrev pub IsBefore : PositionValue → PositionValue → Type 0
IsBefore p q = (p.line < q.line) ⊎ ((p.line ≡ q.line) × (p.character < q.character))

abbrev pub IsAtOrBefore : PositionValue → PositionValue → Type 0
IsAtOrBefore p q = ¬ IsBefore q p

-- the test of IsBefore
abbrev pub is_before : PositionValue → PositionValue → Bool
is_before p q = nat_lt p.line q.line || ((p.line == q.line) && nat_lt p.character q.character)

abbrev pub later_of : PositionValue → PositionValue → PositionValue
later_of p q = if is_before p q then q else p

abbrev pub earlier_of : PositionValue → PositionValue → PositionValue
earlier_of p q = if is_before q p then q else p

-- the number of a position, which keeps the order
abbrev pub packed_of : PositionValue → ℕ
packed_of p = p.line * number_limit + p.character
