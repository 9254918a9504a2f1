-- How a name, a file, a kind and the value of a field are written: tags(5), "Proposal", on tagname
-- and tagfield, with the escapes of "Exceptions in Universal Ctags". A text is written by pieces;
-- nothing here says how they are read.
use Rattle.std.specs.Prelude.{◌≡◌, ◌≢◌, ℕ, ◌+◌, ◌*◌, ◌<◌, List, [], ◌∷◌, Some, ⊤}
use Rattle.std.specs.List.{flat_map}
use Rattle.std.specs.Char.{digit_value}
use Rattle.tags.specs.Bytes.{backslash, letter_x}
use Rattle.tags.specs.Escapes.{letter_value}

-- a byte that represents itself; a backslash and a letter; or `\x` and two hexadecimal digits
pub data Piece : Type 0 where
  itself : ℕ → Piece
  letter : ℕ → Piece
  digits : ℕ → ℕ → Piece

abbrev pub piece_text : Piece → List ℕ
piece_text (itself b) = b ∷ []
piece_text (letter c) = backslash ∷ c ∷ []
piece_text (digits high low) = backslash ∷ letter_x ∷ high ∷ low ∷ []

-- two digits of either case, for 01 to 7F
pub record IsHex (high low value : ℕ) : Type 0 where
  pub first_digit : digit_value high < 16
  pub second_digit : digit_value low < 16
  pub sum : value ≡ digit_value high * 16 + digit_value low
  pub positive : 0 < value
  pub ascii : value < 128

-- the byte that a piece represents
abbrev pub StandsFor : Piece → ℕ → Type 0
StandsFor (itself b) value = (b ≢ backslash) × (value ≡ b)
StandsFor (letter c) value = letter_value c ≡ Some value
StandsFor (digits high low) value = IsHex high low value

abbrev pub StandFor : List Piece → List ℕ → Type 0
StandFor [] [] = ⊤
StandFor [] (v ∷ vs) = ⊥
StandFor (p ∷ ps) [] = ⊥
StandFor (p ∷ ps) (v ∷ vs) = StandsFor p v × StandFor ps vs

-- the value is written so
abbrev pub IsWritten : List ℕ → List ℕ → Type 0
IsWritten value written = (pieces : List Piece) × StandFor pieces value × (written ≡ flat_map piece_text pieces)
