-- The lines of a tags file, and what each says.
use Rattle.std.specs.Prelude.{◌≡◌, ◌≢◌, ℕ, ◌<◌, ◌==◌, ◌++◌, Bool, true, false, List, [], ◌∷◌, length, map, Result, Ok, Err, ⊤, if◌then◌else◌}
use Rattle.std.specs.List.{AllByRecursion, flat_map}
use Rattle.std.specs.Str.Lines.{strip_carriage_return}
use Rattle.tags.specs.Bytes.{line_feed}
use Rattle.tags.specs.Conditions.{ReadsBy, TextCondition, text_codes}
use Rattle.tags.specs.Fault.{Reading}
use Rattle.tags.specs.declared.code.Code.{Code}
use Rattle.tags.specs.declared.code.Code.TheVariants.{T01}

-- the bytes of a line without its LF, and whether an LF follows them
pub record Line : Type 0 where
  pub bytes : List ℕ
  pub ended : Bool

abbrev pub in_front : ℕ → List Line → List Line
in_front b [] = record { bytes = b ∷ []; ended = false } ∷ []
in_front b (line ∷ lines) = record { bytes = b ∷ line.bytes; ended = line.ended } ∷ lines

-- the lines that an LF ends, and what comes after the last LF where it isn't empty
unfoldable pub lines_of : List ℕ → List Line
lines_of [] = []
lines_of (b ∷ bs) = if b == line_feed then record { bytes = []; ended = true } ∷ lines_of bs else in_front b (lines_of bs)

-- a piece without LF
abbrev pub IsPiece : List ℕ → Type 0
IsPiece piece = AllByRecursion (λ b. b ≢ line_feed) piece

abbrev pub ended_line : List ℕ → Line
ended_line piece = record { bytes = piece; ended = true }

-- a piece and its LF
abbrev pub ended_text : List ℕ → List ℕ
ended_text piece = piece ++ line_feed ∷ []

-- the text is the pieces, each before an LF, and then a piece with no LF
abbrev pub Cuts : List ℕ → List (List ℕ) → List ℕ → Type 0
Cuts text pieces last = AllByRecursion IsPiece pieces × IsPiece last × (text ≡ flat_map ended_text pieces ++ last)

-- the pieces as lines, and the last one where it isn't empty
abbrev pub with_last : List (List ℕ) → List ℕ → List Line
with_last pieces [] = map ended_line pieces
with_last pieces (b ∷ bs) = map ended_line pieces ++ record { bytes = b ∷ bs; ended = false } ∷ []

-- ---- what a line says

-- how many bytes a line may have, with its CR
abbrev pub longest_line : ℕ
longest_line = 65536

-- one CR directly before the LF isn't part of the line's text
abbrev pub line_text : Line → List ℕ
line_text line = if line.ended then strip_carriage_return line.bytes else line.bytes

-- the condition of a code on a line; T01: the line, with its CR, is longer than it may be
abbrev pub Condition : Line → Code → Type 0
Condition line T01 = longest_line < length line.bytes
Condition line c = TextCondition (line_text line) c

-- the codes of a line alone, least first
abbrev pub line_codes : List Code
line_codes = T01 ∷ text_codes

-- a line's reading: the least code whose condition holds, or where none does what the line's text
-- says
abbrev pub IsReading : Line → Reading → Type 0
IsReading line reading = ReadsBy (Condition line) line_codes (line_text line) reading

-- each line's reading
abbrev pub AreReadings : List Line → List Reading → Type 0
AreReadings [] [] = ⊤
AreReadings [] (r ∷ rs) = ⊥
AreReadings (line ∷ lines) [] = ⊥
AreReadings (line ∷ lines) (r ∷ rs) = IsReading line r × AreReadings lines rs

-- the reading of a line that is passed in: that of its bytes, or the code that was found before
abbrev pub IsHanded : Result (List ℕ) Code → Bool → Reading → Type 0
IsHanded (Ok bytes) ended reading = IsReading (record { bytes = bytes; ended = ended }) reading
IsHanded (Err code) ended reading = reading ≡ Err code
