-- The readings of lines, by the steps in the order of the codes.
use Rattle.std.specs.Prelude.{ℕ, Bool, nat_lt, List, length, map, Result, Ok, Err, if◌then◌else◌}
use Rattle.tags.specs.Lines.{Line, line_text, lines_of, longest_line}
use Rattle.tags.specs.Steps.Reading.{reading}
use Rattle.tags.specs.Values.{ContentValue}
use Rattle.tags.specs.declared.code.Code.{Code}
use Rattle.tags.specs.declared.code.Code.TheVariants.{T01}

-- what a line says, or the least code of the line alone
abbrev pub reading_of : Line → Result ContentValue Code
reading_of line = if nat_lt longest_line (length line.bytes) then Err T01 else reading (line_text line)

-- what the lines of a text say
abbrev pub readings_of : List ℕ → List (Result ContentValue Code)
readings_of text = map reading_of (lines_of text)

-- what a line that is passed in says: its bytes, or the code that was found before
abbrev pub handed : Result (List ℕ) Code → Bool → Result ContentValue Code
handed (Ok bytes) ended = reading_of (record { bytes = bytes; ended = ended })
handed (Err code) ended = Err code
