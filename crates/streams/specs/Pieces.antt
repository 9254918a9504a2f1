-- How lines are cut from the pieces of a text.
use Rattle.std.specs.Prelude.{◌≡◌, ◌≢◌, ℕ, ◌+◌, ◌<◌, ◌≤◌, ◌⊎◌, List, [], ◌∷◌, ◌++◌, length, Option, Some, None, unwrap_or, Result, Ok, Err}
use Rattle.streams.specs.Lines.{IsLine, line_feed}
use Rattle.streams.specs.declared.cutter.LineState.{LineState}
use Rattle.streams.specs.declared.cutter.LineState.TheVariants.{Open, Ended, TooLong}
use Rattle.streams.specs.declared.lines.LinesFault.{LinesFault}
use Rattle.streams.specs.declared.lines.LinesFault.TheVariants as faults

-- the longest line, the bytes of a line, and how far it is
pub record CutterValue : Type 0 where
  pub longest : ℕ
  pub line : List ℕ
  pub state : LineState

-- the bytes of a line whose line feed hasn't come
abbrev pub begun_by : LineState → List ℕ → List ℕ
begun_by Open line = line
begun_by Ended line = []
begun_by TooLong line = []

abbrev pub begun : CutterValue → List ℕ
begun c = begun_by c.state c.line

-- the line whose line feed was taken last
abbrev pub ended_by : LineState → List ℕ → Option (List ℕ)
ended_by Open line = None
ended_by Ended line = Some line
ended_by TooLong line = None

abbrev pub line_in : CutterValue → Option (List ℕ)
line_in c = ended_by c.state c.line

-- the same, or none
abbrev pub last_line : CutterValue → List ℕ
last_line c = unwrap_or (line_in c) []

-- a last line without line feed, where it isn't empty
abbrev pub unless_empty : List ℕ → Option (List ℕ)
unless_empty [] = None
unless_empty (b ∷ line) = Some (b ∷ line)

abbrev pub rest_in : CutterValue → Option (List ℕ)
rest_in c = unless_empty (begun c)

-- the piece up to and with its first line feed is taken, and ends the line
abbrev pub Ends : CutterValue → List ℕ → ℕ → CutterValue → Type 0
Ends old piece n new =
    (part : List ℕ) × (rest : List ℕ) × (piece ≡ part ++ line_feed ∷ rest) × IsLine part × (n ≡ length part + 1)
    × (new ≡ record { longest = old.longest; line = begun old ++ part; state = Ended })

-- a piece without line feed is taken, and the line goes on
abbrev pub GoesOn : CutterValue → List ℕ → ℕ → CutterValue → Type 0
GoesOn old piece n new = IsLine piece × (n ≡ length piece) × (new ≡ record { longest = old.longest; line = begun old ++ piece; state = Open })

-- with bytes of the piece the line is longer than the longest
abbrev pub IsOver : CutterValue → List ℕ → Type 0
IsOver old piece =
    (part : List ℕ) × (rest : List ℕ) × (piece ≡ part ++ rest) × IsLine (begun old ++ part) × (old.longest < length (begun old ++ part))

-- what is taken of a piece: a line ends or goes on, within the longest; or it is too long, then and
-- for good
abbrev pub Takes : CutterValue → List ℕ → Result ℕ LinesFault → CutterValue → Type 0
Takes old piece (Ok n) new =
    (old.state ≢ TooLong) × IsLine new.line × (length new.line ≤ new.longest) × (Ends old piece n new ⊎ GoesOn old piece n new)
Takes old piece (Err faults.TooLong) new =
    (new.state ≡ TooLong) × (new.longest ≡ old.longest) × (((old.state ≡ TooLong) × (new ≡ old)) ⊎ ((old.state ≢ TooLong) × IsOver old piece))
Takes old piece (Err faults.Memory) new = ⊥
Takes old piece (Err faults.Read) new = ⊥
