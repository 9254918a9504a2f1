-- The lines of an upload, taken one after another.
use Rattle.std.specs.Prelude.{◌≡◌, ◌≢◌, ◌⊎◌, ℕ, Bool, true, false, List, fold, Result, ⊤}
use Rattle.streams.specs.Pieces.{CutterValue, begun}
use Rattle.lsif.specs.Reading.{reading}
use Rattle.streams.specs.declared.cutter.LineState.TheVariants.{TooLong}
use Rattle.dump.specs.Progress as dumps
use Rattle.tags.specs.States as tags
use Rattle.tags.specs.States.{listed}
use Rattle.tags.specs.Judging.{judged_at, lines_rise}
use Rattle.tags.specs.Steps.Readings.{reading_of}
use Rattle.machine.specs.Judging.{dump_at_end, dump_change, tags_change}
use Rattle.machine.specs.State.{Change}
use Rattle.machine.specs.Reply.{ReplyValue}
use Rattle.machine.specs.Uploads.{BodyValue, TakenLines, dump_lines, tags_lines, no_dump_line, no_tags_line, longest_of, settled, IsCut}
use Rattle.machine.specs.declared.line_reader.ReadingState.{ReadingState}
use Rattle.machine.specs.declared.line_reader.ReadingState.TheVariants as states
use Rattle.machine.specs.declared.line_reader.LineReader.{LineReader}
use Rattle.machine.specs.declared.line_reader.LineReader.TheVariants as readers

-- the lines that a reader has taken
abbrev pub taken : LineReader → TakenLines
taken (readers.Dump checker) = dump_lines checker.profile checker.progress
taken (readers.Tags reader) = tags_lines reader

-- one line more, which a line feed ends or doesn't
abbrev pub next : TakenLines → List ℕ → Bool → TakenLines
next (dump_lines profile progress) line is_ended = dump_lines profile (dumps.next progress (reading profile line))
next (tags_lines state) line is_ended = tags_lines (tags.next listed state (reading_of (record { bytes = line; ended = is_ended })))

-- no line has a fault
abbrev pub IsRunning : TakenLines → Type 0
IsRunning (dump_lines profile progress) = dumps.IsRunning progress
IsRunning (tags_lines state) = tags.IsRunning state

-- a line was taken, and it has a fault or not
abbrev pub Judges : ReadingState → TakenLines → TakenLines → Type 0
Judges states.Running due new = (new ≡ due) × IsRunning due
Judges states.Faulty due new = (new ≡ due) × (IsRunning due → ⊥)
Judges states.OutOfMemory due new = ⊤

-- the verdict at the end
abbrev pub said : TakenLines → Result Change ReplyValue
said (dump_lines profile progress) = dump_change (dump_at_end profile progress)
said (tags_lines state) = tags_change (judged_at state)

-- the tags so far are in the order of their lines
abbrev pub Rises : TakenLines → Type 0
Rises (dump_lines profile progress) = ⊤
Rises (tags_lines (tags.running summary)) = lines_rise summary.kept ≡ true
Rises (tags_lines (tags.stopped n c)) = ⊤

-- no line yet
abbrev pub emptied : TakenLines → TakenLines
emptied (dump_lines profile progress) = no_dump_line profile
emptied (tags_lines state) = no_tags_line

-- these lines, each ended
abbrev pub after : TakenLines → List (List ℕ) → TakenLines
after old lines = fold (λ known line. next known line true) old lines

-- the settled lines were taken, and where none has a fault the bytes after the last line feed are
-- held
abbrev pub Took : TakenLines → List ℕ → List (List ℕ) → List ℕ → Type 0
Took known held lines last = (known ≡ after (emptied known) (settled (longest_of known) lines last)) × (IsRunning known → held ≡ last)

abbrev pub TookBody : TakenLines → List ℕ → List ℕ → Type 0
TookBody known held body = (lines : List (List ℕ)) × (last : List ℕ) × IsCut body lines last × Took known held lines last

-- ---- an upload

abbrev pub is_out_of_memory : ReadingState → Bool
is_out_of_memory states.Running = false
is_out_of_memory states.Faulty = false
is_out_of_memory states.OutOfMemory = true

abbrev pub body_value : TakenLines → CutterValue → ReadingState → BodyValue
body_value known cutter state = record { lines = known; last = begun cutter; is_out_of_memory = is_out_of_memory state }

-- whether a line has a fault
abbrev pub HasState : ReadingState → TakenLines → CutterValue → Type 0
HasState states.Running known cutter = IsRunning known × (cutter.state ≢ TooLong)
HasState states.Faulty known cutter = IsRunning known → ⊥
HasState states.OutOfMemory known cutter = ⊤

-- the lines were taken of this body, or memory was refused
abbrev pub StandsBy : BodyValue → List ℕ → Type 0
StandsBy held body = (held.is_out_of_memory ≡ true) ⊎ TookBody held.lines held.last body

-- at the end this is the verdict on the lines, unless memory was refused
abbrev pub Says : ReadingState → TakenLines → Result Change ReplyValue → Type 0
Says states.Running known answer = said known ≡ answer
Says states.Faulty known answer = said known ≡ answer
Says states.OutOfMemory known answer = ⊤
