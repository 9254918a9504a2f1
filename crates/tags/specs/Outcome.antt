-- What is answered for the lines of a tags file.
use Rattle.std.specs.Prelude.{◌≡◌, ◌+◌, ℕ, List, Result, Ok, Err}
use Rattle.tags.specs.Fault.{Reading, contents, tags_of, IsFaultless, IsFirstFault}
use Rattle.tags.specs.Lines.{AreReadings, lines_of}
use Rattle.tags.specs.Views.{tag_values}
use Rattle.tags.specs.declared.code.TagsFault.{TagsFault}
use Rattle.tags.specs.declared.code.TagsFault.TheVariants as faults
use Rattle.tags.specs.declared.tag.Tag.{Tag}

-- the tags of lines without fault, or the first fault, or that memory ran out
abbrev pub AnswersLines : Result (List Tag) TagsFault → List Reading → Type 0
AnswersLines (Ok tags) lines = IsFaultless lines × (tag_values tags ≡ tags_of (contents lines))
AnswersLines (Err faults.Memory) lines = Unit {0}
AnswersLines (Err (faults.Line f)) lines = (k : ℕ) × (f.line ≡ k + 1) × IsFirstFault lines k f.code

-- the same of a text, by the readings of its lines
abbrev pub Answers : Result (List Tag) TagsFault → List ℕ → Type 0
Answers result text = (readings : List Reading) × AreReadings (lines_of text) readings × AnswersLines result readings
