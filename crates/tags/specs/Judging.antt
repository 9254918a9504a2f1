-- The verdict on a text: its tags, or the fault of its first faulty line.
use Rattle.std.specs.Prelude.{◌≡◌, ◌+◌, ◌&&◌, ℕ, nat_lt, Bool, true, List, [], ◌∷◌, Result, Ok, Err}
use Rattle.std.specs.List.{list_all}
use Rattle.tags.specs.Fault.{Reading, contents, tags_of, IsFaultless, IsFirstFault}
use Rattle.tags.specs.Lines.{AreReadings, lines_of}
use Rattle.tags.specs.States.{State, running, stopped, listed, state_after}
use Rattle.tags.specs.Steps.Readings.{readings_of}
use Rattle.tags.specs.Values.{TagValue}
use Rattle.tags.specs.declared.code.LineFault.{LineFault}

-- no line has a fault, and these are the tags
abbrev pub HasTags : List ℕ → List TagValue → Type 0
HasTags text tags =
    (readings : List Reading) × AreReadings (lines_of text) readings × (IsFaultless readings × (tags ≡ tags_of (contents readings)))

-- this is the first fault
abbrev pub HasFault : List ℕ → LineFault → Type 0
HasFault text f =
    (readings : List Reading) × AreReadings (lines_of text) readings × ((k : ℕ) × (f.line ≡ k + 1) × IsFirstFault readings k f.code)

abbrev pub judged_at : State (List TagValue) → Result (List TagValue) LineFault
judged_at (running s) = Ok s.kept
judged_at (stopped n c) = Err (record { line = n; code = c })

-- the tags that are kept of all lines, or the fault at which they stop
abbrev pub judged : List ℕ → Result (List TagValue) LineFault
judged text = judged_at (state_after listed [] (readings_of text))

-- the number of each line is above those before it
abbrev pub lines_rise : List TagValue → Bool
lines_rise [] = true
lines_rise (t ∷ ts) = list_all (λ (u : TagValue). nat_lt t.line u.line) ts && lines_rise ts
