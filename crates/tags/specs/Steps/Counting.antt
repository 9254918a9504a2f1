-- What the parts of a count of tags answer.
use Rattle.std.specs.Prelude.{◌≡◌, ℕ, ◌+◌, ◌-◌, List, [], ◌∷◌, fold, Option, Some, None, Bool, true, false, Result, Ok, Err, ⊤}
use Rattle.streams.specs.Lines.{LineBufferValue}
use Rattle.tags.specs.States.{Summary, State, running, stopped, counted, next, state_after, IsRunning}
use Rattle.tags.specs.Fault.{Reading, most_lines}
use Rattle.tags.specs.Lines.{longest_line}
use Rattle.tags.specs.Steps.Readings.{readings_of}
use Rattle.tags.specs.declared.counting.CountFault.{CountFault}
use Rattle.tags.specs.declared.counting.CountFault.TheVariants as faults

-- what is answered for a line that leads to this state
abbrev pub Feeds : Result Bool CountFault → State ℕ → State ℕ → Type 0
Feeds (Ok true) new to = (new ≡ to) × IsRunning to
Feeds (Ok false) new to = ⊥
Feeds (Err (faults.Line f)) new to = to ≡ stopped f.line f.code
Feeds (Err faults.Memory) new to = IsRunning to
Feeds (Err faults.Read) new to = ⊥

-- the first line of known bytes reads so
abbrev pub BeginsSo : Option (List ℕ) → Reading → Type 0
BeginsSo None line = ⊤
BeginsSo (Some text) line = (others : List Reading) × (readings_of text ≡ line ∷ others)

-- the first line of known bytes reads so, and the bytes left hold the other lines
abbrev pub ReadsFirst : Option (List ℕ) → Reading → Option (List ℕ) → Type 0
ReadsFirst None line left = ⊤
ReadsFirst (Some text) line left = (rest : List ℕ) × (left ≡ Some rest) × (readings_of text ≡ line ∷ readings_of rest)

-- known bytes have no line
abbrev pub ReadsNone : Option (List ℕ) → Type 0
ReadsNone None = ⊤
ReadsNone (Some text) = readings_of text ≡ []

-- lines of the longest length that a tags file may have, before any fault
abbrev pub IsReady : LineBufferValue → Type 0
IsReady lines = (lines.fault ≡ None) × (lines.longest ≡ longest_line)

-- what is said of the next line by the bytes and the states before it and after it
abbrev pub Takes : Option (List ℕ) → State ℕ → Result Bool CountFault → State ℕ → LineBufferValue → Option (List ℕ) → Type 0
Takes left old (Ok true) new lines left' =
    (line : Reading) × ReadsFirst left line left' × (new ≡ next counted old line) × IsRunning new × IsReady lines
Takes left old (Ok false) new lines left' = (new ≡ old) × ReadsNone left
Takes left old (Err (faults.Line f)) new lines left' =
    (line : Reading) × BeginsSo left line × (next counted old line ≡ stopped f.line f.code)
Takes left old (Err faults.Memory) new lines left' = ⊤
Takes left old (Err faults.Read) new lines left' = ⊤

-- of known bytes the lines that are left lead from this state to that of the whole file
abbrev pub HasTaken : Option (List ℕ) → State ℕ → Option (List ℕ) → Type 0
HasTaken None state left = ⊤
HasTaken (Some text) state left =
    (rest : List ℕ) × (left ≡ Some rest) × (fold (next counted) state (readings_of rest) ≡ state_after counted 0 (readings_of text))

-- how many lines a checker may still take, and one more
abbrev pub room_of : State ℕ → ℕ
room_of (running s) = most_lines + 1 - s.count
room_of (stopped n c) = 0

-- what the end of the lines says of the state
abbrev pub Concludes : State ℕ → Result ℕ CountFault → Type 0
Concludes state (Ok n) = (s : Summary ℕ) × (state ≡ running s) × (n ≡ s.kept)
Concludes state (Err (faults.Line f)) = state ≡ stopped f.line f.code
Concludes state (Err faults.Memory) = ⊥
Concludes state (Err faults.Read) = ⊥
