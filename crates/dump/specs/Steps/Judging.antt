-- What the steps of the reading of a dump answer, and what a checker has taken after them.
use Rattle.std.specs.Prelude.{ℕ, ◌+◌, ◌-◌, List, [], ◌∷◌, ◌++◌, length, Option, Some, None, Result, Ok, Err, ⊤, ◌≡◌, true}
use Rattle.lsif.specs.Element.{Reading}
use Rattle.lsif.specs.Code.{is_shape_code}
use Rattle.streams.specs.Lines.{LineBufferValue}
use Rattle.lsif.specs.Reading.{longest_line}
use Rattle.lsif.specs.declared.code.Code.{Code}
use Rattle.lsif.specs.declared.element.Element.{Element}
use Rattle.lsif.specs.declared.profile.Profile.{Profile}
use Rattle.dump.specs.declared.reading.DumpFault.{DumpFault}
use Rattle.dump.specs.declared.reading.DumpFault.TheVariants as faults
use Rattle.dump.specs.Conditions.{most_elements}
use Rattle.dump.specs.Lines.{dump_of}
use Rattle.dump.specs.Progress.{Progress, running, stopped, progress}

-- not a fault of the dump
abbrev pub IsOutside : DumpFault → Type 0
IsOutside faults.Memory = ⊤
IsOutside faults.Read = ⊤
IsOutside (faults.Line f) = ⊥

-- by a profile the first line of a dump has this reading; where it's an element, these bytes hold
-- the other lines
abbrev pub ReadsFirst : Profile → List ℕ → Reading → Option (List ℕ) → Type 0
ReadsFirst profile text (Ok x) left = (rest : List ℕ) × (left ≡ Some rest) × (dump_of profile text ≡ Ok x ∷ dump_of profile rest)
ReadsFirst profile text (Err c) left = (others : List Reading) × (dump_of profile text ≡ Err c ∷ others)

-- the reading by a profile of the next line of known bytes, or that there is none
abbrev pub ReadsNext : Profile → Option (List ℕ) → Option Reading → Option (List ℕ) → Type 0
ReadsNext profile None next left = ⊤
ReadsNext profile (Some text) (Some line) left = ReadsFirst profile text line left
ReadsNext profile (Some text) None left = dump_of profile text ≡ []

-- of known bytes, read by a profile, the checker has taken the lines before those that are left
abbrev pub HasTaken : Profile → Option (List ℕ) → Progress → Option (List ℕ) → Type 0
HasTaken profile None state left = ⊤
HasTaken profile (Some text) state left =
    (rest : List ℕ) × (left ≡ Some rest)
    × (lines : List Reading) × (dump_of profile text ≡ lines ++ dump_of profile rest) × (state ≡ progress lines)

-- of known bytes, read by a profile, the checker has taken all lines
abbrev pub HasTakenAll : Profile → Option (List ℕ) → Progress → Type 0
HasTakenAll profile None state = ⊤
HasTakenAll profile (Some text) state = state ≡ progress (dump_of profile text)

-- how many elements a checker may still take, and one more
abbrev pub room_of : Progress → ℕ
room_of (running elements) = most_elements + 1 - length elements
room_of (stopped f) = 0

-- a checker over lines of the longest length that a dump may have goes on after an element
abbrev pub IsReady : LineBufferValue → Type 0
IsReady lines = (lines.fault ≡ None) × (lines.longest ≡ longest_line)

-- after an element the lines go on; a fault is one of a line's shape
abbrev pub GoesOn : Option (Result Element Code) → LineBufferValue → Type 0
GoesOn None lines = ⊤
GoesOn (Some (Ok e)) lines = IsReady lines
GoesOn (Some (Err c)) lines = is_shape_code c ≡ true
