-- What the checker keeps after each line, and what its calls answer.
use Rattle.std.specs.Prelude.{◌≡◌, ℕ, ◌+◌, List, [], ◌∷◌, ◌++◌, length, map, fold, Option, Some, None, Result, Ok, Err, ⊤}
use Rattle.lsif.specs.Element.{ElementValue, Reading}
use Rattle.lsif.specs.declared.code.Code.{Code}
use Rattle.lsif.specs.declared.code.Code.TheVariants.{L06}
use Rattle.lsif.specs.declared.profile.Profile.{Profile}
use Rattle.dump.specs.declared.fault.LineFault.{LineFault}
use Rattle.dump.specs.declared.fault.FeedFault.{FeedFault}
use Rattle.dump.specs.declared.fault.FeedFault.TheVariants as faults
use Rattle.dump.specs.Conditions.{end_code}
use Rattle.dump.specs.Fault.{line_code}

-- a dump without fault: the profile that its lines were read by, and their elements
pub record DumpValue : Type 0 where
  pub profile : Profile
  pub elements : List ElementValue

-- the elements of the lines so far, or the fault of the first faulty one
pub data Progress : Type 0 where
  running : List ElementValue → Progress
  stopped : LineFault → Progress

-- a checker: the profile that its lines are read by, and what it keeps of them
pub record CheckerValue : Type 0 where
  pub profile : Profile
  pub progress : Progress

abbrev pub progress_of : Option LineFault → List ElementValue → Progress
progress_of None elements = running elements
progress_of (Some f) elements = stopped f

abbrev pub advance : List ElementValue → Reading → Option Code → Progress
advance elements line (Some c) = stopped (record { line = length elements + 1; code = c })
advance elements (Ok x) None = running (elements ++ x ∷ [])
advance elements (Err c) None = running elements

-- one line more
abbrev pub next : Progress → Reading → Progress
next (running elements) line = advance elements line (line_code elements line)
next (stopped f) line = stopped f

-- all lines of a dump
abbrev pub progress : List Reading → Progress
progress dump = fold next (running []) dump

-- each element is allowed by the elements before it
abbrev pub IsSound : List ElementValue → Type 0
IsSound elements = progress (map Ok elements) ≡ running elements

abbrev pub fault_or : ℕ → Option Code → Option LineFault → Option LineFault
fault_or k (Some c) later = Some (record { line = k + 1; code = c })
fault_or k None later = later

-- the fault of the first of these elements that has a code at the end of the dump, where they begin
-- at index k
unfoldable pub end_fault_from : List ElementValue → ℕ → List ElementValue → Option LineFault
end_fault_from elements k [] = None
end_fault_from elements k (x ∷ xs) = fault_or k (end_code elements x) (end_fault_from elements (k + 1) xs)

-- the fault at the end of the lines that these elements were
abbrev pub end_fault : List ElementValue → Option LineFault
end_fault [] = Some (record { line = 1; code = L06 })
end_fault (x ∷ xs) = end_fault_from (x ∷ xs) 0 (x ∷ xs)

-- the fault of the lines, and of their end
abbrev pub finished : Progress → Option LineFault
finished (running elements) = end_fault elements
finished (stopped f) = Some f

abbrev pub IsRunning : Progress → Type 0
IsRunning (running elements) = ⊤
IsRunning (stopped f) = ⊥

-- what `feed` answers, where the step leads from old to due: a line without fault goes on, a faulty
-- one stops for good, and where memory runs out everything stays as it was
abbrev pub Feeds : Result (Unit {0}) FeedFault → Progress → Progress → Progress → Type 0
Feeds (Ok u) old due new = (new ≡ due) × IsRunning due
Feeds (Err faults.Memory) old due new = (new ≡ old) × IsRunning old
Feeds (Err (faults.Line f)) old due new = (new ≡ due) × (due ≡ stopped f)

-- what `finish` answers: where there is no fault the dump of the checker's profile and elements,
-- and else the fault
abbrev pub Finishes : Result DumpValue FeedFault → CheckerValue → Type 0
Finishes (Ok dump) checker = (checker ≡ record { profile = dump.profile; progress = running dump.elements }) × (end_fault dump.elements ≡ None)
Finishes (Err faults.Memory) checker = ⊥
Finishes (Err (faults.Line f)) checker = finished checker.progress ≡ Some f
