-- Bodies that come in pieces: what an upload holds, and the bodies that it represents.
use Rattle.std.specs.Prelude.{◌≡◌, ℕ, ◌+◌, nat_lt, Bool, true, false, List, [], ◌∷◌, ◌++◌, length, map, ◌⊎◌, Ok, if◌then◌else◌}
use Rattle.std.specs.List.{AllByRecursion, flat_map}
use Rattle.streams.specs.Lines as texts
use Rattle.streams.specs.Lines.{IsLine}
use Rattle.lsif.specs.Reading as dumps
use Rattle.lsif.specs.Reading.{reading}
use Rattle.lsif.specs.declared.profile.Profile.{Profile}
use Rattle.dump.specs.Fault.{AreSoundLines, IsLineFault}
use Rattle.dump.specs.Progress as dumps_progress
use Rattle.dump.specs.Progress.{Progress}
use Rattle.tags.specs.Fault as tags_fault
use Rattle.tags.specs.Fault.{contents, tags_of}
use Rattle.tags.specs.Lines as tags
use Rattle.tags.specs.Lines.{AreReadings, ended_line}
use Rattle.tags.specs.States.{State, summary_of}
use Rattle.tags.specs.States as tags_states
use Rattle.tags.specs.Values.{TagValue}
use Rattle.machine.specs.Requests.{ActionValue, put_dump, put_tags, CommandValue}

-- ---- a body

-- a body is these lines, each followed by a line feed, and then bytes without one
abbrev pub IsCut : List ℕ → List (List ℕ) → List ℕ → Type 0
IsCut body lines last = AllByRecursion IsLine lines × IsLine last × (body ≡ flat_map texts.ended lines ++ last)

-- the lines whose readings no more bytes change: those that have ended, and the last where it's
-- longer than a line may be
abbrev pub settled : ℕ → List (List ℕ) → List ℕ → List (List ℕ)
settled longest lines last = if nat_lt longest (length last) then lines ++ last ∷ [] else lines

-- ---- what an upload holds

-- of the lines of a dump, by its profile, the elements, or the fault of the first faulty one; of
-- those of a tags file the tags and what has to be known for the lines to come, or the first faulty
-- one
pub data TakenLines : Type 0 where
  dump_lines : Profile → Progress → TakenLines
  tags_lines : State (List TagValue) → TakenLines

-- what is held of a body: its lines, the bytes after the last line feed, and whether memory was
-- refused
pub record BodyValue : Type 0 where
  pub lines : TakenLines
  pub last : List ℕ
  pub is_out_of_memory : Bool

pub record UploadValue : Type 0 where
  pub project : List ℕ
  pub key : List ℕ
  pub body : BodyValue

-- ---- what it represents

-- the settled lines of a dump have no fault and are these elements, and the bytes after the last
-- line feed are held; or this is the fault of the first faulty one
abbrev pub HoldsDump : Profile → Progress → List ℕ → List (List ℕ) → List ℕ → Type 0
HoldsDump profile (dumps_progress.running elements) held lines last =
    (map (reading profile) (settled dumps.longest_line lines last) ≡ map Ok elements) × AreSoundLines (map Ok elements) × (held ≡ last)
HoldsDump profile (dumps_progress.stopped fault) held lines last = IsLineFault (map (reading profile) (settled dumps.longest_line lines last)) fault

-- the same of a tags file, where the readings of its settled lines are these
abbrev pub HoldsReadings : State (List TagValue) → List ℕ → List tags_fault.Reading → List ℕ → Type 0
HoldsReadings (tags_states.running summary) held readings last =
    tags_fault.IsFaultless readings × (summary ≡ summary_of (tags_of (contents readings)) (contents readings)) × (held ≡ last)
HoldsReadings (tags_states.stopped n c) held readings last = (k : ℕ) × (n ≡ k + 1) × tags_fault.IsFirstFault readings k c

abbrev pub HoldsTags : State (List TagValue) → List ℕ → List (List ℕ) → List ℕ → Type 0
HoldsTags state held lines last =
    (readings : List tags_fault.Reading) × AreReadings (map ended_line (settled tags.longest_line lines last)) readings × HoldsReadings state held readings last

abbrev pub Holds : TakenLines → List ℕ → List (List ℕ) → List ℕ → Type 0
Holds (dump_lines profile progress) = HoldsDump profile progress
Holds (tags_lines state) = HoldsTags state

-- it has read each body whose lines these are, and after memory was refused every body
abbrev pub HasRead : BodyValue → List ℕ → Type 0
HasRead held body =
    (held.is_out_of_memory ≡ true)
    ⊎ ((lines : List (List ℕ)) × (last : List ℕ) × IsCut body lines last × Holds held.lines held.last lines last)

-- the command that an upload is with a body
abbrev pub action_of : TakenLines → List ℕ → ActionValue
action_of (dump_lines profile progress) body = put_dump profile body
action_of (tags_lines state) body = put_tags body

abbrev pub command_of : UploadValue → List ℕ → CommandValue
command_of upload body = record { project = upload.project; key = upload.key; action = action_of upload.body.lines body }

-- ---- the beginning

-- no line yet
abbrev pub no_dump_line : Profile → TakenLines
no_dump_line profile = dump_lines profile (dumps_progress.running [])

abbrev pub no_tags_line : TakenLines
no_tags_line = tags_lines (tags_states.start [])

-- no byte yet
abbrev pub empty : TakenLines → BodyValue
empty lines = record { lines = lines; last = []; is_out_of_memory = false }

-- the longest line
abbrev pub longest_of : TakenLines → ℕ
longest_of (dump_lines profile progress) = dumps.longest_line
longest_of (tags_lines state) = tags.longest_line
