-- The dump that a reader's bytes are.
use Rattle.std.specs.Prelude.{ℕ, ◌+◌, ◌<◌, List, length, map, Option, Some, None, Result, Ok, Err, ⊤, ◌≡◌}
use Rattle.std.specs.Borrow.{Bor}
use Rattle.lsif.specs.declared.profile.Profile.{Profile}
use Rattle.dump.specs.declared.fault.FeedFault.{FeedFault}
use Rattle.dump.specs.declared.fault.FeedFault.TheVariants as feeds
use Rattle.dump.specs.declared.reading.DumpFault.{DumpFault}
use Rattle.dump.specs.declared.reading.DumpFault.TheVariants as faults
use Rattle.dump.specs.Fault.{IsFault}
use Rattle.dump.specs.Lines.{dump_of}
use Rattle.dump.specs.Progress.{DumpValue}

-- a line that is passed in: these bytes, or one that is longer than the longest
abbrev pub IsHanded : ℕ → Option (Bor (List ℕ)) → List ℕ → Type 0
IsHanded longest (Some line) bytes = bytes ≡ line.now
IsHanded longest None bytes = longest < length bytes

-- what the reading of known bytes by a profile answers: the elements of a dump without fault, or
-- the dump's fault
abbrev pub ReadsDump : Profile → Option (List ℕ) → Result DumpValue DumpFault → Type 0
ReadsDump profile None result = ⊤
ReadsDump profile (Some text) (Ok dump) = IsFault (dump_of profile text) None × (dump_of profile text ≡ map Ok dump.elements)
ReadsDump profile (Some text) (Err (faults.Line f)) = IsFault (dump_of profile text) (Some f)
ReadsDump profile (Some text) (Err faults.Memory) = ⊤
ReadsDump profile (Some text) (Err faults.Read) = ⊤

-- the reader's count of failures goes up by one where it failed, and else stays
abbrev pub CountsRead : {A : Type 0} → ℕ → ℕ → Result A DumpFault → Type 0
CountsRead old new (Ok a) = new ≡ old
CountsRead old new (Err faults.Memory) = new ≡ old
CountsRead old new (Err faults.Read) = new ≡ old + 1
CountsRead old new (Err (faults.Line f)) = new ≡ old

-- a checker's fault, as that of the reading
abbrev pub as_dump_fault : FeedFault → DumpFault
as_dump_fault feeds.Memory = faults.Memory
as_dump_fault (feeds.Line f) = faults.Line f
