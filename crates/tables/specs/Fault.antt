-- Why the tables refuse: the code and the text of each fault, and which errors of the store are
-- which.
use Rattle.std.specs.Prelude.{◌≡◌, ◌⊎◌, ℕ, Bool, true, List, codes}
use Rattle.sqlite.specs.declared.error.Error.{Error}
use Rattle.sqlite.specs.declared.error.Error.TheVariants.{SqliteFailure}
use Rattle.sqlite.specs.declared.error.ErrorCode.TheVariants.{OutOfMemory, SystemIoFailure}
use Rattle.tables.specs.declared.fault.TablesFault.{TablesFault}
use Rattle.tables.specs.declared.fault.TablesFault.TheVariants.{Refused, Memory, Foreign, OldFormat}

abbrev pub name_of : TablesFault → List ℕ
name_of Refused = codes "S01"
name_of Memory = codes "S02"
name_of Foreign = codes "S03"
name_of OldFormat = codes "S04"

abbrev pub text_of : TablesFault → List ℕ
text_of Refused = codes "store refused"
text_of Memory = codes "out of memory"
text_of Foreign = codes "not a codenav database"
text_of OldFormat = codes "database is of format 1"

-- Want of memory, in memory also where the store can't do what was asked, or a refusal for any
-- other cause. The first argument says whether the database is in memory alone.
abbrev pub fault_of : Bool → Error → TablesFault
fault_of _ (SqliteFailure OutOfMemory) = Memory
fault_of true (SqliteFailure SystemIoFailure) = Memory
fault_of _ _ = Refused

-- the faults of a store that was opened
abbrev pub IsStoreFault : TablesFault → Type 0
IsStoreFault fault = (fault ≡ Refused) ⊎ (fault ≡ Memory)
