-- The form of a clause that all selections of an index have, over what the index is before a call
-- and after it.
use Rattle.std.specs.Prelude.{Result}
use Rattle.desk.specs.Indexes.{Reads}
use Rattle.desk.specs.declared.index.Index.{Ghosts}
use Rattle.desk.specs.declared.index.IndexFault.{IndexFault}

-- the call, with this result, only reads the index
abbrev pub OnlyReads : {I A : Type 0} → Ghosts I → Result A IndexFault → I → I → Type 0
OnlyReads index result old new = Reads index.stands index.may_leave index.is_reliable index.may_refuse result old new
