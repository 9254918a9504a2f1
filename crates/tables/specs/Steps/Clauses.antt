-- The forms of clauses that many functions have, over what a connection shows before a call and
-- after it.
use Rattle.std.specs.Prelude.{◌≡◌, ℕ, ℤ, Bool, false, IsTrue, List, Some, Result, OnOk, is_ok}
use Rattle.std.specs.Bool.{OnTrue}
use Rattle.std.specs.Borrow.{MutBor}
use Rattle.sqlite.specs.State as sqlite
use Rattle.sqlite.specs.Held.{Held, state}
use Rattle.sqlite_trees.specs.declared.store.Store.{Ghosts}
use Rattle.sqlite_trees.specs.Tree.{Trees}
use Rattle.dump.specs.Progress.{DumpValue}
use Rattle.machine.specs.State.{State}
use Rattle.tables.specs.Contents.{HasSlot}
use Rattle.tables.specs.Schema.{schema_two}
use Rattle.tables.specs.Stands.{IsAsBefore, StandsFor}
use Rattle.tables.specs.Steps.Puts.{Steps}
use Rattle.tables.specs.Steps.Selected.{Looks}
use Rattle.tables.specs.declared.slots.Part.TheVariants.{Dump}

-- this holds of each state that the tables represented, where what was read is what was written
abbrev pub OfState : {S : Type 0} → Ghosts S → Held S → Held S → (State → Type 0) → Type 0
OfState store old new P =
    sqlite.HasCleanDisk (state store new) → (state store old).now.schema ≡ schema_two → (m : State) → StandsFor (state store old).now.trees m → P m

-- this holds of the dump that has this slot
abbrev pub OfDump : {S : Type 0} → Ghosts S → Held S → Held S → ℤ → (DumpValue → Type 0) → Type 0
OfDump store old new slot P = OfState store old new
    (λ m. (project : List ℕ) (dump : DumpValue) → HasSlot (state store old).now.trees slot project Dump → m.dump project ≡ Some dump → P dump)

-- What selections that succeeded, or failed, leave of a connection: they wrote nothing.
pub record Reads (succeeded : Bool) (old new : sqlite.State) : Type 0 where
  -- where they succeeded, what is shown and what is committed are as before
  pub kept : sqlite.HasCleanDisk new → OnTrue succeeded (IsAsBefore old new)
  -- and where the store refused, nothing more may be left than before
  pub looks : Looks old new
  -- they begin no transaction
  pub mode : old.in_transaction ≡ false → new.in_transaction ≡ false

-- the call, with this result, only reads
abbrev pub OnlyReads : {S A E : Type 0} → Ghosts S → Result A E → Held S → Held S → Type 0
OnlyReads store result old new = Reads (is_ok result) (state store old) (state store new)

-- within a transaction, where the call succeeded, such a step led from the tables before to those
-- after
abbrev pub Edits : {S A E : Type 0} → Ghosts S → Result A E → MutBor (Held S) → MutBor (Held S) → (Trees → Trees → Type 0) → Type 0
Edits store result old new Step =
    sqlite.HasCleanDisk (state store new.now) → IsTrue old.now.in_transaction → (state store old.now).now.schema ≡ schema_two
    → OnOk result (Steps Step (state store old.now) (state store new.now))

-- What statements within a transaction leave of its connection, also where they fail: they commit
-- nothing.
pub record CommitsNothing {S : Type 0} (store : Ghosts S) (old new : MutBor (Held S)) : Type 0 where
  -- it's the same connection
  pub same_reference : new.ghost_name ≡ old.ghost_name
  -- what is committed is as before
  pub kept : sqlite.HasCleanDisk (state store new.now) → sqlite.KeepsCommit (state store old.now) (state store new.now)
  -- and nothing more may be left than before
  pub survives : sqlite.Survives (state store old.now) (state store new.now) (λ _. ⊥)

-- What a transaction that was begun and ended leaves of its connection, also where it fails.
pub record EndsTransaction {A E : Type 0} (result : Result A E) (old new : sqlite.State) : Type 0 where
  -- it's in no transaction
  pub mode : new.in_transaction ≡ false
  -- where the disk has returned what was written so far, it had before
  pub clean : sqlite.HasCleanDisk new → sqlite.HasCleanDisk old
  -- where the transaction was committed, the store still serves
  pub is_open : sqlite.HasCleanDisk new → OnOk result (IsTrue new.is_open)
