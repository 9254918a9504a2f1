-- What an opening and a migration of the tables answer. Each gives back the tables, or a fault with
-- the connection; what either shows is a state of `sqlite`'s.
use Rattle.std.specs.Prelude.{◌≡◌, ◌≢◌, ◌⊎◌, Bool, Result, IfOk, IfErr}
use Rattle.sqlite.specs.State as sqlite
use Rattle.sqlite.specs.State.{HasCleanDisk}
use Rattle.tables.specs.declared.fault.TablesFault.{TablesFault}
use Rattle.tables.specs.declared.fault.TablesFault.TheVariants.{Foreign}
use Rattle.tables.specs.Fault.{IsStoreFault}
use Rattle.tables.specs.Stands.{Rests}
use Rattle.machine.specs.State.{State}

-- what is known of the state that is shown afterwards, with the tables or with a fault
abbrev pub AfterOpening : {C : Type 0} → (C → sqlite.State) → Result C (TablesFault × C) → (sqlite.State → Type 0) → Type 0
AfterOpening shown result Said = IfOk result (λ c. Said (shown c)) × IfErr result (λ e. Said (shown e.1))

abbrev pub AfterMigration : {C : Type 0} → (C → sqlite.State) → Result (C × Bool) (TablesFault × C) → (sqlite.State → Type 0) → Type 0
AfterMigration shown result Said = IfOk result (λ r. Said (shown r.0)) × IfErr result (λ e. Said (shown e.1))

-- the tables rest for the state, or the store refused: where the disk returned what was written to
-- it
abbrev pub Gives : {C : Type 0} → (C → sqlite.State) → Result C (TablesFault × C) → State → Type 0
Gives shown result m = IfOk result (λ c. HasCleanDisk (shown c) → Rests (shown c) m) × IfErr result (λ e. HasCleanDisk (shown e.1) → IsStoreFault e.0)

-- the same of a migration, which says whether it made format 2 of format 1
abbrev pub Migrates : {C : Type 0} → (C → sqlite.State) → Result (C × Bool) (TablesFault × C) → Bool → State → Type 0
Migrates shown result is_migrated m = IfOk result (λ r. HasCleanDisk (shown r.0) → (r.1 ≡ is_migrated) × Rests (shown r.0) m)
    × IfErr result (λ e. HasCleanDisk (shown e.1) → IsStoreFault e.0)

-- tables of format 1 aren't opened, and aren't taken for those of something else
abbrev pub RefusesOld : {C : Type 0} → (C → sqlite.State) → Result C (TablesFault × C) → Type 0
RefusesOld shown result = IfOk result (λ c. HasCleanDisk (shown c) → ⊥) × IfErr result (λ e. HasCleanDisk (shown e.1) → e.0 ≢ Foreign)

-- what was committed is shown, and is committed still
abbrev pub IsRolledBack : sqlite.State → sqlite.State → Type 0
IsRolledBack old new = (new.now ≡ old.committed) × (new.committed ≡ old.committed)

-- what was committed is committed still; what is shown is as before, or that
abbrev pub StaysCommitted : sqlite.State → sqlite.State → Type 0
StaysCommitted old new = (new.committed ≡ old.committed) × ((new.now ≡ old.now) ⊎ (new.now ≡ old.committed))
