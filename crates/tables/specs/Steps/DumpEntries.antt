-- The rows of dumps as entries.
use Rattle.std.specs.Prelude.{◌≡◌, ℤ, List, ℕ, ◌∷◌, Option, Some, None}
use Rattle.std.specs.List.{AllByRecursion}
use Rattle.sqlite_value.specs.declared.value.Value.{Value}
use Rattle.sqlite_value.specs.declared.value.Value.TheVariants.{Int}
use Rattle.sqlite_value.specs.Order.{Row}
use Rattle.sqlite_trees.specs.Tree.{Trees}
use Rattle.sqlite_rules.specs.Lists.{Has}
use Rattle.dump.specs.Progress.{DumpValue}
use Rattle.tables.specs.Contents.{HasSlot}
use Rattle.machine.specs.State.{State}
use Rattle.tables.specs.declared.slots.Part.TheVariants.{Dump}

-- an entry under the slot of its dump
pub record DumpEntry (E : Type 0) : Type 0 where
  pub slot : ℤ
  pub value : E

-- it's one of the dump that has this slot
pub record IsOfDump {E : Type 0} (Of : DumpValue → E → Type 0) (db : Trees) (m : State) (e : DumpEntry E) : Type 0 where
  pub project : List ℕ
  pub dump : DumpValue
  pub slot : HasSlot db e.slot project Dump
  pub has : m.dump project ≡ Some dump
  pub is : Of dump e.value

abbrev pub Entries : {E : Type 0} → (DumpValue → E → Type 0) → Trees → State → Type 0
Entries {E} Of db m = (e : DumpEntry E) × IsOfDump Of db m e

-- its columns in its table, after the row's number
abbrev pub entry_values : {E : Type 0} → (E → Row) → (Of : DumpValue → E → Type 0) → (db : Trees) → (m : State) → Entries Of db m → Row
entry_values columns Of db m e = Int e.0.slot ∷ columns e.0.value

-- the answer is exactly what is shown of the entries of a dump that match
pub record SelectsOf {E : Type 0} (shown : E → Row) (Of Matches : E → Type 0) (rows : List Row) : Type 0 where
  pub each : AllByRecursion (λ r. (e : E) × Of e × Matches e × (r ≡ shown e)) rows
  pub all : (e : E) → Of e → Matches e → Has rows (shown e)

-- the value shows an entry of a dump that matches; or there is none
abbrev pub ShowsOneOf : {E X : Type 0} → (E → Row) → (E → Type 0) → (E → Type 0) → (X → List Value) → Option X → Type 0
ShowsOneOf {E} shown Of Matches columns None = (e : E) → Of e → Matches e → ⊥
ShowsOneOf {E} shown Of Matches columns (Some x) = (e : E) × Of e × Matches e × (columns x ≡ shown e)
