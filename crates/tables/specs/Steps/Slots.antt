-- The slots that are found.
use Rattle.std.specs.Prelude.{◌≡◌, ⊤, ℕ, ℤ, List, Option, Some, None, is_some, string_bytes}
use Rattle.sqlite_value.specs.Order.{Row}
use Rattle.sqlite_trees.specs.Tree.{Trees}
use Rattle.sqlite_rules.specs.Lists.{Has}
use Rattle.sqlite.specs.State as sqlite
use Rattle.tables.specs.Contents.{Contents, HasSlot, Keeps, Replies, slot_row}
use Rattle.tables.specs.Schema.{schema_two}
use Rattle.tables.specs.Stands.{StandsFor}
use Rattle.machine.specs.State.{State}
use Rattle.machine.specs.Projects.{ProjectValue}
use Rattle.tables.specs.TableTrees.{slot_tree}
use Rattle.tables.specs.declared.parts.ProjectSlot.{ProjectSlot}
use Rattle.tables.specs.declared.slots.Part.{Part}
use Rattle.tables.specs.declared.slots.Part.TheVariants.{Dump}

-- the slot of a part that is there, or none of one that isn't
abbrev pub IsSlotOf : Trees → Contents → List ℕ → Part → Option ℤ → Type 0
IsSlotOf db parts project part None = parts project part ≡ None
IsSlotOf db parts project part (Some id) = Has (db slot_tree) (slot_row id project part)

-- the slot of the project's dump, or none where it has no dump
abbrev pub IsDumpSlot : Trees → State → List ℕ → Option ℤ → Type 0
IsDumpSlot db m project None = m.dump project ≡ None
IsDumpSlot db m project (Some id) = HasSlot db id project Dump

-- a slot that is known is that of its project's dump, where the tables represent a state
abbrev pub IsKnown : sqlite.State → Option ProjectSlot → Type 0
IsKnown s None = ⊤
IsKnown s (Some slot) = sqlite.HasCleanDisk s → s.now.schema ≡ schema_two → (m : State) → StandsFor s.now.trees m
    → HasSlot s.now.trees slot.id (string_bytes slot.project) Dump

-- a slot that is named is of this project, where the tables keep the parts
abbrev pub IsNamed : sqlite.State → Option ProjectSlot → Type 0
IsNamed s None = ⊤
IsNamed s (Some slot) = sqlite.HasCleanDisk s → s.now.schema ≡ schema_two → (parts : Contents) (replies : Replies) → Keeps s.now.trees parts replies
    → (project : List ℕ) (part : Part) → HasSlot s.now.trees slot.id project part → string_bytes slot.project ≡ project

-- the project has some part
abbrev pub HasPart : Contents → List ℕ → Type 0
HasPart parts project = (part : Part) × (rows : ℕ → List Row) × (parts project part ≡ Some rows)

-- the value says which parts the project has
abbrev pub IsTold : State → ProjectValue → Type 0
IsTold m p = (p.dump ≡ is_some (m.dump p.name)) × (p.tags ≡ is_some (m.tags p.name))
