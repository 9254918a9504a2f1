-- Which states of the index the tables represent.
use Rattle.std.specs.Prelude.{◌≡◌, ⊤, ℕ, List, [], map, Option, Some, None, option_map, Result, Ok, IsTrue, IfErr, OnOk}
use Rattle.sqlite_value.specs.Order.{Row}
use Rattle.sqlite_schema.specs.declared.schema.Schema.{Schema}
use Rattle.sqlite_trees.specs.Tree.{Trees}
use Rattle.sqlite.specs.State as sqlite
use Rattle.positions.specs.Position.{IsPosition}
use Rattle.positions.specs.Span.{SpanValue}
use Rattle.lsif.specs.declared.profile.Profile.TheVariants.{One}
use Rattle.lsif.specs.Element.{IdValue, range}
use Rattle.dump.specs.Graph.{vertex_at}
use Rattle.dump.specs.Fault.{IsFaultless}
use Rattle.dump.specs.Progress.{DumpValue}
use Rattle.tags.specs.Values.{TagValue}
use Rattle.flatten.specs.Flat.{RowsValue, IsFlat}
use Rattle.tables.specs.Columns.{dump_rows, tag_rows}
use Rattle.tables.specs.Contents.{Contents, Replies, Keeps, KeepsOne}
use Rattle.tables.specs.Databases.{IsListed}
use Rattle.tables.specs.Fault.{IsStoreFault}
use Rattle.tables.specs.Schema.{IsSchemaOne, schema_two}
use Rattle.machine.specs.State.{State, accepted_text}
use Rattle.tables.specs.TableTrees.{more_tree}
use Rattle.tables.specs.declared.fault.TablesFault.{TablesFault}
use Rattle.tables.specs.declared.slots.Part.TheVariants.{Dump, Tags}

-- the dump has no fault, its ranges have positions within their bounds, and these are the rows that
-- its walks lead to
pub record IsDump (dump : DumpValue) (rows : ℕ → List Row) : Type 0 where
  pub faultless : IsFaultless (map Ok dump.elements)
  pub located : (r : IdValue) (span : SpanValue) → vertex_at dump.elements r ≡ Some (range span) → IsPosition span.start × IsPosition span.«end»
  pub flat : RowsValue
  pub is_flat : IsFlat dump.elements flat
  pub are_rows : rows ≡ dump_rows dump.profile flat

abbrev pub AreTags : List TagValue → (ℕ → List Row) → Type 0
AreTags tags rows = rows ≡ tag_rows tags

-- nothing for nothing, and rows of it for something
abbrev pub Each : {X : Type 0} → (X → (ℕ → List Row) → Type 0) → Option X → Option (ℕ → List Row) → Type 0
Each HasRows None None = ⊤
Each HasRows None (Some rows) = ⊥
Each HasRows (Some x) None = ⊥
Each HasRows (Some x) (Some rows) = HasRows x rows

-- the texts of the kept replies
abbrev pub replies_of : State → Replies
replies_of m project key = option_map accepted_text (m.kept project key)

-- The database lists the tables of a format. They keep rows for each part, which are those of the
-- state's dumps and tags, and its replies: rows as the format keeps them.
pub record StandsIn (ListsTables : Trees → Type 0) (KeepsRows : Trees → Contents → Replies → Type 0) (IsDumpOf : DumpValue → (ℕ → List Row) → Type 0)
    (db : Trees) (m : State) : Type 0 where
  pub listed : ListsTables db
  pub parts : Contents
  pub keeps : KeepsRows db parts (replies_of m)
  pub dumps : (project : List ℕ) → Each IsDumpOf (m.dump project) (parts project Dump)
  pub tags : (project : List ℕ) → Each AreTags (m.tags project) (parts project Tags)

abbrev pub StandsFor : Trees → State → Type 0
StandsFor = StandsIn (IsListed schema_two) Keeps IsDump

-- between calls the tables show what is committed, and represent the state
pub record Rests (s : sqlite.State) (m : State) : Type 0 where
  pub schema_is : s.now.schema ≡ schema_two
  pub settled : s.committed ≡ s.now
  pub stands : StandsFor s.now.trees m

-- ---- what an opening finds

-- a new connection shows a database that represents the state, as a crash left it
pub record Finds (s : sqlite.State) (m : State) : Type 0 where
  pub opens : sqlite.Opens s
  pub live : sqlite.IsLive s
  pub stands : StandsFor s.now.trees m

-- ---- format 1

-- the dump is of profile 1, and nothing in it has a declaration or an implementation: format 1 has
-- no place for these
pub record IsDumpOne (dump : DumpValue) (rows : ℕ → List Row) : Type 0 where
  pub is_dump : IsDump dump rows
  pub by_one : dump.profile ≡ One
  pub none_more : rows more_tree ≡ []

-- the database lists the tables of format 1, with or without the indexes of format 2
abbrev pub IsListedOne : Trees → Type 0
IsListedOne db = (schema : Schema) × IsSchemaOne schema × IsListed schema db

abbrev pub StandsForOne : Trees → State → Type 0
StandsForOne = StandsIn IsListedOne KeepsOne IsDumpOne

-- tables of format 1 show what is committed, and represent the state
pub record RestsOne (s : sqlite.State) (m : State) : Type 0 where
  pub schema_is : IsSchemaOne s.now.schema
  pub settled : s.committed ≡ s.now
  pub stands : StandsForOne s.now.trees m

-- a new connection shows a database of format 1 that represents the state
pub record FindsOne (s : sqlite.State) (m : State) : Type 0 where
  pub opens : sqlite.Opens s
  pub live : sqlite.IsLive s
  pub stands : StandsForOne s.now.trees m

-- ---- changes

-- what is shown and what is committed are as before
abbrev pub IsAsBefore : sqlite.State → sqlite.State → Type 0
IsAsBefore old new = (new.now ≡ old.now) × (new.committed ≡ old.committed)

-- What a selection leaves of the tables, also where it refuses: it wrote nothing.
pub record OnlySelects {A : Type 0} (result : Result A TablesFault) (old new : sqlite.State) : Type 0 where
  -- where the store still serves, tables that rested for a state are as before
  pub same : sqlite.HasCleanDisk new → IsTrue new.is_open → (m : State) → Rests old m → IsAsBefore old new
  -- where the disk has returned what was written so far, it had before
  pub clean : sqlite.HasCleanDisk new → sqlite.HasCleanDisk old
  -- and a crash may leave no more than before
  pub survives : (m : State) → Rests old m → sqlite.Survives old new (λ _. ⊥)
  -- it refuses by S01 or S02 alone
  pub fault : IfErr result IsStoreFault

-- What each change of the tables leaves, also where it refuses.
pub record MayChange {A : Type 0} (result : Result A TablesFault) (old new : sqlite.State) : Type 0 where
  -- where the disk has returned what was written so far, it had before
  pub clean : sqlite.HasCleanDisk new → sqlite.HasCleanDisk old
  -- where the change was made, the store still serves
  pub is_open : sqlite.HasCleanDisk new → OnOk result (IsTrue new.is_open)
  -- it refuses by S01 or S02 alone
  pub fault : IfErr result IsStoreFault
