-- A database with the tables of a format.
use Rattle.std.specs.Prelude.{◌≡◌, ◌≢◌, ◌↔◌, ℕ, ℤ, pos, List, [], ◌∷◌, map, filter, codes}
use Rattle.std.specs.List.{AllByRecursion, list_all}
use Rattle.sqlite_value.specs.declared.value.Value.TheVariants.{Null, Int}
use Rattle.sqlite_value.specs.Order.{Row, column}
use Rattle.sqlite_value.specs.declared.keys.Collation.TheVariants.{Binary}
use Rattle.sqlite_sql.specs.declared.ops.BinaryOp.TheVariants.{Compare}
use Rattle.sqlite_sql.specs.declared.ops.CompareOp.TheVariants.{Eq}
use Rattle.sqlite_sql.specs.Term.{Term, eval_all, holds, lit, col, op2}
use Rattle.sqlite_rules.specs.Lists.{Has}
use Rattle.sqlite.specs.Effect.{Database}
use Rattle.sqlite.specs.State.{State, Shown}
use Rattle.sqlite_schema.specs.declared.schema.Schema.{Schema}
use Rattle.sqlite_schema.specs.declared.schema.Table.{Table}
use Rattle.sqlite_trees.specs.Tree.{Trees, IsTable, rowid}
use Rattle.sqlite_trees.specs.Objects.{catalog_tree}
use Rattle.sqlite_catalog.specs.Listing.{Lists}
use Rattle.tables.specs.Schema.{IsSchemaOne, schema_one, schema_two}
use Rattle.tables.specs.TableTrees.{format_tree, slot_tree, part_profile_tree, more_tree}

-- the rows that pass the tests, and what is shown of each
abbrev pub chosen : List Term → List Term → Row → List Row → List Row
chosen tests shown params rows = map (λ r. eval_all shown (params ∷ r ∷ [])) (filter (λ r. list_all (holds (params ∷ r ∷ [])) tests) rows)

-- the one row of the table of versions: a key's own column is kept as NULL
abbrev pub version_row : ℕ → List Row
version_row n = (Int (pos n) ∷ Null ∷ []) ∷ []

-- the database's list of what it has, `sqlite_schema`, is that of the schema: so an opening finds
-- this schema in it
unfoldable pub IsListed : Schema → Trees → Type 0
IsListed schema db = Lists (db catalog_tree) schema

-- the tables of format 2, of which `format` alone has a row
pub record IsMade (db : Database) : Type 0 where
  pub schema_is : db.schema ≡ schema_two
  pub version : db.trees format_tree ≡ version_row 2
  pub others : AllByRecursion (λ t. t.tree ≢ format_tree → db.trees t.tree ≡ []) schema_two.tables
  pub listed : IsListed schema_two db.trees

-- the tables of format 1, or 2, with one row of that version
pub record IsFormatOne (db : Database) : Type 0 where
  pub schema_is : IsSchemaOne db.schema
  pub version : db.trees format_tree ≡ version_row 1

pub record IsFormatTwo (db : Database) : Type 0 where
  pub schema_is : db.schema ≡ schema_two
  pub version : db.trees format_tree ≡ version_row 2

-- the table in this tree has a row with these columns
abbrev pub Holds : Trees → ℕ → Row → Type 0
Holds db tree values = (id : ℤ) × Has (db tree) (Int id ∷ values)

-- `SELECT version FROM format` shows one row, which begins with this number
abbrev pub ShowsVersion : State → State → ℕ → Type 0
ShowsVersion old new n = (row : Row) × Shown (codes "SELECT version FROM format") [] old new (row ∷ []) × (column row 0 ≡ Int (pos n))

-- each row has a number
abbrev pub AreNumbered : List Row → Type 0
AreNumbered rows = (row : Row) → Has rows row → (id : ℤ) × (rowid row ≡ Int id)

-- the rowids rise, and each is a number
pub record IsOrdered (rows : List Row) : Type 0 where
  pub rises : IsTable rows
  pub numbered : (row : Row) → Has rows row → (id : ℤ) × (rowid row ≡ Int id)

abbrev pub AllOrdered : Schema → Trees → Type 0
AllOrdered schema db = (t : Table) → Has schema.tables t → IsOrdered (db t.tree)

-- `part = 1`, for a row of `slot`: it is the slot of a dump
abbrev pub dump_tests : List Term
dump_tests = op2 (Compare Eq Binary) (col 1 3) (lit (Int (pos 1))) ∷ []

-- `id, 1`: what a row of `part_profile` has of such a slot
abbrev pub profile_shown : List Term
profile_shown = col 1 0 ∷ lit (Int (pos 1)) ∷ []

-- Format 2 is in the place of format 1: each of its tables but the versions has its rows; the rows
-- of `part_profile` are those of `SELECT id, 1 FROM slot WHERE part = 1`, so each dump has profile
-- 1; and `more` has no row.
pub record WasUpgraded (old new : Trees) : Type 0 where
  pub version : new format_tree ≡ version_row 2
  pub others : AllByRecursion (λ t. t.tree ≢ format_tree → new t.tree ≡ old t.tree) schema_one.tables
  pub profiles : AreNumbered (old slot_tree) → (row : Row) → Holds new part_profile_tree row ↔ Has (chosen dump_tests profile_shown [] (old slot_tree)) row
  pub ordered : AreNumbered (old slot_tree) → IsOrdered (new part_profile_tree)
  pub more : new more_tree ≡ []
  pub listed : IsListed schema_two new

pub record IsUpgraded (old new : Database) : Type 0 where
  pub schema_is : new.schema ≡ schema_two
  pub rows : WasUpgraded old.trees new.trees

-- a database that `make` made, as a crash finds it
abbrev pub WasMade : Trees → Type 0
WasMade db = (db format_tree ≡ version_row 2) × AllByRecursion (λ t. t.tree ≢ format_tree → db t.tree ≡ []) schema_two.tables × IsListed schema_two db
