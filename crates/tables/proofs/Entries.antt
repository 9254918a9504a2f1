-- The rows of the tables as entries.
use Rattle.std.proofs.Common.{◌≡◌, ℤ, [], ◌∷◌, subst}
use Rattle.sqlite_value.specs.Order.{Row}
use Rattle.sqlite_value.specs.declared.value.Value.TheVariants.{Int}
use Rattle.sqlite_schema.specs.declared.schema.Table.{Table}
use Rattle.sqlite_trees.specs.Tree.{Trees, rowid}
use Rattle.sqlite_rules.specs.Lists.{Has}
use Rattle.tables.specs.Databases.{Holds}
use Rattle.tables.specs.Schema.{schema_two}
use Rattle.tables.specs.Contents.{Contents, Replies, Keeps}
use Rattle.tables.specs.Steps.Selected.{AreTyped}

-- a row with a number begins with it
row_shape : (id : ℤ) (y : Row) → rowid y ≡ Int id → (row : Row) × (y ≡ Int id ∷ row)
row_shape id [] e = absurd cc
row_shape id (v ∷ row) e = (row, cc)

-- the rows of a table have the values of entries where what it holds does
pub typed_as : {E : Type 0} (values : E → Row) (db : Trees) (parts : Contents) (replies : Replies) → Keeps db parts replies → (table : Table) → Has schema_two.tables table
    → ((row : Row) → Holds db table.tree row → (e : E) × (row ≡ values e)) → AreTyped values (db table.tree)
typed_as values db parts replies is table owns entry row h =
    let id = (is.ordered table owns).numbered row h in
    let shape = row_shape id.0 row id.1 in
    let e = entry shape.0 (id.0, subst (Has (db table.tree)) shape.1 h) in
    (id.0, e.0, subst (λ (x : Row). row ≡ Int id.0 ∷ x) e.1 shape.1)
