-- What a database holds between the statements of a batch.
use Rattle.std.specs.Prelude.{◌≡◌, []}
use Rattle.std.specs.List.{AllByRecursion}
use Rattle.sqlite_schema.specs.declared.schema.Schema.{Schema}
use Rattle.sqlite.specs.Effect.{Database}
use Rattle.sqlite_trees.specs.Tree.{Trees}

-- the tables are those of a schema, and their rows those of `base`
pub record IsKept (schema : Schema) (base : Trees) (db : Database) : Type 0 where
  pub schema_is : db.schema ≡ schema
  pub rows : AllByRecursion (λ t. db.trees t.tree ≡ base t.tree) schema.tables

abbrev pub no_rows : Trees
no_rows t = []
