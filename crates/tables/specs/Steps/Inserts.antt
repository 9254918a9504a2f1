-- The statements that insert rows.
use Rattle.std.specs.Prelude.{◌≡◌, ◌/◌, ℕ, ℤ, List, [], ◌∷◌, length, map, slice_get, false, Some}
use Rattle.std.specs.List.{flat_map}
use Rattle.sqlite_value.specs.declared.value.Value.TheVariants.{Null, Int}
use Rattle.sqlite_value.specs.Order.{Row}
use Rattle.sqlite_sql.specs.Term.{Term}
use Rattle.sqlite_schema.specs.declared.schema.Table.{Table}
use Rattle.sqlite_schema.specs.declared.command.Source.TheVariants.{Values}
use Rattle.sqlite_schema.specs.declared.command.Command.TheVariants.{Insert}
use Rattle.sqlite_rules.specs.Cast.{cast_row}
use Rattle.sqlite.specs.Effect.{value_rows}
use Rattle.sqlite.specs.Given.{IsPlain}
use Rattle.sqlite.specs.Listing.{understood}
use Rattle.sqlite.proofs.Callers.{command_of}
use Rattle.tables.specs.Schema.{schema_two}

-- a table with no AUTOINCREMENT and no default that reads the time
abbrev pub plainly : Table → Table
plainly t = record t { stamps = record { places = []; terms = []; formats = [] }; is_counted = false }

-- The statement of this text is an INSERT of values into the table of this tree. Of these values it
-- makes these rows, at least one, which the table takes as they are, each with a rowid that is
-- chosen for it.
pub record Inserts (text : List ℕ) (tree : ℕ) (values : Row) (rows : List Row) : Type 0 where
  pub at : ℕ
  pub table : Table
  pub terms : List Term
  pub width : ℕ
  pub is : command_of (understood schema_two text) ≡ Insert at (Values terms width)
  pub plain : IsPlain (understood schema_two text)
  pub placed : slice_get schema_two.tables at ≡ Some (plainly table)
  pub of_tree : table.tree ≡ tree
  pub first : Row
  pub rest : List Row
  pub some : rows ≡ first ∷ rest
  pub taken : map (cast_row (plainly table)) (value_rows values width (length terms / width) terms) ≡ map (λ v. Null ∷ v) rows

-- it inserts one row, of its values
pub record InsertsOne {X : Type 0} (text : List ℕ) (tree : ℕ) (columns : X → Row) : Type 0 where
  pub one : (slot : ℤ) (row : X) → Inserts text tree (Int slot ∷ columns row) ((Int slot ∷ columns row) ∷ [])

-- it inserts eight rows, of the values of one after the other
pub record InsertsEight {X : Type 0} (text : List ℕ) (tree : ℕ) (columns : X → Row) : Type 0 where
  pub eight : (slot : ℤ) (rows : List X) → length rows ≡ 8
      → Inserts text tree (flat_map (λ row. Int slot ∷ columns row) rows) (map (λ row. Int slot ∷ columns row) rows)
