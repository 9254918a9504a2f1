-- How the rows of a dump come one after the other.
use Rattle.std.specs.Prelude.{◌≡◌, ◌++◌, ◌∷◌, List}
use Rattle.lsif.specs.Element.{ElementValue}
use Rattle.flatten.specs.declared.rows.Rows.{Rows}
use Rattle.flatten.specs.declared.rows.BearerRow.{BearerRow}
use Rattle.flatten.specs.Flat.{IsFlat}
use Rattle.flatten.specs.Rows.{rows_value}

-- the rows are those of a dump, and this bearer comes right behind these
pub record IsNext (rows : Rows) (earlier : List BearerRow) (bearer : BearerRow) : Type 0 where
  pub elements : List ElementValue
  pub is_flat : IsFlat elements (rows_value rows)
  pub later : List BearerRow
  pub are : rows.bearers.items ≡ earlier ++ bearer ∷ later
