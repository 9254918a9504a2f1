-- What is known of the results of a line.
use Rattle.std.specs.Prelude.{◌≡◌, ◌⊎◌, ℕ, true, ◌∷◌, is_some, map}
use Rattle.std.specs.List.{list_any}
use Rattle.sqlite_value.specs.Order.{Row}
use Rattle.dump.specs.Progress.{DumpValue}
use Rattle.flatten.specs.Flat.{ResultsValue, RangeRowValue, BearerRowValue, IsRangeRow, IsBearerRow}
use Rattle.flatten.specs.Rows.{results_value}
use Rattle.tables.specs.Kinds.{more_kinds}
use Rattle.tables.specs.Columns.{number, kind_columns}
use Rattle.tables.specs.declared.more.MoreRow.{MoreRow}

-- a range or a bearer of the dump, at this line, has these first results
abbrev pub IsKnown : DumpValue → ℕ → ResultsValue → Type 0
IsKnown dump line results =
    ((r : RangeRowValue) × IsRangeRow dump.elements r × (r.line ≡ line) × (r.results ≡ results))
    ⊎ ((b : BearerRowValue) × IsBearerRow dump.elements b × (b.line ≡ line) × (b.results ≡ results))

-- a line with its results, of which `more` has those of its kinds
pub record MoreValue : Type 0 where
  pub line : ℕ
  pub results : ResultsValue

abbrev pub more_values : MoreValue → Row
more_values v = number v.line ∷ kind_columns more_kinds v.results

abbrev pub more_value : MoreRow → MoreValue
more_value row = record { line = row.line; results = results_value row.results }

-- the line has these results, and `more` a row of it
pub record IsMore (dump : DumpValue) (v : MoreValue) : Type 0 where
  pub known : IsKnown dump v.line v.results
  pub some : list_any is_some (map v.results more_kinds) ≡ true
