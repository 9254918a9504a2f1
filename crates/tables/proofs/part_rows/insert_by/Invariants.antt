use Rattle.std.proofs.Common.{◌≡◌, ◌∷◌, take}
use Rattle.std.specs.List.{flat_map}
use Rattle.sqlite_value.specs.declared.value.Value.TheVariants.{Int}
use Rattle.sqlite.specs.Values.{bound}
use Rattle.tables.proofs.part_rows.insert_by.Given as goal

abbrev pub invariant-loop-row : goal.invariant-loop-row
invariant-loop-row g l = bound l.values.items ≡ flat_map (λ row. Int l.fn.slot ∷ g.R.PartRow.columns row) (take l.row-index l.rows)
