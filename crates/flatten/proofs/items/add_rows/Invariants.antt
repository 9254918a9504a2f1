use Rattle.std.proofs.Common.{◌≡◌, ◌++◌, map, drop}
use Rattle.flatten.specs.Steps.Items.{AreNumberedRows, found_value, row_of}
use Rattle.flatten.proofs.items.add_rows.Given as goal

abbrev pub invariant-loop-item : goal.invariant-loop-item
invariant-loop-item l =
    (map found_value l.rows.items ++ map (row_of l.number l.role) (drop l.item-index l.items) ≡ map found_value l.initial.rows.items ++ map (row_of l.number l.role) l.items)
    × AreNumberedRows l.rows.items
