use Rattle.std.proofs.Common.{◌≡◌, ◌++◌, map, drop}
use Rattle.flatten.specs.Rows.{item_value}
use Rattle.flatten.specs.Steps.Items.{found_value}
use Rattle.flatten.proofs.items.add_item_rows.Given as goal

abbrev pub invariant-loop-item : goal.invariant-loop-item
invariant-loop-item l = map item_value l.rows.items ++ map found_value (drop l.item-index l.found) ≡ map item_value l.initial.rows.items ++ map found_value l.found
