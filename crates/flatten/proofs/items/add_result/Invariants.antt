use Rattle.std.proofs.Common.{map, take}
use Rattle.flatten.specs.Steps.Items.{AreNumberedRows, found_value}
use Rattle.flatten.specs.Steps.Tables.{Adds, OfOne}
use Rattle.flatten.proofs.ItemRows.{IsRowFor}
use Rattle.flatten.proofs.items.add_result.Given as goal

abbrev pub invariant-loop-other : goal.invariant-loop-other
invariant-loop-other l =
    Adds (map found_value l.initial.rows.items) (OfOne (IsRowFor l.number l.items) (take l.other-index l.other-items)) (map found_value l.rows.items)
    × AreNumberedRows l.rows.items
