use Rattle.std.proofs.Common.{map, take}
use Rattle.std.specs.List.{All}
use Rattle.flatten.specs.Flat.{IsRangeRow}
use Rattle.flatten.specs.Rows.{range_value}
use Rattle.flatten.specs.Steps.Ranges.{AreFoundRanges}
use Rattle.flatten.proofs.ranges.range_rows.Given as goal

abbrev pub invariant-loop-row : goal.invariant-loop-row
invariant-loop-row l =
    let rows = map range_value l.row-items in
    AreFoundRanges l.dump.elements rows × All (IsRangeRow l.dump.elements) (take l.row-index rows)
