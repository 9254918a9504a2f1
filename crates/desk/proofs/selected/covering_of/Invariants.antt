use Rattle.std.proofs.Common.{◌≡◌, ◌++◌, map, drop}
use Rattle.machine.specs.Selections.{range_found}
use Rattle.desk.specs.Steps.Selected.{range_found_of}
use Rattle.desk.proofs.selected.covering_of.Given as goal

abbrev pub invariant-loop-row : goal.invariant-loop-row
invariant-loop-row l = map range_found l.found.items ++ map (range_found_of l.request) (drop l.row-index l.row-items) ≡ map (range_found_of l.request) l.row-items
