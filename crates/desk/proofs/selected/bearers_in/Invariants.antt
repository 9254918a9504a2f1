use Rattle.std.proofs.Common.{map}
use Rattle.machine.specs.Selections.{bearer_found}
use Rattle.desk.specs.Steps.Selected.{FoundSoFar}
use Rattle.desk.proofs.selected.bearers_in.Given as goal

abbrev pub invariant-loop-name : goal.invariant-loop-name
invariant-loop-name l = FoundSoFar l.key l.projects.entries l.name-iterator (map bearer_found l.found.items)
