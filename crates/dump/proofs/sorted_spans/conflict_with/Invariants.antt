use Rattle.std.proofs.Common.{◌≡◌, drop}
use Rattle.dump.specs.Contained.{any_conflicts}
use Rattle.dump.specs.Steps.Spans.{joined}
use Rattle.dump.proofs.sorted_spans.conflict_with.Given as goal

abbrev pub invariant-loop-list : goal.invariant-loop-list
invariant-loop-list l = any_conflicts l.targets (joined (drop l.list-index l.lists)) ≡ any_conflicts l.targets (joined l.lists)
