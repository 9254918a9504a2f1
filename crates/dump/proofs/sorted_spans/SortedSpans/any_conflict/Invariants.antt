use Rattle.std.proofs.Common.{◌≡◌, drop}
use Rattle.dump.specs.Contained.{any_conflicts}
use Rattle.dump.proofs.sorted_spans.SortedSpans.any_conflict.Given as goal

abbrev pub invariant-loop-target : goal.invariant-loop-target
invariant-loop-target l = any_conflicts (drop l.target-index l.targets) l.self ≡ any_conflicts l.targets l.self
