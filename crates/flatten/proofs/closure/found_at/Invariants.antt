use Rattle.std.proofs.Common.{[], take}
use Rattle.flatten.specs.Steps.Found.{Gains}
use Rattle.flatten.proofs.closure.found_at.Given as goal

abbrev pub invariant-loop-start : goal.invariant-loop-start
invariant-loop-start l = Gains [] (take l.start-index l.starts) l.found
