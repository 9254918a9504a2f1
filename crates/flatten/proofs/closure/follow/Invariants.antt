use Rattle.std.proofs.Common.{◌-◌, ◌^◌}
use Rattle.flatten.proofs.Closures.{Going}
use Rattle.flatten.proofs.closure.follow.Given as goal

abbrev pub invariant-loop-done : goal.invariant-loop-done
invariant-loop-done l = Going l.initial.found l.pairs l.found l.done

abbrev pub decreases-loop-done : goal.decreases-loop-done
decreases-loop-done l = 2 ^ 64 - l.done
