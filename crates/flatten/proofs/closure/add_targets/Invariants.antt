use Rattle.std.proofs.Common.{take, map}
use Rattle.flatten.specs.Steps.Found.{Gains}
use Rattle.flatten.proofs.closure.add_targets.Given as goal

abbrev pub invariant-loop-pair : goal.invariant-loop-pair
invariant-loop-pair l = Gains l.initial.found (map (λ p. p.1) (take l.pair-index l.pairs)) l.found
