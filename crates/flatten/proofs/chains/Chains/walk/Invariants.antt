use Rattle.std.proofs.Common.{map}
use Rattle.lsif.specs.Element.{id_value}
use Rattle.flatten.proofs.ChainWalks.{Walking}
use Rattle.flatten.proofs.chains.Chains.walk.Given as goal

abbrev pub invariant-loop-step : goal.invariant-loop-step
invariant-loop-step l =
    Walking l.self.dump.now.elements (id_value l.vertex) (id_value l.at) (map (λ i. id_value i.now) l.path.items) l._step
