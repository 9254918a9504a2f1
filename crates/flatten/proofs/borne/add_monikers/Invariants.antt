use Rattle.std.proofs.Common.{◌≡◌, ◌++◌, map, drop}
use Rattle.flatten.proofs.borne.add_monikers.Given as goal

abbrev pub invariant-loop-moniker : goal.invariant-loop-moniker
invariant-loop-moniker l =
    l.pairs.items ++ map (λ m. (l.vertex, m)) (drop l.moniker-index l.monikers) ≡ l.initial.pairs.items ++ map (λ m. (l.vertex, m)) l.monikers
