use Rattle.std.proofs.Common.{◌≡◌, ◌++◌, map}
use Rattle.std.specs.List.{flat_map}
use Rattle.lsif.specs.Lent.{lent_value}
use Rattle.flatten.specs.Steps.Numbers.{numbers_of_pair}
use Rattle.flatten.proofs.items.add_pairs.Given as goal

abbrev pub invariant-loop-target : goal.invariant-loop-target
invariant-loop-target l =
    l.pairs.items ++ flat_map (numbers_of_pair l.dump.elements) (map (λ to. (lent_value l.source, to)) l.target-iterator)
    ≡ l.initial.pairs.items ++ flat_map (numbers_of_pair l.dump.elements) (map (λ to. (lent_value l.source, to)) l.fn.targets)
