use Rattle.std.proofs.Common.{◌≡◌, ◌++◌, map}
use Rattle.std.specs.List.{flat_map}
use Rattle.lsif.specs.Lent.{lent_value}
use Rattle.flatten.specs.Steps.Items.{placed_of_pair}
use Rattle.flatten.specs.Steps.Places.{placed_values}
use Rattle.flatten.proofs.items.add_places.Given as goal

abbrev pub invariant-loop-target : goal.invariant-loop-target
invariant-loop-target l =
    map placed_values l.items.items ++ flat_map (placed_of_pair l.dump.elements) (map (λ to. (lent_value l.source, to)) l.target-iterator)
    ≡ map placed_values l.initial.items.items ++ flat_map (placed_of_pair l.dump.elements) (map (λ to. (lent_value l.source, to)) l.fn.targets)
