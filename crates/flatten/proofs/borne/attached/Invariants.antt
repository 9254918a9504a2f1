use Rattle.std.proofs.Common.{◌≡◌, ◌++◌, map, drop}
use Rattle.std.specs.List.{flat_map}
use Rattle.dump.specs.Monikers.{attach_pairs_of}
use Rattle.flatten.specs.Steps.Numbers.{pairs_in}
use Rattle.flatten.specs.Steps.Kinds.{said}
use Rattle.flatten.proofs.borne.attached.Given as goal

abbrev pub invariant-loop-element : goal.invariant-loop-element
invariant-loop-element l =
    l.pairs.items ++ flat_map (pairs_in attach_pairs_of l.kinds.dump.now.elements) (map said (drop l.element-index l.element-items)) ≡ flat_map (pairs_in attach_pairs_of l.kinds.dump.now.elements) (map said l.element-items)
