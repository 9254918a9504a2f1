use Rattle.std.proofs.Common.{◌≡◌, length, map, reverse}
use Rattle.lsif.specs.Element.{id_value}
use Rattle.flatten.specs.Steps.Chains.{AreChains, IsWalkBack, along_value}
use Rattle.flatten.proofs.chains.Chains.kept_along.Given as goal

abbrev pub invariant-loop-member : goal.invariant-loop-member
invariant-loop-member l =
    IsWalkBack l.initial.self.dump.now.elements l.initial.self.borne.items (id_value l.vertex) (reverse (map (λ i. id_value i.now) l.path.items)) (along_value l.along)
    × AreChains l.self × (l.self.dump ≡ l.initial.self.dump) × (l.self.borne ≡ l.initial.self.borne)

abbrev pub decreases-loop-member : goal.decreases-loop-member
decreases-loop-member l = length l.path.items
