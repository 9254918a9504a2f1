use Rattle.std.proofs.Common.{◌≡◌, length, map}
use Rattle.flatten.specs.Steps.Parents.{AreLinks, interval_value}
use Rattle.flatten.proofs.parents.links.Given as goal

abbrev pub invariant-loop-index : goal.invariant-loop-index
invariant-loop-index l =
    AreLinks (map interval_value l.intervals) l.links.items × (length l.links.items ≡ l.index)
