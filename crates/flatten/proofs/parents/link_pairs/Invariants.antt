use Rattle.std.proofs.Common.{ℕ, map}
use Rattle.std.specs.Prelude.{◌↔◌, Contains}
use Rattle.flatten.specs.Steps.Parents.{IsLinkPair, interval_value}
use Rattle.flatten.proofs.parents.link_pairs.Given as goal

abbrev pub invariant-loop-inner : goal.invariant-loop-inner
invariant-loop-inner l =
    (p : ℕ × ℕ) → Contains l.pairs.items p ↔ IsLinkPair (map interval_value l.intervals) l.links l.inner p
