use Rattle.std.proofs.Common.{◌≡◌, ◌-◌, ◌≤◌, true, leb, length}
use Rattle.std.specs.List.{AllWithin}
use Rattle.flatten.proofs.closure.count_up_to.Given as goal

abbrev pub invariant-loop-count : goal.invariant-loop-count
invariant-loop-count g l = (l.below ≤ l.count) × (l.count ≤ length l.pairs) × AllWithin (λ p. leb p.0 l.source ≡ true) l.pairs 0 l.count

abbrev pub decreases-loop-count : goal.decreases-loop-count
decreases-loop-count g l = length l.pairs - l.count
