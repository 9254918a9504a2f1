use Rattle.std.proofs.Common.{ℕ, arith}
use Rattle.flatten.proofs.Gaining.{gains_more_of}
use Rattle.flatten.proofs.closure.add_targets.Goals as goal

pub loop-pair-preserved : goal.loop-pair-preserved
loop-pair-preserved c = gains_more_of (λ (p : ℕ × ℕ). p.1) c.args.found.now c.loop-pair.found c.add.new.self c.args.pairs.now c.loop-pair.pair-index _ (omega arith) c.loop-pair.invariant c.in_ok-add.ensures
