use Rattle.std.proofs.Common.{[], arith}
use Rattle.flatten.proofs.Gaining.{gains_more, gains_all}
use Rattle.flatten.proofs.closure.found_at.Goals as goal

pub loop-start-preserved : goal.loop-start-preserved
loop-start-preserved c = gains_more [] c.loop-start.found c.add.new.self c.args.starts.now c.loop-start.start-index _ (omega arith) c.loop-start.invariant c.in_ok-add.ensures

pub returns : goal.returns
returns c = gains_all c.args.starts.now c.loop-start.found c.loop-start.start-index (omega arith) c.loop-start.invariant
