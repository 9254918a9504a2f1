use Rattle.std.proofs.Common.{sym, arith}
use Rattle.dump.proofs.Graphs.{fault-hit, fault-miss, fault-end}
use Rattle.dump.proofs.order.end_fault.Goals as goal

pub returns-in-Some : goal.returns-in-Some
returns-in-Some c = fault-hit c.args.graph.now c.elements-elements.result.now c.loop-k.k c.index-elements-k.result c.in-Some.code _ (omega arith) c.index-elements-k.is (sym (rw c.in-Some.is at c.end_code.ensures)) c.loop-k.invariant

pub loop-k-preserved : goal.loop-k-preserved
loop-k-preserved c = fault-miss c.args.graph.now c.elements-elements.result.now c.loop-k.k c.index-elements-k.result _ (omega arith) c.index-elements-k.is (sym (rw c.in_default.is at c.end_code.ensures)) c.loop-k.invariant

pub returns : goal.returns
returns c = fault-end c.args.graph.now c.elements-elements.result.now c.loop-k.k _ (omega arith) c.loop-k.invariant
