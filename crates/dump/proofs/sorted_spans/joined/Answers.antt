use Rattle.std.proofs.Common.{◌-◌, arith}
use Rattle.dump.proofs.Reaches.{joined_more}
use Rattle.dump.proofs.sorted_spans.joined.Goals as goal

pub loop-count-preserved : goal.loop-count-preserved
loop-count-preserved c = record {
  first = omega arith;
  bound = omega arith;
  all = joined_more c.args.lists.now (c.loop-count.count - 1) c.loop-count.count c.index-lists-count.result c.args.targets.items c.loop-count.spans.items c.in_ok-spans.spans.items (omega arith) (omega arith) c.index-lists-count.is c.loop-count.invariant.all (rw (c.spans.ensures.value, c.deref.ensures.value) at c.in_ok-spans.ensures.all);
  ordered = c.in_ok-spans.ensures.ordered;
}
