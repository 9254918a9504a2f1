use Rattle.std.proofs.Common.{sym, arith}
use Rattle.dump.proofs.Reaches.{pair_found, pairs_more, clear_end}
use Rattle.dump.proofs.sorted_spans.SortedSpans.has_conflict.Goals.{then-conflicts_before-via-then-conflicts_before, then-conflicts_before-via-else-conflicts_before+then-conflicts_before-2}
use Rattle.dump.proofs.sorted_spans.SortedSpans.has_conflict.Goals as goal

pub returns-then-conflicts_before : goal.returns-then-conflicts_before
returns-then-conflicts_before c =
    let same = c.spans-spans.ensures.value in
    let found = pair_found c.args.self.now c.spans-spans.ensures.ordered c.loop-count.count c.index-spans-count.result (rw same at c.loop-count-test.true) (rw same at c.index-spans-count.is) in
    elim c.then-conflicts_before.branch [
      | then-conflicts_before-via-then-conflicts_before w ↦ found c.loop-count.count (omega arith) (sym (rw same at w.if-conflicts_before.ensures))
      | then-conflicts_before-via-else-conflicts_before+then-conflicts_before-2 w ↦ found c.reaching-left.result c.reaching-left.ensures.bound (sym (rw same at w.if-conflicts_before-2.ensures))
    ]

pub loop-count-preserved : goal.loop-count-preserved
loop-count-preserved c =
    let same = c.spans-spans.ensures.value in
    let left = rw (same, c.start.ensures) at c.reaching-left.ensures in
    pairs_more c.args.self.now c.spans-spans.ensures.ordered c.loop-count.count c.index-spans-count.result (rw same at c.loop-count-test.true) (rw same at c.index-spans-count.is) c.reaching-left.result c.loop-count.invariant
    left.bound left.over left.reaches (sym (rw same at c.if-conflicts_before.ensures)) (sym (rw same at c.if-conflicts_before-2.ensures))

pub returns : goal.returns
returns c = clear_end c.args.self.now c.loop-count.count (rw c.spans-spans.ensures.value at c.loop-count-test.false) c.loop-count.invariant
