use Rattle.std.proofs.Common.{sym, arith}
use Rattle.dump.proofs.Reaches.{each_clear, list_hit, list_miss, list_end}
use Rattle.dump.proofs.sorted_spans.conflict_with.Goals as goal

pub any_conflict-requires : goal.any_conflict-requires
any_conflict-requires c = each_clear c.args.lists.now c.requires c.loop-list.list-index c.list-item.result (omega arith) c.list-item.is

pub returns-then-any_conflict : goal.returns-then-any_conflict
returns-then-any_conflict c = list_hit c.args.targets.now c.args.lists.now c.loop-list.list-index _ c.loop-list.invariant c.list-item.result (omega arith) c.list-item.is (sym c.if-any_conflict.ensures)

pub loop-list-preserved : goal.loop-list-preserved
loop-list-preserved c = list_miss c.args.targets.now c.args.lists.now c.loop-list.list-index _ c.loop-list.invariant c.list-item.result (omega arith) c.list-item.is (sym c.if-any_conflict.ensures)

pub returns : goal.returns
returns c = list_end c.args.targets.now c.args.lists.now c.loop-list.list-index _ c.loop-list.invariant (omega arith)
