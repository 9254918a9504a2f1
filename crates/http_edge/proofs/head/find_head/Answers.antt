use Rattle.std.proofs.Common.{sym, ◌∙◌}
use Rattle.std.proofs.lemmas.List.{take_rest}
use Rattle.http_edge.proofs.HeadLemmas.{found_here, found_later, found_none}
use Rattle.http_edge.proofs.head.find_head.Goals as goal

pub returns-then-is_end : goal.returns-then-is_end
returns-then-is_end c =
    let here = rw (take_rest c.args.bytes.now c.loop-i.i) at c.if-is_end.ensures in
    sym (c.loop-i.invariant ∙ found_here c.args.bytes.now c.loop-i.i c.loop-i-test.true (sym here))

pub loop-i-preserved : goal.loop-i-preserved
loop-i-preserved c =
    let later = rw (take_rest c.args.bytes.now c.loop-i.i) at c.if-is_end.ensures in
    c.loop-i.invariant ∙ found_later c.args.bytes.now c.loop-i.i c.loop-i-test.true (sym later)

pub returns : goal.returns
returns c = sym (c.loop-i.invariant ∙ found_none c.args.bytes.now c.loop-i.i c.loop-i-test.false)
