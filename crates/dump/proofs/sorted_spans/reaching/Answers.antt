use Rattle.std.proofs.Common.{◌≡◌, ◌-◌, ◌∙◌, get_or, sym, arith}
use Rattle.std.proofs.lemmas.List.{get_or_default}
use Rattle.dump.specs.declared.sorted_spans.Link.{Link}
use Rattle.dump.proofs.Reaches.{goes_back, over_more}
use Rattle.dump.proofs.sorted_spans.reaching.Goals as goal

pub loop-at-preserved : goal.loop-at-preserved
loop-at-preserved c =
    let none : Link = record { next = 0; jump = 0; steps = 0 } in
    let link = get_or c.args.links.now (c.loop-at.at - 1) none in
    let is : link ≡ get_or c.args.links.now (c.loop-at.at - 1) link = get_or_default c.args.links.now (c.loop-at.at - 1) none link (omega arith) in
    record {
      bound = let back = goes_back c.args.spans.now c.args.links.now c.args.count c.loop-at.at c.further-at.result c.args.position link c.requires.links c.requires.known (omega arith) c.loop-at.invariant.bound is c.further-at.ensures in omega (arith, back);
      over = over_more c.args.spans.now c.args.links.now c.args.count c.loop-at.at c.further-at.result c.args.position c.index-spans-at.result link c.requires.links c.requires.known c.requires.bound (omega arith) c.loop-at.invariant.bound c.index-spans-at.is (sym c.ends_after.ensures ∙ c.if-not-ends_after.true) is c.further-at.ensures c.loop-at.invariant.over;
    }
