use Rattle.std.proofs.Common.{arith, rules}
use Rattle.dump.proofs.Reaches.{links_more}
use Rattle.dump.proofs.sorted_spans.links_of.Goals as goal

pub loop-span-preserved : goal.loop-span-preserved
loop-span-preserved c =
    let at = c.loop-span.invariant.len in
    let lt = c.loop-span-test.true in
    record {
      len = search rules;
      links = links_more c.args.spans.now c.loop-span.links.items c.link_to.result c.span-item.result c.loop-span.invariant.links (omega (arith, at, lt)) (search rules) (search rules) (search rules) (search rules) (search rules) c.push.new.self.items (search rules);
    }
