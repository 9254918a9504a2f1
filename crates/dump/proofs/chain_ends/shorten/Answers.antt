use Rattle.std.proofs.Common.{◌≡◌, ◌∙◌, refl, get_or, Some, None, map, arith}
use Rattle.std.proofs.lemmas.List.{length-set}
use Rattle.lsif.specs.Element.{element_value}
use Rattle.dump.specs.Walks.{next_pairs}
use Rattle.dump.proofs.Ends.{each_single}
use Rattle.dump.proofs.Shortcuts.{nearing, nearing_on, shortened, index_within, read_at}
use Rattle.dump.proofs.chain_ends.shorten.Goals as goal

pub loop-step-init : goal.loop-step-init
loop-step-init c =
    let d = map element_value c.args.elements.now in
    record {
      shortcuts = c.requires.shortcuts;
      near = nearing d c.args.index c.requires.sound (c.requires.last.start, c.requires.last.is_start);
      inside = omega (arith, c.requires.shortcuts.length, index_within d c.requires.last.start c.args.index c.requires.last.is_start);
      len = refl;
      capacity = refl;
    }

pub loop-step-preserved : goal.loop-step-preserved
loop-step-preserved c =
    let d = map element_value c.args.elements.now in
    let one = each_single d c.requires.sound in
    let i = c.loop-step.invariant in
    let items = c.loop-step.shortcuts.items in
    let is : get_or items c.loop-step.at None ≡ Some c.in-Some.further = read_at items c.loop-step.at c.index.result.now i.inside c.index.ensures ∙ c.in-Some.is in
    let n = nearing_on (next_pairs d) one d items i.shortcuts c.args.index c.loop-step.at c.loop-step._step i.near c.in-Some.further is in
    record {
      shortcuts = shortened (next_pairs d) one d items i.shortcuts c.args.index c.loop-step.at c.loop-step._step c.args.end c.in-Some.further i.near c.requires.last is;
      near = n;
      inside = omega (arith, length-set items c.loop-step.at (Some c.args.end), i.shortcuts.length, index_within d n.here c.in-Some.further n.is_here);
      len = i.len;
      capacity = i.capacity;
    }
