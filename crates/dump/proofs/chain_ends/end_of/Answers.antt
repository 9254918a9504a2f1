use Rattle.std.proofs.Common.{◌≡◌, get_or, None, rules, map, arith}
use Rattle.lsif.specs.Element.{element_value}
use Rattle.dump.specs.Walks.{next_pairs}
use Rattle.dump.proofs.Ends.{each_single}
use Rattle.dump.proofs.Leads.{few_pairs}
use Rattle.dump.proofs.Shortcuts.{nearing, nearing_end, nearing_on, nearing_last, index_within}
use Rattle.dump.proofs.chain_ends.end_of.Goals as goal

pub loop-step-init : goal.loop-step-init
loop-step-init c =
    let d = map element_value c.args.elements.now in
    record {
      near = nearing d c.args.index c.requires.sound c.requires.index;
      inside = omega (arith, c.requires.shortcuts.length, index_within d c.requires.index.0 c.args.index c.requires.index.1);
    }

pub returns-in-None : goal.returns-in-None
returns-in-None c =
    let d = map element_value c.args.elements.now in
    let none : get_or c.args.shortcuts.now c.loop-step.at None ≡ None = search rules in
    nearing_end (next_pairs d) (each_single d c.requires.sound) d c.args.shortcuts.now c.requires.shortcuts c.args.index c.loop-step.at c.loop-step._step c.loop-step.invariant.near none

pub loop-step-preserved : goal.loop-step-preserved
loop-step-preserved c =
    let d = map element_value c.args.elements.now in
    let n = nearing_on (next_pairs d) (each_single d c.requires.sound) d c.args.shortcuts.now c.requires.shortcuts c.args.index c.loop-step.at c.loop-step._step c.loop-step.invariant.near c.in-Some.further c.in-Some.is in
    record {
      near = n;
      inside = omega (arith, c.requires.shortcuts.length, index_within d n.here c.in-Some.further n.is_here);
    }

pub returns : goal.returns
returns c =
    let d = map element_value c.args.elements.now in
    nearing_last (next_pairs d) (each_single d c.requires.sound) d c.args.shortcuts.now c.requires.shortcuts c.args.index c.loop-step.at c.loop-step._step c.loop-step.invariant.near (omega (arith, few_pairs d, c.requires.shortcuts.length))
