use Rattle.std.proofs.Common.{◌<◌, length, arith, refl, sym}
use Rattle.dump.proofs.Merges.{more_first, more_second}
use Rattle.dump.proofs.spans.merge.Goals.{then-i-first, else-i-first+then-j-second}
use Rattle.dump.proofs.spans.merge.Goals as goal

pub loop-i-preserved-then-goes_first : goal.loop-i-preserved-then-goes_first
loop-i-preserved-then-goes_first c =
    let inv = c.loop-i.invariant in
    let more = more_first c.args.first.now c.args.second.now c.loop-i.spans.items c.push.new.self.items c.loop-i.i c.loop-i.j c.index-first-i.result (omega arith) c.index-first-i.is (sym c.if-goes_first.ensures.value) c.in_ok-push.ensures.items c.requires.first (record { all = inv.all; ordered = inv.ordered; first_left = inv.first_left; second_left = inv.second_left }) in
    record {
      first_bound = omega arith;
      second_bound = inv.second_bound;
      all = more.all;
      ordered = more.ordered;
      first_left = more.first_left;
      second_left = more.second_left;
    }

pub loop-i-preserved : goal.loop-i-preserved
loop-i-preserved c =
    let inv = c.loop-i.invariant in
    let bound : c.loop-i.j < length c.args.second.now = elim c.if-i-first.branch [ then-i-first w ↦ c.if-goes_first.ensures.second refl (omega arith) | else-i-first+then-j-second w ↦ omega arith ] in
    let more = more_second c.args.first.now c.args.second.now c.loop-i.spans.items c.push-else-goes_first.new.self.items c.loop-i.i c.loop-i.j c.index-second-j.result bound c.index-second-j.is (sym c.if-goes_first.ensures.value) c.in_ok-push-2.ensures.items c.requires.second (record { all = inv.all; ordered = inv.ordered; first_left = inv.first_left; second_left = inv.second_left }) in
    record {
      first_bound = inv.first_bound;
      second_bound = omega arith;
      all = more.all;
      ordered = more.ordered;
      first_left = more.first_left;
      second_left = more.second_left;
    }
