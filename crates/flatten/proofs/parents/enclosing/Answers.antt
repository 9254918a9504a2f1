use Rattle.std.proofs.Common.{map, arith}
use Rattle.std.proofs.lemmas.List.{length-map}
use Rattle.flatten.specs.Steps.Parents.{interval_value}
use Rattle.flatten.proofs.OpenIntervals.{above_init, above_on}
use Rattle.flatten.proofs.parents.enclosing.Goals as goal

pub loop-open-init : goal.loop-open-init
loop-open-init c = above_init (map interval_value c.args.intervals.now) c.requires.intervals c.args.index (omega (arith, c.requires.index, length-map c.args.intervals.now interval_value)) c.checked_sub-open.result c.checked_sub-open.ensures

pub loop-open-preserved : goal.loop-open-preserved
loop-open-preserved c = above_on interval_value c.args.intervals.now c.args.links.now c.args.index _ c.requires.intervals c.requires.links c.requires.index c.requires.length c.loop-open.open c.in-Some.outer c.in-Some.is c.loop-open.invariant c.if-encloses.ensures
