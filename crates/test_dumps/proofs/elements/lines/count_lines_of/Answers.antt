use Rattle.std.proofs.Common.{◌∙◌, refl}
use Rattle.streams.proofs.Seen.{seen_none, seen_more}
use Rattle.test_dumps.proofs.elements.lines.count_lines_of.Goals as goal

pub loop-n-init : goal.loop-n-init
loop-n-init g c = record { failures = refl; seen = seen_none _ }

pub loop-n-preserved : goal.loop-n-preserved
loop-n-preserved g c =
    let step = rw (c.in-Ok-true.is, c.in-Ok-true.field-0-test) at c.advance.ensures in
    record {
      failures = step.2 ∙ c.loop-n.invariant.failures;
      seen = seen_more _ _ _ _ _ _ c.loop-n.invariant.seen step.5;
    }
