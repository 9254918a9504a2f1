use Rattle.tags.proofs.CountLemmas.{concluded, found_fault}
use Rattle.tags.proofs.counting.count_tags.Goals as goal

pub returns-in-Ok-false-clause-tags : goal.returns-in-Ok-false-clause-tags
returns-in-Ok-false-clause-tags g c =
    let step = rw c.in-Ok-false.field-0-test at c.in-Ok-false.ensures.takes in
    concluded _ _ c.reading.checker _ c.conclude.result c.reading.invariant.taken step.1 step.0 c.conclude.ensures

pub returns-in-Err-clause-tags : goal.returns-in-Err-clause-tags
returns-in-Err-clause-tags g c = found_fault _ _ _ c.reading.checker _ c.in-Err.fault _ c.reading.invariant.taken c.in-Err.ensures.takes
