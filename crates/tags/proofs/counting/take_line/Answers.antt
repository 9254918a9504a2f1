use Rattle.std.proofs.Common.{◌∙◌, refl, rules}
use Rattle.tags.specs.declared.code.Code.TheVariants.{T01}
use Rattle.tags.proofs.CountLemmas.{fed_code, fed_counts, fed_line}
use Rattle.tags.proofs.ReadLines.{long_line, reads_line, reads_none}
use Rattle.tags.proofs.counting.take_line.Goals as goal

pub returns-in-Ok-true-clause-takes : goal.returns-in-Ok-true-clause-takes
returns-in-Ok-true-clause-takes g c =
    let step = rw (c.in-Ok-true.is, c.in-Ok-true.field-0-test) at c.advance.ensures in
    fed_line c.feed.result _ _ _ _ _ c.advance.new.self (reads_line _ _ _ _ step.5) (step.1, step.3 ∙ c.requires.ready.1)
    (rw (c.line.ensures, c.has_feed.ensures) at c.feed.ensures)

pub returns-in-Ok-false-clause-takes : goal.returns-in-Ok-false-clause-takes
returns-in-Ok-false-clause-takes g c =
    let step = rw (c.in-Ok-false.is, c.in-Ok-false.field-0-test) at c.advance.ensures in
    (refl, reads_none _ _ step.4)

pub returns-in-Err-TooLong-clause-takes : goal.returns-in-Err-TooLong-clause-takes
returns-in-Err-TooLong-clause-takes g c =
    fed_code _ _ _ T01 _ _ _ (long_line _ (search rules)) c.feed-in-Err-TooLong.ensures

pub returns-in-Ok-true-clause-counted : goal.returns-in-Ok-true-clause-counted
returns-in-Ok-true-clause-counted g c =
    let step = rw (c.in-Ok-true.is, c.in-Ok-true.field-0-test) at c.advance.ensures in
    fed_counts c.feed.result _ _ _ _ c.feed.ensures step.2

pub returns-in-Err-TooLong-clause-counted : goal.returns-in-Err-TooLong-clause-counted
returns-in-Err-TooLong-clause-counted g c =
    fed_counts c.feed-in-Err-TooLong.result _ _ _ _ c.feed-in-Err-TooLong.ensures (search rules)
