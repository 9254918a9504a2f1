use Rattle.std.proofs.Common.{refl}
use Rattle.calls.proofs.Judgings.{counted, first_fault}
use Rattle.calls.proofs.check.judge_tags.Goals as goal

pub returns-in-Ok-clause-report : goal.returns-in-Ok-clause-report
returns-in-Ok-clause-report g c = counted _ _ c.in-Ok.ensures.tags

pub returns-in-Err-Line-clause-report : goal.returns-in-Err-Line-clause-report
returns-in-Err-Line-clause-report g c =
    let found = rw c.in-Err-Line.field-0-is at c.in-Err-Line.ensures.tags in
    first_fault _ c.in-Err-Line.fault _ found refl (c.name.ensures, c.text.ensures)
