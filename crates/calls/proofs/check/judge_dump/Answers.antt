use Rattle.calls.proofs.Judgings.{sound}
use Rattle.calls.proofs.check.judge_dump.Goals as goal

pub returns-in-Ok-clause-report : goal.returns-in-Ok-clause-report
returns-in-Ok-clause-report g c = sound c.args.profile _ _ c.elements.result.now c.in-Ok.ensures.dump c.elements.ensures.value
