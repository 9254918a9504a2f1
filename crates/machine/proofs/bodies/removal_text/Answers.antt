use Rattle.std.proofs.Common.{rules}
use Rattle.machine.proofs.RemovalTexts.{was_there, was_absent}
use Rattle.machine.proofs.bodies.removal_text.Goals as goal

pub returns-then-was_there : goal.returns-then-was_there
returns-then-was_there c = was_there c.args.was_there (search rules)

pub returns-else-was_there : goal.returns-else-was_there
returns-else-was_there c = was_absent c.args.was_there (search rules)
