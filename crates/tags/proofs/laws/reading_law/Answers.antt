use Rattle.tags.proofs.ConditionLemmas.{reads_line, reads_only}
use Rattle.tags.proofs.laws.reading_law.Goals as goal

pub returns-clause-holds : goal.returns-clause-holds
returns-clause-holds c = reads_line

pub returns-clause-only : goal.returns-clause-only
returns-clause-only c = reads_only
