use Rattle.machine.proofs.Retrying.{is_plain, again, sent_again, runs}
use Rattle.machine.proofs.laws.retry_law.Goals as goal

pub returns-clause-parts : goal.returns-clause-parts
returns-clause-parts c = λ store events t. is_plain store events t

pub returns-clause-again : goal.returns-clause-again
returns-clause-again c = λ store events t. again store events t

pub returns-clause-first : goal.returns-clause-first
returns-clause-first c = λ store events t. sent_again store events t

pub returns-clause-runs : goal.returns-clause-runs
returns-clause-runs c = λ store events t requests replies n. runs store requests replies events t n
