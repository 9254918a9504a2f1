use Rattle.tags.proofs.JudgingLemmas.{has_tags, from_tags, has_fault, from_fault, rise}
use Rattle.tags.proofs.laws.text_law.Goals as goal

pub returns-clause-tags : goal.returns-clause-tags
returns-clause-tags c = λ text tags. (has_tags text tags, from_tags text tags)

pub returns-clause-fault : goal.returns-clause-fault
returns-clause-fault c = λ text fault. (has_fault text fault, from_fault text fault)

pub returns-clause-rising : goal.returns-clause-rising
returns-clause-rising c = rise
