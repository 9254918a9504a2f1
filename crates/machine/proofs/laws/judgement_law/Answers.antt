use Rattle.machine.proofs.Judging.{has_fault, from_fault, has_dump, from_dump}
use Rattle.machine.proofs.laws.judgement_law.Goals as goal

pub returns-clause-dump_fault : goal.returns-clause-dump_fault
returns-clause-dump_fault c = λ profile body f. (has_fault c.fault_law.ensures.holds profile body f, from_fault c.fault_law.ensures.only profile body f)

pub returns-clause-dump : goal.returns-clause-dump
returns-clause-dump c = λ profile body dump. (
  has_dump c.fault_law.ensures.holds c.fault_law.ensures.elements profile body dump,
  λ h. from_dump c.fault_law.ensures.only c.fault_law.ensures.elements profile body dump h.0 h.1 h.2,
)

pub returns-clause-tags_fault : goal.returns-clause-tags_fault
returns-clause-tags_fault c = c.text_law.ensures.fault

pub returns-clause-tags : goal.returns-clause-tags
returns-clause-tags c = c.text_law.ensures.tags
