use Rattle.desk.proofs.TableStates.{selected}
use Rattle.desk.proofs.table_index.TablesIndex.projects.Goals as goal

pub returns-in_err-projects-clause-reads : goal.returns-in_err-projects-clause-reads
returns-in_err-projects-clause-reads g c = selected g.S.Store c.projects.result _ c.args.self.now c.check.new.self c.projects.new.self c.check.ensures.survives c.in_ok-check.ensures.open c.projects.ensures.selects

pub returns-clause-reads : goal.returns-clause-reads
returns-clause-reads g c = selected g.S.Store c.projects.result _ c.args.self.now c.check.new.self c.projects.new.self c.check.ensures.survives c.in_ok-check.ensures.open c.projects.ensures.selects
