use Rattle.desk.proofs.TableStates.{selected}
use Rattle.desk.proofs.table_index.TablesIndex.hover.Goals as goal

pub returns-in_err-hover-clause-reads : goal.returns-in_err-hover-clause-reads
returns-in_err-hover-clause-reads g c = selected g.S.Store c.hover.result _ c.args.self.now c.check.new.self c.hover.new.self c.check.ensures.survives c.in_ok-check.ensures.open c.hover.ensures.selects

pub returns-clause-reads : goal.returns-clause-reads
returns-clause-reads g c = selected g.S.Store c.hover.result _ c.args.self.now c.check.new.self c.hover.new.self c.check.ensures.survives c.in_ok-check.ensures.open c.hover.ensures.selects
