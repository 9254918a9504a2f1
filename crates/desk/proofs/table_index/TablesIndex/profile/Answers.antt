use Rattle.desk.proofs.TableStates.{selected}
use Rattle.desk.proofs.table_index.TablesIndex.profile.Goals as goal

pub returns-in_err-profile-clause-reads : goal.returns-in_err-profile-clause-reads
returns-in_err-profile-clause-reads g c = selected g.S.Store c.profile.result _ c.args.self.now c.check.new.self c.profile.new.self c.check.ensures.survives c.in_ok-check.ensures.open c.profile.ensures.selects

pub returns-clause-reads : goal.returns-clause-reads
returns-clause-reads g c = selected g.S.Store c.profile.result _ c.args.self.now c.check.new.self c.profile.new.self c.check.ensures.survives c.in_ok-check.ensures.open c.profile.ensures.selects
