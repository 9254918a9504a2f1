use Rattle.sqlite.specs.Held.{state}
use Rattle.desk.proofs.Faultless.{faultless}
use Rattle.desk.proofs.TableStates.{rests_when_asked, selected}
use Rattle.desk.proofs.table_index.TablesIndex.covering.Goals as goal

pub returns-clause-faultless : goal.returns-clause-faultless
returns-clause-faultless g c good m stood =
    let mid = state g.S.Store c.check.new.self in
    faultless mid m (rests_when_asked (state g.S.Store c.args.self.now) mid m (c.in_ok-check.ensures.open (c.covering.ensures.selects.clean good)) stood)

pub returns-in_err-covering-clause-reads : goal.returns-in_err-covering-clause-reads
returns-in_err-covering-clause-reads g c = selected g.S.Store c.covering.result _ c.args.self.now c.check.new.self c.covering.new.self c.check.ensures.survives c.in_ok-check.ensures.open c.covering.ensures.selects

pub returns-clause-reads : goal.returns-clause-reads
returns-clause-reads g c = selected g.S.Store c.covering.result _ c.args.self.now c.check.new.self c.covering.new.self c.check.ensures.survives c.in_ok-check.ensures.open c.covering.ensures.selects
