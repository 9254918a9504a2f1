use Rattle.sqlite.specs.Held.{state}
use Rattle.desk.proofs.TableStates.{rests_when_asked, selected}
use Rattle.desk.proofs.table_index.TablesIndex.items.Goals as goal

pub returns-in_err-items-clause-reads : goal.returns-in_err-items-clause-reads
returns-in_err-items-clause-reads g c = selected g.S.Store c.items.result _ c.args.self.now c.check.new.self c.items.new.self c.check.ensures.survives c.in_ok-check.ensures.open c.items.ensures.selects

pub returns-clause-reads : goal.returns-clause-reads
returns-clause-reads g c = selected g.S.Store c.items.result _ c.args.self.now c.check.new.self c.items.new.self c.check.ensures.survives c.in_ok-check.ensures.open c.items.ensures.selects

pub returns-clause-found : goal.returns-clause-found
returns-clause-found g c good m stood =
    let mid = state g.S.Store c.check.new.self in
    c.in_ok-items.ensures.found good m (rests_when_asked (state g.S.Store c.args.self.now) mid m (c.in_ok-check.ensures.open (c.items.ensures.selects.clean good)) stood)
