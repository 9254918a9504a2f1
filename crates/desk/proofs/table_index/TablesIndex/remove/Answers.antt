use Rattle.std.proofs.Common.{rules}
use Rattle.sqlite.specs.Held.{state}
use Rattle.machine.specs.State.{changed, clear}
use Rattle.desk.proofs.TableStates.{made_change, refused_change, refused_when_asked, rests_when_asked}
use Rattle.desk.proofs.table_index.TablesIndex.remove.Goals as goal

pub returns-in_err-check-clause-changes : goal.returns-in_err-check-clause-changes
returns-in_err-check-clause-changes g c good m stood free =
    let next = changed m c.args.project.now c.args.key.now clear in
    let held = refused_when_asked g.S.Store c.args.self.now c.check.new.self m next c.check.ensures.survives good (c.in_err-check.ensures.same good) stood in
    search rules

pub returns-in_err-remove-clause-changes : goal.returns-in_err-remove-clause-changes
returns-in_err-remove-clause-changes g c good m stood free =
    let next = changed m c.args.project.now c.args.key.now clear in
    let asked = c.remove.ensures.outcome.clean good in
    let rests = rests_when_asked (state g.S.Store c.args.self.now) (state g.S.Store c.check.new.self) m (c.in_ok-check.ensures.open asked) stood in
    let held = refused_change g.S.Store c.args.self.now c.check.new.self c.remove.new.self m next c.check.ensures.survives asked (c.remove.ensures.crash m rests free) good rests (λ up. c.in_err-remove.ensures.same good up m rests free) in
    search rules

pub returns-clause-changes : goal.returns-clause-changes
returns-clause-changes g c good m stood free =
    let next = changed m c.args.project.now c.args.key.now clear in
    let rests = rests_when_asked (state g.S.Store c.args.self.now) (state g.S.Store c.check.new.self) m (c.in_ok-check.ensures.open (c.remove.ensures.outcome.clean good)) stood in
    (made_change g.S.Store g.met.S.Store.settled c.remove.new.self next (c.in_ok-remove.ensures.outcome.is_open good) (c.in_ok-remove.ensures.done good m rests free).1, tt)
