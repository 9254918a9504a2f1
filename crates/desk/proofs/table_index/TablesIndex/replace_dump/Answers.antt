use Rattle.std.proofs.Common.{rules}
use Rattle.sqlite.specs.Held.{state}
use Rattle.machine.specs.State.{changed, set_dump}
use Rattle.desk.specs.Indexes.{Refuses}
use Rattle.desk.specs.TableStates.{LeavesOneOf, ServesFor, leaves_more}
use Rattle.desk.proofs.TableStates.{made_change, refused_change, refused_when_asked, rests_when_asked}
use Rattle.desk.proofs.table_index.TablesIndex.replace_dump.Goals as goal

pub returns-in_err-rows-clause-changes : goal.returns-in_err-rows-clause-changes
returns-in_err-rows-clause-changes g c good m stood new =
    let next = changed m c.args.project.now c.args.key.now (set_dump c.args.dump) in
    let held : Refuses (λ t k. ServesFor (state g.S.Store t) k) (λ t states. LeavesOneOf (state g.S.Store t) states) c.args.self.now c.args.self.now m next = record {
      state = stood;
      left = λ states leaves. leaves_more states next leaves;
    } in
    search rules

pub returns-in_err-check-clause-changes : goal.returns-in_err-check-clause-changes
returns-in_err-check-clause-changes g c good m stood new =
    let next = changed m c.args.project.now c.args.key.now (set_dump c.args.dump) in
    let held = refused_when_asked g.S.Store c.args.self.now c.check.new.self m next c.check.ensures.survives good (c.in_err-check.ensures.same good) stood in
    search rules

pub returns-in_err-replace_dump-clause-changes : goal.returns-in_err-replace_dump-clause-changes
returns-in_err-replace_dump-clause-changes g c good m stood new =
    let next = changed m c.args.project.now c.args.key.now (set_dump c.args.dump) in
    let asked = c.replace_dump.ensures.outcome.clean good in
    let rests = rests_when_asked (state g.S.Store c.args.self.now) (state g.S.Store c.check.new.self) m (c.in_ok-check.ensures.open asked) stood in
    let held = refused_change g.S.Store c.args.self.now c.check.new.self c.replace_dump.new.self m next c.check.ensures.survives asked (c.replace_dump.ensures.crash m c.args.dump rests c.in_ok-rows.ensures new) good rests (λ up. c.in_err-replace_dump.ensures.same good up m c.args.dump rests c.in_ok-rows.ensures new) in
    search rules

pub returns-clause-changes : goal.returns-clause-changes
returns-clause-changes g c good m stood new =
    let next = changed m c.args.project.now c.args.key.now (set_dump c.args.dump) in
    let rests = rests_when_asked (state g.S.Store c.args.self.now) (state g.S.Store c.check.new.self) m (c.in_ok-check.ensures.open (c.replace_dump.ensures.outcome.clean good)) stood in
    (made_change g.S.Store g.met.S.Store.settled c.replace_dump.new.self next (c.in_ok-replace_dump.ensures.outcome.is_open good) (c.in_ok-replace_dump.ensures.done good m c.args.dump rests c.in_ok-rows.ensures new), tt)
