use Rattle.std.proofs.Common.{rules, ◌≡◌, sym, subst}
use Rattle.sqlite.specs.Held.{state}
use Rattle.tags.specs.Views.{tag_values}
use Rattle.machine.specs.State.{IsNew}
use Rattle.machine.specs.State.{changed, set_tags}
use Rattle.desk.specs.Indexes.{Commits, Refuses}
use Rattle.desk.specs.TableStates.{LeavesOneOf, ServesFor}
use Rattle.desk.proofs.TableStates.{made_change, refused_change, refused_when_asked, rests_when_asked}
use Rattle.desk.proofs.table_index.TablesIndex.replace_tags.Goals as goal

pub returns-in_err-check-clause-changes : goal.returns-in_err-check-clause-changes
returns-in_err-check-clause-changes g c good m stood new =
    let next = changed m c.args.project.now c.args.key.now (set_tags c.args.part) in
    let held = refused_when_asked g.S.Store c.args.self.now c.check.new.self m next c.check.ensures.survives good (c.in_err-check.ensures.same good) stood in
    search rules

pub returns-in_err-replace_tags-clause-changes : goal.returns-in_err-replace_tags-clause-changes
returns-in_err-replace_tags-clause-changes g c good m stood new =
    let tags = tag_values c.tags.result.now in
    let same : tags ≡ c.args.part = search rules in
    let next = changed m c.args.project.now c.args.key.now (set_tags tags) in
    let is_new = subst (λ ts. IsNew m c.args.project.now c.args.key.now c.args.reply.now (set_tags ts)) (sym same) new in
    let asked = c.replace_tags.ensures.outcome.clean good in
    let rests = rests_when_asked (state g.S.Store c.args.self.now) (state g.S.Store c.check.new.self) m (c.in_ok-check.ensures.open asked) stood in
    let refused = refused_change g.S.Store c.args.self.now c.check.new.self c.replace_tags.new.self m next c.check.ensures.survives asked (c.replace_tags.ensures.crash m rests is_new) good rests (λ up. c.in_err-replace_tags.ensures.same good up m rests is_new) in
    let held = subst (λ ts. Refuses (λ t k. ServesFor (state g.S.Store t) k) (λ t states. LeavesOneOf (state g.S.Store t) states) c.args.self.now c.replace_tags.new.self m (changed m c.args.project.now c.args.key.now (set_tags ts))) same refused in
    search rules

pub returns-clause-changes : goal.returns-clause-changes
returns-clause-changes g c good m stood new =
    let tags = tag_values c.tags.result.now in
    let same : tags ≡ c.args.part = search rules in
    let next = changed m c.args.project.now c.args.key.now (set_tags tags) in
    let is_new = subst (λ ts. IsNew m c.args.project.now c.args.key.now c.args.reply.now (set_tags ts)) (sym same) new in
    let rests = rests_when_asked (state g.S.Store c.args.self.now) (state g.S.Store c.check.new.self) m (c.in_ok-check.ensures.open (c.replace_tags.ensures.outcome.clean good)) stood in
    let made = made_change g.S.Store g.met.S.Store.settled c.replace_tags.new.self next (c.in_ok-replace_tags.ensures.outcome.is_open good) (c.in_ok-replace_tags.ensures.done good m rests is_new) in
    (subst (λ ts. Commits (λ t k. ServesFor (state g.S.Store t) k) (λ t states. LeavesOneOf (state g.S.Store t) states) c.replace_tags.new.self (changed m c.args.project.now c.args.key.now (set_tags ts))) same made, tt)
