use Rattle.std.proofs.Common.{Bor, ◌∙◌, ◌+◌, ◌≤◌, length, map, refl, ap, subst, arith}
use Rattle.std.specs.Prelude.{option_map}
use Rattle.std.proofs.lemmas.List.{length-map}
use Rattle.lsif.specs.Element.{id_value, element_value}
use Rattle.dump.specs.declared.checker.CheckedDump.{CheckedDump}
use Rattle.flatten.specs.Rows.{mark_value as mark_row_value}
use Rattle.flatten.specs.Steps.Chains.{AlongValue}
use Rattle.flatten.specs.Steps.Borne.{mark_values}
use Rattle.flatten.specs.Steps.Marks.{IsMarkAlong, IsMarkOfVertex}
use Rattle.flatten.specs.Steps.Tables.{Adds}
use Rattle.streams.proofs.Members.{none_of}
use Rattle.flatten.proofs.MarkRows.{Passing, passing_end, passing_first, passing_full, passing_on}
use Rattle.flatten.proofs.marks.add_chain.Goals as goal

pub loop-step-init : goal.loop-step-init
loop-step-init c =
    let d = c.args.chains.now.dump.now.elements in
    let borne = c.args.chains.now.borne.items in
    let marks = mark_values c.args.marks.now in
    let from = id_value c.args.range.now in
    let a = c.in_ok-bearer.ensures.along in
    let first = passing_first d borne marks c.args.number from (map mark_row_value c.args.rows.now.items) a.0 a.1 (c.chain_law.ensures.short d from a.0 a.1) _ (ap (λ (v : AlongValue). v.bearer) a.2) in
    (rw (c.along.ensures.dump, c.along.ensures.borne) first, c.in_ok-bearer.ensures.chains, refl, refl)

pub returns-in_default-clause-rows : goal.returns-in_default-clause-rows
returns-in_default-clause-rows c =
    let d = c.along.new.self.dump.now.elements in
    let borne = c.along.new.self.borne.items in
    let marks = mark_values c.args.marks.now in
    let from = id_value c.args.range.now in
    let start = map mark_row_value c.args.rows.now.items in
    let rows = map mark_row_value c.loop-step.rows.items in
    let none = ap (option_map (λ i. id_value i.now)) (none_of c.loop-step.bearer c.in_default.not-Some) in
    let here = subst (λ o. Passing d borne marks c.args.number from start o rows c.loop-step._step) none c.loop-step.invariant.0 in
    let same = ap (λ (b : Bor CheckedDump). b.now.elements) c.along.ensures.dump in
    let pairs = ap (λ v. v.items) c.along.ensures.borne in
    let first = c.args.chains.now.borne.items in
    subst (λ e. Adds start (IsMarkAlong e first marks c.args.number from) rows) same
    (subst (λ b. Adds start (IsMarkAlong d b marks c.args.number from) rows) pairs (passing_end d borne marks c.args.number from start rows c.loop-step._step here))

pub loop-step-preserved : goal.loop-step-preserved
loop-step-preserved c =
    let d = c.along.new.self.dump.now.elements in
    let borne = c.along.new.self.borne.items in
    let marks = mark_values c.args.marks.now in
    let from = id_value c.args.range.now in
    let start = map mark_row_value c.args.rows.now.items in
    let rows = map mark_row_value c.loop-step.rows.items in
    let inv = c.loop-step.invariant in
    let here = subst (λ o. Passing d borne marks c.args.number from start (option_map (λ i. id_value i.now) o) rows c.loop-step._step) c.in-Some.is inv.0 in
    let here_dump = c.loop-step.chains.dump.now.elements in
    let more = map mark_row_value c.add_member.new.rows.items in
    let member = id_value c.in-Some.member.now in
    let added = subst (λ e. Adds rows (IsMarkOfVertex e borne marks c.args.number member) more) (ap (λ (b : Bor CheckedDump). b.now.elements) inv.2)
    (subst (λ b. Adds rows (IsMarkOfVertex here_dump b marks c.args.number member) more) (ap (λ v. v.items) inv.3) c.in_ok-add_member.ensures) in
    let next = rw (inv.2, inv.3) at c.in_ok-bearer-2.ensures.bearer in (
      passing_on d borne marks c.args.number from start rows _ member _ c.loop-step._step here added next,
      c.in_ok-bearer-2.ensures.chains,
      c.in_ok-bearer-2.ensures.dump ∙ inv.2,
      c.in_ok-bearer-2.ensures.borne ∙ inv.3,
    )

pub returns-clause-rows : goal.returns-clause-rows
returns-clause-rows c =
    let d = c.along.new.self.dump.now.elements in
    let borne = c.along.new.self.borne.items in
    let marks = mark_values c.args.marks.now in
    let le : length d + 1 ≤ c.loop-step._step = omega (arith, c.loop-step-test.false, length-map c.elements.result.now element_value, ap length c.elements.ensures.value, ap (λ (b : Bor CheckedDump). length b.now.elements) c.along.ensures.dump) in
    let same = ap (λ (b : Bor CheckedDump). b.now.elements) c.along.ensures.dump in
    let pairs = ap (λ v. v.items) c.along.ensures.borne in
    let first = c.args.chains.now.borne.items in
    let from = id_value c.args.range.now in
    let start = map mark_row_value c.args.rows.now.items in
    let rows = map mark_row_value c.loop-step.rows.items in
    subst (λ e. Adds start (IsMarkAlong e first marks c.args.number from) rows) same
    (subst (λ b. Adds start (IsMarkAlong d b marks c.args.number from) rows) pairs (passing_full d borne marks c.args.number from start rows _ c.loop-step._step le c.loop-step.invariant.0))
