use Rattle.std.proofs.Common.{◌≡◌, ◌∙◌, ◌||◌, Bool, IfOk, ap, subst, map}
use Rattle.lsif.specs.Element.{element_value}
use Rattle.lsif.specs.Lent.{lent_value}
use Rattle.dump.specs.Contained.{spans_of, spans_in, any_conflicts, has_conflict}
use Rattle.dump.specs.Steps.Ids.{value_at}
use Rattle.dump.specs.Steps.Tables.{kept}
use Rattle.dump.specs.Steps.Spans.{joined}
use Rattle.dump.proofs.Fills.{others_in_order}
use Rattle.dump.proofs.tables.Tables.conflict.Goals as goal

pub conflict_after-requires : goal.conflict_after-requires
conflict_after-requires c = ap (λ ls. has_conflict (joined ls)) c.lists.ensures ∙ (c.requires.spans (lent_value c.args.document)).1

pub returns : goal.returns
returns c =
    let d = map element_value c.args.elements.now in
    let v = lent_value c.args.document in
    let targets = spans_of d c.args.ranges in
    let held = kept (value_at c.args.self.now.spans v) in
    subst (λ (b : Bool). IfOk c.conflict_after.result (λ a. a ≡ b))
    (ap (λ ts. any_conflicts ts (joined c.lists.result.now) || has_conflict ts) c.in_ok-targets.ensures
    ∙ ap (λ ls. any_conflicts targets (joined ls) || has_conflict targets) c.lists.ensures
    ∙ ap (λ b. b || has_conflict targets) (others_in_order targets (spans_in d v) held (c.requires.spans v).0))
    c.conflict_after.ensures
