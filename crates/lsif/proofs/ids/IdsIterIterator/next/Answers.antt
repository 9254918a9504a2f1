use Rattle.std.proofs.Common.{◌≡◌, ◌∙◌, ◌-◌, ◌∷◌, drop, [], None, rules, sym, ap, subst, arith}
use Rattle.std.proofs.lemmas.List.{nil_from_length}
use Rattle.lsif.specs.IdValues.{number, text, greatest_id}
use Rattle.lsif.specs.Steps.IdLists.{AreCut, ids_of}
use Rattle.lsif.specs.Lent.{ids_behind}
use Rattle.lsif.proofs.IdLists.{nearer_end, at_number, at_text}
use Rattle.lsif.proofs.ids.IdsIterIterator.next.Goals as goal

pub returns-in_err-entry-clause-steps : goal.returns-in_err-entry-clause-steps
unfolding ids_of
returns-in_err-entry-clause-steps c =
    let none : c.self.inside.first ≡ None = search rules in
    let after : c.take.new.self ≡ None = search rules in
    let end : c.self.inside.entries.now ≡ [] = nil_from_length c.self.inside.entries.now c.in_err-entry.ensures.cases in
    let gone : c.from_residual.result ≡ None = search rules in
    let all = ap (λ l. ids_of l c.self.inside.texts.now) end in
    rw gone (
      sym c.self.view_is ∙ ap (λ o. ids_behind o (ids_of c.self.inside.entries.now c.self.inside.texts.now)) none ∙ all,
      ap (λ o. ids_behind o (ids_of c.self.inside.entries.now c.self.inside.texts.now)) after ∙ all,
    )

pub invariant_of-self-then-entry-le-GREATEST_ID : goal.invariant_of-self-then-entry-le-GREATEST_ID
invariant_of-self-then-entry-le-GREATEST_ID c =
    let is : c.self.inside.entries.now ≡ c.in_ok-entry.entry.now ∷ c.in_ok-entry.later.now = search rules in
    (at_number c.self.inside.entries.now c.in_ok-entry.later.now c.in_ok-entry.entry.now c.self.inside.texts.now is (omega (arith, c.if-entry-le-GREATEST_ID.true)) c.self.invariant).1

pub returns-then-entry-le-GREATEST_ID-clause-steps : goal.returns-then-entry-le-GREATEST_ID-clause-steps
returns-then-entry-le-GREATEST_ID-clause-steps c =
    let none : c.self.inside.first ≡ None = search rules in
    let after : c.take.new.self ≡ None = search rules in
    let is : c.self.inside.entries.now ≡ c.in_ok-entry.entry.now ∷ c.in_ok-entry.later.now = search rules in
    let first = (at_number c.self.inside.entries.now c.in_ok-entry.later.now c.in_ok-entry.entry.now c.self.inside.texts.now is (omega (arith, c.if-entry-le-GREATEST_ID.true)) c.self.invariant).0 in
    sym c.self.view_is ∙ ap (λ o. ids_behind o (ids_of c.self.inside.entries.now c.self.inside.texts.now)) none ∙ first
    ∙ ap (λ o. number c.in_ok-entry.entry.now ∷ ids_behind o (ids_of c.in_ok-entry.later.now c.self.inside.texts.now)) (sym after)

pub returns-in_err-text-clause-steps : goal.returns-in_err-text-clause-steps
returns-in_err-text-clause-steps c =
    let is : c.self.inside.entries.now ≡ c.in_ok-entry.entry.now ∷ c.in_ok-entry.later.now = search rules in
    let first = at_text c.self.inside.entries.now c.in_ok-entry.later.now c.in_ok-entry.entry.now c.self.inside.texts.now is (omega (arith, c.if-entry-le-GREATEST_ID.false)) c.self.invariant in
    absurd (search (rules, first.0))

pub invariant_of-self-2 : goal.invariant_of-self-2
invariant_of-self-2 c =
    let is : c.self.inside.entries.now ≡ c.in_ok-entry.entry.now ∷ c.in_ok-entry.later.now = search rules in
    let first = at_text c.self.inside.entries.now c.in_ok-entry.later.now c.in_ok-entry.entry.now c.self.inside.texts.now is (omega (arith, c.if-entry-le-GREATEST_ID.false)) c.self.invariant in
    subst (AreCut c.in_ok-entry.later.now) (sym c.in_ok-text.ensures.back) first.2

pub returns-clause-steps : goal.returns-clause-steps
returns-clause-steps c =
    let none : c.self.inside.first ≡ None = search rules in
    let after : c.take.new.self ≡ None = search rules in
    let is : c.self.inside.entries.now ≡ c.in_ok-entry.entry.now ∷ c.in_ok-entry.later.now = search rules in
    let first = at_text c.self.inside.entries.now c.in_ok-entry.later.now c.in_ok-entry.entry.now c.self.inside.texts.now is (omega (arith, c.if-entry-le-GREATEST_ID.false)) c.self.invariant in
    sym c.self.view_is ∙ ap (λ o. ids_behind o (ids_of c.self.inside.entries.now c.self.inside.texts.now)) none ∙ first.1
    ∙ ap (λ t. text t ∷ ids_of c.in_ok-entry.later.now (drop (c.in_ok-entry.entry.now - greatest_id) c.self.inside.texts.now)) (sym c.in_ok-text.ensures.front) ∙ ap (λ t. text c.in_ok-text.text.now ∷ ids_of c.in_ok-entry.later.now t) (sym c.in_ok-text.ensures.back)
    ∙ ap (λ o. text c.in_ok-text.text.now ∷ ids_behind o (ids_of c.in_ok-entry.later.now c.in_ok-text.rest.now)) (sym after)

pub returns-then-entry-le-GREATEST_ID-clause-goes : goal.returns-then-entry-le-GREATEST_ID-clause-goes
returns-then-entry-le-GREATEST_ID-clause-goes c = nearer_end _ (λ _. tt) _ _ _ _ (returns-then-entry-le-GREATEST_ID-clause-steps c)

pub returns-clause-goes : goal.returns-clause-goes
returns-clause-goes c = nearer_end _ (λ _. tt) _ _ _ _ (returns-clause-steps c)
