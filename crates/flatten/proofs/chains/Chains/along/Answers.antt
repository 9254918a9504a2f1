use Rattle.std.proofs.Common.{◌∙◌, sym, ap, subst}
use Rattle.std.specs.Prelude.{Some}
use Rattle.lsif.specs.Element.{id_value}
use Rattle.flatten.specs.Steps.Chains.{AreAlong, along_value, or_later, own_of}
use Rattle.flatten.proofs.ChainWalks.{along_alone, along_by}
use Rattle.flatten.proofs.chains.Chains.along.Goals as goal

pub returns-in_ok-after-in-Some-clause-along : goal.returns-in_ok-after-in-Some-clause-along
returns-in_ok-after-in-Some-clause-along c =
    let d = c.args.self.now.dump.now.elements in
    let borne = c.args.self.now.borne.items in
    let x = id_value c.args.vertex.now in
    let after = along_value c.in_ok-after-in-Some.after in
    subst (AreAlong d borne x) (sym (c.or_later.ensures ∙ ap (λ o. or_later o after) (c.own_of-own.ensures ∙ ap (λ l. own_of d l x) c.deref.ensures.value)))
    (along_by d borne x after (Some (id_value c.in-Some.next.now)) (sym c.in-Some.ensures) c.in_ok-after-in-Some.ensures.along)

pub returns-in-None-clause-along : goal.returns-in-None-clause-along
returns-in-None-clause-along c =
    let d = c.args.self.now.dump.now.elements in
    let borne = c.args.self.now.borne.items in
    let x = id_value c.args.vertex.now in
    subst (AreAlong d borne x) (sym (c.own_of-own.ensures ∙ ap (λ l. own_of d l x) c.deref.ensures.value)) (along_alone d borne x (sym c.in-None.ensures))
