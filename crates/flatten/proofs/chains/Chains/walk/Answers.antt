use Rattle.std.proofs.Common.{◌≡◌, ◌∙◌, ◌+◌, ◌++◌, ◌∷◌, [], map, sym, ap, subst}
use Rattle.std.proofs.lemmas.List.{map-append}
use Rattle.lsif.specs.Element.{id_value}
use Rattle.flatten.proofs.ChainWalks.{Walking, walking_first, walking_on}
use Rattle.flatten.proofs.chains.Chains.walk.Goals as goal

pub loop-step-init : goal.loop-step-init
loop-step-init c =
    let d = c.args.self.now.dump.now.elements in
    let from = id_value c.args.vertex.now in
    let chain = c.chain_law.ensures.chain d c.elements.ensures.faultless from in
    subst (λ path. Walking d from from (map (λ i. id_value i.now) path) 0) (sym c.new-path.ensures.items) (walking_first d from chain.0 chain.1 (c.chain_law.ensures.short d from chain.0 chain.1))

pub loop-step-preserved : goal.loop-step-preserved
loop-step-preserved c =
    let d = c.args.self.now.dump.now.elements in
    let from = id_value c.args.vertex.now in
    let at = id_value c.loop-step.at.now in
    let next = id_value c.in-Some-next.next.now in
    let path = map (λ i. id_value i.now) c.loop-step.path.items in
    let pushed : map (λ i. id_value i.now) c.push.new.self.items ≡ path ++ at ∷ [] = ap (map (λ i. id_value i.now)) c.in_ok-push.ensures.items ∙ map-append (λ i. id_value i.now) c.loop-step.path.items (c.loop-step.at ∷ []) in
    subst (λ p. Walking d from next p (c.loop-step._step + 1)) (sym pushed) (walking_on d from at next path c.loop-step._step c.loop-step.invariant (sym c.in-Some-next.ensures))
