use Rattle.std.proofs.Common.{◌∙◌, [], map, sym, subst, arith}
use Rattle.std.specs.Prelude.{IsPermutation}
use Rattle.flatten.specs.Steps.Borne.{IsBorneBy}
use Rattle.flatten.specs.Steps.Kinds.{AreThose, is_moniker_edge, said}
use Rattle.flatten.specs.Steps.Tables.{Adds, OfOne}
use Rattle.flatten.proofs.Listing.{adds_done, adds_same, adds_step}
use Rattle.flatten.proofs.MarkRows.{borne_listed}
use Rattle.flatten.proofs.NumberPairs.{number_ones, vertex_numbers}
use Rattle.flatten.proofs.OfKinds.{borne_of_edges}
use Rattle.flatten.proofs.borne.borne.Goals as goal

pub loop-element-preserved : goal.loop-element-preserved
loop-element-preserved c =
    let d = c.args.kinds.now.dump.now.elements in
    let old = c.loop-element.pairs.items in
    let more = c.add_borne.new.pairs.items in
    let x = c.element-item.result in
    adds_step said (IsBorneBy d c.in_ok-attached-2.attached.items) [] old more c.deref-element-items.result.now c.loop-element.element-index x
    (omega (arith, c.loop-element-test.true)) c.element-item.is c.loop-element.invariant (subst (λ ps. Adds old (IsBorneBy d ps (said x)) more) c.deref-in-loop-element.ensures.value c.in_ok-add_borne.ensures)

pub returns-clause-borne : goal.returns-clause-borne
returns-clause-borne c =
    let d = c.args.kinds.now.dump.now.elements in
    let free = c.requires.faultless in
    let attached = c.in_ok-attached-2.attached.items in
    let pairs = c.loop-element.pairs.items in
    let sorted = c.in_ok-by_source.field-0.items in
    let P = IsBorneBy d attached in
    let moved = subst (λ xs. IsPermutation xs attached) (c.deref.ensures.value ∙ c.in_ok-attached.ensures) c.in_ok-attached-2.ensures.all in
    let list = c.deref-element-items.result.now in
    let those = subst (AreThose is_moniker_edge d) (sym c.deref-element-items.ensures.value) c.requires.moniker_edges in
    let added = adds_same [] (OfOne P (map said list)) (OfOne P d) pairs (borne_of_edges d attached list those) (adds_done said P [] pairs list c.loop-element.element-index (omega (arith, c.loop-element-test.false)) c.loop-element.invariant) in
    borne_listed d (number_ones d (c.line_law.ensures.one d)) (c.ends_law.ensures d free) (vertex_numbers d (c.line_law.ensures.there d free)) attached pairs sorted moved added
    (subst (λ xs. IsPermutation xs sorted) c.deref-2.ensures.value c.in_ok-by_source.ensures.all)
