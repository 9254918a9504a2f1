use Rattle.std.proofs.Common.{◌∙◌, ◌++◌, map, sym, ap, subst, append-nil}
use Rattle.std.proofs.Math.ListN.{drop_of_length-le}
use Rattle.std.specs.List.{flat_map}
use Rattle.dump.specs.Monikers.{attach_pairs_of}
use Rattle.flatten.specs.Steps.Kinds.{AreThose, is_moniker_edge, said}
use Rattle.flatten.specs.Steps.Numbers.{pairs_in}
use Rattle.flatten.proofs.OfKinds.{attached_of}
use Rattle.flatten.proofs.borne.attached.Goals as goal

pub returns : goal.returns
returns c =
    let d = c.args.kinds.now.dump.now.elements in
    let list = c.deref-element-items.result.now in
    let those = subst (AreThose is_moniker_edge d) (sym c.deref-element-items.ensures.value) c.requires.moniker_edges in
    let pairs = c.loop-element.pairs.items in
    let empty = drop_of_length-le list c.loop-element-test.false in
    sym (append-nil pairs) ∙ ap (λ es. pairs ++ flat_map (pairs_in attach_pairs_of d) (map said es)) (sym empty) ∙ c.loop-element.invariant ∙ attached_of d list those
