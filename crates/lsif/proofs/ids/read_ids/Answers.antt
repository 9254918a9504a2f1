use Rattle.std.proofs.Common.{◌∙◌, sym, arith, append-nil}
use Rattle.lsif.specs.Lent.{lent_value}
use Rattle.lsif.specs.Ids.{id_in}
use Rattle.lsif.proofs.ItemLists.{rest_of-none, rest_of-end, front-next}
use Rattle.lsif.proofs.ids.read_ids.Goals as goal

pub returns-in_default : goal.returns-in_default
returns-in_default c =
    let none = rw c.in_default.is at c.id_in.ensures.id in
    let rest = rest_of-none id_in c.args.values.now c.loop-value.value-index c.value-item.result (omega arith) c.value-item.is (sym none) in
    rw rest at c.loop-value.invariant

pub loop-value-preserved : goal.loop-value-preserved
loop-value-preserved c =
    let some = rw c.in-Some.is at c.id_in.ensures.id in
    let next = front-next id_in c.args.values.now c.loop-value.value-index c.value-item.result (lent_value c.in-Some.id) c.loop-value.found (omega arith) c.value-item.is (sym some) in
    rw c.in_ok-push.ensures (next ∙ c.loop-value.invariant)

pub returns : goal.returns
returns c =
    let done = rest_of-end id_in c.args.values.now c.loop-value.value-index (omega arith) in
    let whole = rw done at c.loop-value.invariant in
    rw append-nil at whole
