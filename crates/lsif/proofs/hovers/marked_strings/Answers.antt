use Rattle.std.proofs.Common.{◌∙◌, sym, ap, arith, append-nil, map, option_map}
use Rattle.std.proofs.lemmas.List.{map-append}
use Rattle.serde_json.specs.View.{view, items_of}
use Rattle.lsif.specs.Hovers.{marked_in}
use Rattle.lsif.proofs.ItemLists.{rest_of-none, rest_of-end, front-next}
use Rattle.lsif.proofs.hovers.marked_strings.Goals as goal

pub returns-in_default : goal.returns-in_default
returns-in_default c =
    let none = rw c.in_default.is at c.in_ok-kept.ensures in
    let rest = rest_of-none marked_in c.args.values.now c.loop-value.value-index c.value-item.result (omega arith) c.value-item.is (sym none) in
    let whole = rw rest at c.loop-value.invariant in
    ap (option_map items_of) whole

pub loop-value-preserved : goal.loop-value-preserved
loop-value-preserved c =
    let some = rw c.in-Some.is at c.in_ok-kept.ensures in
    let next = front-next marked_in c.args.values.now c.loop-value.value-index c.value-item.result (view c.in-Some.kept) (map view c.loop-value.found.items) (omega arith) c.value-item.is (sym some) in
    rw (c.in_ok-push.ensures.items, map-append) (next ∙ c.loop-value.invariant)

pub returns : goal.returns
returns c =
    let done = rest_of-end marked_in c.args.values.now c.loop-value.value-index (omega arith) in
    let whole = rw done at c.loop-value.invariant in
    let kept = rw append-nil at whole in
    ap (option_map items_of) kept
