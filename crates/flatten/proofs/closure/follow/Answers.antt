use Rattle.std.proofs.Common.{◌≡◌, ◌∙◌, ◌<◌, ◌≤◌, length, get_or, ap, subst}
use Rattle.std.proofs.lemmas.List.{get_or_default}
use Rattle.flatten.proofs.Closures.{going_first, going_more, going_all}
use Rattle.flatten.proofs.closure.follow.Goals as goal

pub loop-done-init : goal.loop-done-init
loop-done-init c = going_first c.args.found.now c.args.pairs.now

pub loop-done-preserved : goal.loop-done-preserved
loop-done-preserved c =
    let found = c.loop-done.found in
    let done = c.loop-done.done in
    let lt : done < length found = subst (λ xs. done < length xs) c.numbers.ensures c.loop-done-test.true in
    let source = get_or c.numbers-in-loop-done.result.now done 0 in
    let is : source ≡ get_or found done source = ap (λ xs. get_or xs done 0) c.numbers-in-loop-done.ensures ∙ get_or_default found done 0 source lt in
    going_more c.args.found.now c.args.pairs.now found c.add_targets.new.found done source c.loop-done.invariant lt is (rw c.pairs_from-targets.ensures at c.in_ok-add_targets.ensures)

pub returns : goal.returns
returns c =
    let found = c.loop-done.found in
    let done = c.loop-done.done in
    let le : length found ≤ done = subst (λ xs. length xs ≤ done) c.numbers.ensures c.loop-done-test.false in
    going_all c.args.found.now c.args.pairs.now found done c.loop-done.invariant le
