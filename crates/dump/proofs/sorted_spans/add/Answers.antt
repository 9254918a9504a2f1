use Rattle.std.proofs.Common.{◌∙◌, ◌++◌, ◌∷◌, [], ap, take}
use Rattle.dump.proofs.Reaches.{added}
use Rattle.dump.proofs.sorted_spans.add.Goals as goal

pub returns-clause-ok : goal.returns-clause-ok
returns-clause-ok c =
    let n = c.staying-count.result in
    let before = c.truncate.ensures.items ∙ ap (take n) c.reserve.ensures.items in
    let after = c.push_reserved.ensures.items ∙ ap (λ ls. ls ++ c.in_ok-last.last ∷ []) before ∙ ap (λ xs. take n c.args.lists.now.items ++ xs ∷ []) c.in_ok-last.ensures in
    added c.args.lists.now.items c.push_reserved.new.self.items n c.args.targets.items c.sort.new.spans.items c.in_ok-spans.spans.items c.sort.ensures.permutation (rw c.deref-2.ensures.value at c.in_ok-spans.ensures.all) after
