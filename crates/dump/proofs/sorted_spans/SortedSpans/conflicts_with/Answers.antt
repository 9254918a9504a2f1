use Rattle.std.proofs.Common.{◌≡◌, ◌∙◌, ◌||◌, false, sym, ap₂, arith}
use Rattle.dump.specs.Steps.Spans.{conflicts_before}
use Rattle.dump.proofs.Reaches.{compared, pair_clear}
use Rattle.dump.proofs.sorted_spans.SortedSpans.conflicts_with.Goals as goal

pub returns-else-conflicts_with_left : goal.returns-else-conflicts_with_left
returns-else-conflicts_with_left c =
    let xs = c.args.self.now in
    let t = c.args.span in
    let k = c.count_up_to-up_to.result in
    let p = c.reaching-left.result in
    let q = c.reaching-right.result in
    let same = c.spans-spans.ensures.value in
    let up_to = rw same at c.count_up_to-up_to.ensures in
    let started = rw (same, c.end.ensures) at c.count_started-started.ensures in
    let left = rw (same, c.start.ensures) at c.reaching-left.ensures in
    let right = rw (same, c.end-2.ensures) at c.reaching-right.ensures in
    let all = compared xs t c.spans-spans.ensures.ordered k p up_to.bound (λ i j d less lt. pair_clear xs c.requires i j d less (omega (arith, lt, up_to.bound))) up_to.before left.bound left.over left.reaches
    c.count_started-started.result q up_to.after started.bound started.before started.after right.bound right.over right.reaches in
    let no_last : conflicts_before xs k t ≡ false = sym (rw same at c.conflicts_before-conflicts_with_last.ensures) ∙ c.if-conflicts_with_left.false.0 in
    let no_left : conflicts_before xs p t ≡ false = sym (rw same at c.conflicts_before-conflicts_with_left.ensures) ∙ c.if-conflicts_with_left.false.1 in
    (rw same at c.conflicts_before-conflicts_with_right.ensures) ∙ sym (ap₂ (λ a b. (a || b) || conflicts_before xs q t) no_last no_left) ∙ all
