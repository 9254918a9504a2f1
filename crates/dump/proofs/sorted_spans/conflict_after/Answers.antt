use Rattle.std.proofs.Common.{◌∙◌, ap, sym}
use Rattle.dump.specs.Contained.{has_conflict}
use Rattle.dump.specs.Steps.Spans.{joined}
use Rattle.dump.proofs.Reaches.{sorted_hit, sorted_miss}
use Rattle.dump.proofs.sorted_spans.conflict_after.Goals as goal

pub returns-then-conflict_with : goal.returns-then-conflict_with
returns-then-conflict_with c = sorted_hit c.args.targets.items c.sort.new.spans.items (joined c.args.lists.now) c.sort.ensures.permutation (sym (rw (c.spans.ensures.value, c.in_ok-targets.ensures) at c.if-conflict_with.ensures))

pub returns : goal.returns
returns c =
    c.has_conflict.ensures ∙ ap has_conflict c.in_ok-targets.ensures
    ∙ sorted_miss c.args.targets.items c.sort.new.spans.items (joined c.args.lists.now) c.sort.ensures.permutation (sym (rw (c.spans.ensures.value, c.in_ok-targets.ensures) at c.if-conflict_with.ensures))
