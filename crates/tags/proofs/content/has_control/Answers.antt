use Rattle.std.proofs.Common.{◌∙◌, ap, sym}
use Rattle.std.proofs.lemmas.List.Folds.{list_any_more}
use Rattle.std.proofs.lemmas.List.{take_all}
use Rattle.std.specs.List.{list_any}
use Rattle.tags.specs.Conditions.{is_control}
use Rattle.tags.proofs.content.has_control.Goals as goal

pub loop-byte-preserved : goal.loop-byte-preserved
loop-byte-preserved c =
    rw (c.loop-byte.invariant, c.is_control-found.ensures) (sym (list_any_more is_control c.args.line.now c.loop-byte.byte-index 0 c.loop-byte-test.true))

pub returns : goal.returns
returns c = c.loop-byte.invariant ∙ ap (list_any is_control) (take_all c.loop-byte.byte-index c.args.line.now c.loop-byte-test.false)
