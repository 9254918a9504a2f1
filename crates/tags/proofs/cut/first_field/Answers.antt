use Rattle.std.proofs.Common.{◌∙◌, sym, ap}
use Rattle.tags.specs.Bytes.{tab}
use Rattle.tags.proofs.AroundLemmas.{split-around, parts_by}
use Rattle.tags.proofs.cut.first_field.Goals as goal

pub returns-in-Some-clause-value : goal.returns-in-Some-clause-value
returns-in-Some-clause-value c = split-around tab c.args.fields.now ∙ ap (parts_by tab c.args.fields.now) (sym c.in-Some.ensures.value)

pub returns-in-None-clause-value : goal.returns-in-None-clause-value
returns-in-None-clause-value c = split-around tab c.args.fields.now ∙ ap (parts_by tab c.args.fields.now) (sym c.in-None.ensures.value)
