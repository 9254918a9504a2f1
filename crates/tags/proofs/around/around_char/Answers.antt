use Rattle.std.proofs.lemmas.Str.Pattern.{split_once_first}
use Rattle.tags.proofs.AroundLemmas.{around-split}
use Rattle.tags.proofs.around.around_char.Goals as goal

pub returns-clause-value : goal.returns-clause-value
returns-clause-value c = around-split c.args.separator c.args.text.now c.split_once.result (split_once_first c.args.separator c.args.text.now c.split_once.result c.split_once.ensures.cases c.requires)
