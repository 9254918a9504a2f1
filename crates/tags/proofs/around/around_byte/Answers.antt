use Rattle.std.proofs.Common.{sym, ◌+◌, take, drop}
use Rattle.std.proofs.lemmas.List.{take_rest}
use Rattle.tags.proofs.AroundLemmas.{around-position}
use Rattle.tags.proofs.TextLemmas.{around-texts}
use Rattle.tags.proofs.around.around_byte.Goals as goal

pub returns-clause-value : goal.returns-clause-value
returns-clause-value c =
    rw take_rest (sym (around-position c.args.separator c.in_ok-place.place c.args.bytes.now (sym c.in_ok-place.ensures)))

pub returns-clause-texts : goal.returns-clause-texts
returns-clause-texts c = λ ascii text.
    rw take_rest (around-texts c.args.separator c.args.bytes.now (take c.in_ok-place.place c.args.bytes.now) (drop (c.in_ok-place.place + 1) c.args.bytes.now) ascii text (around-position c.args.separator c.in_ok-place.place c.args.bytes.now (sym c.in_ok-place.ensures)))
