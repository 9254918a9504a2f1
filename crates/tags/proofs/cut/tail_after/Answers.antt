use Rattle.std.proofs.Common.{◌<◌, length, get_or, arith}
use Rattle.std.proofs.lemmas.List.{take_rest}
use Rattle.std.proofs.lemmas.Str.{IsUtf8-drop, IsCharBoundary-after_ascii}
use Rattle.tags.proofs.cut.tail_after.Goals as goal

pub returns-in-59-clause-texts : goal.returns-in-59-clause-texts
returns-in-59-clause-texts c = λ text.
    let lt : 2 < length c.args.after.now = omega arith in
    let low : get_or c.args.after.now 2 0 < 128 = omega arith in
    rw take_rest (IsUtf8-drop c.args.after.now 3 text (IsCharBoundary-after_ascii c.args.after.now 2 text lt low))
