use Rattle.std.proofs.Common.{◌∙◌, ap, arith}
use Rattle.std.proofs.lemmas.Int.{ints}
use Rattle.std.specs.Str.Parse.{ParsesUnsigned, ExplainsUnsignedError, HasUnsignedDigitsIfOk}
use Rattle.clap.proofs.WalkLemmas.{one_text-rows}
use Rattle.clap.specs.Words.{found_of}
use Rattle.calls.specs.Call.{number_named}
use Rattle.calls.proofs.Numbers.{named}
use Rattle.calls.proofs.call.number_of.Goals as goal

pub returns-clause-number : goal.returns-clause-number
returns-clause-number c =
    c.up_to.ensures.number ∙ named (λ digits r. ParsesUnsigned 32 10 digits r × ExplainsUnsignedError 10 digits r × HasUnsignedDigitsIfOk digits r) 32 c.args.most _ _ (λ digits r g. g.0) (omega (arith, ints, c.ranges.most)) c.get_one.ensures.none c.get_one.ensures.value
    ∙ ap (number_named c.args.most) (one_text-rows (found_of c.args.found.now) c.args.id.now)
