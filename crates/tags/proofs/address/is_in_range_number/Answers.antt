use Rattle.std.proofs.Common.{◌≡◌, ◌∙◌, ◌+◌, ◌*◌, ◌-◌, ◌<◌, true, drop, get_or, refl, sym, arith}
use Rattle.std.specs.Char.{is_ascii_digit}
use Rattle.tags.specs.Steps.Cutting.{greatest_number}
use Rattle.tags.proofs.AddressLemmas.{in_range-next, in_range_from-large}
use Rattle.tags.proofs.address.is_in_range_number.Goals as goal

pub returns-then-value-gt-GREATEST_NUMBER : goal.returns-then-value-gt-GREATEST_NUMBER
returns-then-value-gt-GREATEST_NUMBER c =
    let digit : is_ascii_digit (get_or c.args.digits.now c.loop-digit.digit-index 0) ≡ true = sym c.is_ascii_digit.ensures.value ∙ c.if-not-is_ascii_digit.false in
    let large : greatest_number < c.loop-digit.value * 10 + (get_or c.args.digits.now c.loop-digit.digit-index 0 - 48) = rw c.from.ensures at c.if-value-gt-GREATEST_NUMBER.true in
    sym (in_range_from-large (c.loop-digit.value * 10 + (get_or c.args.digits.now c.loop-digit.digit-index 0 - 48)) (drop (c.loop-digit.digit-index + 1) c.args.digits.now) large)
    ∙ sym (in_range-next c.loop-digit.value (get_or c.args.digits.now c.loop-digit.digit-index 0) c.args.digits.now c.loop-digit.digit-index (omega arith) refl digit)
    ∙ c.loop-digit.invariant.rest
