use Rattle.std.proofs.Common.{arith, length, get_or}
use Rattle.http_edge.proofs.FieldLemmas.{small_fits, is_digit_small}
use Rattle.http_edge.proofs.fields.read_length.Goals as goal

pub overflow_mul-length : goal.overflow_mul-length
overflow_mul-length c =
    let fits = small_fits c.loop-digit.length c.loop-digit.digit-index (length c.args.text.now) c.loop-digit.invariant.small c.loop-digit-test.true (omega (arith, c.if-text-gt-LENGTH_DIGITS.false)) in omega (arith, fits)

pub overflow_add-length : goal.overflow_add-length
overflow_add-length c =
    let fits = small_fits c.loop-digit.length c.loop-digit.digit-index (length c.args.text.now) c.loop-digit.invariant.small c.loop-digit-test.true (omega (arith, c.if-text-gt-LENGTH_DIGITS.false)) in
    let digit = is_digit_small (get_or c.args.text.now c.loop-digit.digit-index 0) c.if-not-is_ascii_digit.ensures.value in omega (arith, fits, digit)
