use Rattle.std.proofs.Common.{◌≡◌, ◌∙◌, ◌<◌, ◌+◌, ◌-◌, ◌++◌, ◌∷◌, [], Some, None, false, get_or, is_some, length, string_bytes, sym, ap, arith}
use Rattle.std.specs.Str.{IsUtf8}
use Rattle.std.proofs.lemmas.Str.{IsCharBoundary-after_ascii, encode_ascii}
use lib.Utf8.{encode}
use Rattle.tags.specs.Escapes.{decoded}
use Rattle.tags.specs.Steps.Escapes.{escape_at}
use Rattle.tags.proofs.EscapeLemmas.{decoded-step, decoded-stop, decoded-end}
use Rattle.tags.proofs.escape.decode.Goals as goal

pub unreachable-requires : goal.unreachable-requires
unreachable-requires c =
    let none : escape_at c.in-Some.escape.now ≡ None = rw c.as_bytes.ensures.value at (sym c.in_default-escape_at.ensures.value) in
    let stop : decoded c.args.written.now ≡ None =
    sym c.loop-before.invariant.value ∙ decoded-stop (string_bytes c.loop-before.value) c.loop-before.rest.now c.in-Some.before.now c.in-Some.escape.now (sym c.in-Some.ensures.value) none in
    let no : is_some (decoded c.args.written.now) ≡ false = ap is_some stop in
    cc

pub range_from-rest-requires : goal.range_from-rest-requires
range_from-rest-requires c = λ positive.
    let text : IsUtf8 c.in-Some.escape.now = rw c.as_bytes.ensures.value at c.as_bytes.ensures.utf8 in
    let within_bytes : c.in-Some-escape_at.len - 1 < length c.as_bytes.result.now = omega (arith, c.in-Some-escape_at.ensures.within.0, c.in-Some-escape_at.ensures.within.1) in
    let within : c.in-Some-escape_at.len - 1 < length c.in-Some.escape.now = rw c.as_bytes.ensures.value at within_bytes in
    let ascii : get_or c.in-Some.escape.now (c.in-Some-escape_at.len - 1) 0 < 128 = rw c.as_bytes.ensures.value at c.in-Some-escape_at.ensures.ascii in
    let same : c.in-Some-escape_at.len - 1 + 1 ≡ c.in-Some-escape_at.len = omega arith in
    rw same at (IsCharBoundary-after_ascii c.in-Some.escape.now (c.in-Some-escape_at.len - 1) text within ascii)

pub loop-before-preserved : goal.loop-before-preserved
loop-before-preserved c =
    let escape : escape_at c.in-Some.escape.now ≡ Some (c.in-Some-escape_at.byte, c.in-Some-escape_at.len) = rw c.as_bytes.ensures.value at (sym c.in-Some-escape_at.ensures.value) in
    let pushed : string_bytes c.push.new.self ≡ (string_bytes c.loop-before.value ++ c.in-Some.before.now) ++ c.in-Some-escape_at.byte ∷ [] =
    c.in_ok-push.ensures.bytes ∙ ap (λ bs. bs ++ encode c.from.result) c.in_ok-push_str.ensures.bytes ∙ ap (λ bs. (string_bytes c.loop-before.value ++ c.in-Some.before.now) ++ bs) (rw c.from.ensures (encode_ascii c.in-Some-escape_at.byte c.in-Some-escape_at.ensures.byte)) in
    record {
      text = c.range_from-rest.utf8;
      value = rw (pushed, c.range_from-rest.ensures.value) (decoded-step (string_bytes c.loop-before.value) c.loop-before.rest.now c.in-Some.before.now c.in-Some.escape.now c.in-Some-escape_at.byte c.in-Some-escape_at.len (sym c.in-Some.ensures.value) escape ∙ c.loop-before.invariant.value);
    }

pub returns : goal.returns
returns c =
    let all : string_bytes c.push_str-2.new.self ≡ string_bytes c.loop-before.value ++ c.loop-before.rest.now = c.in_ok-push_str-2.ensures.bytes in
    rw all (sym c.loop-before.invariant.value ∙ decoded-end (string_bytes c.loop-before.value) c.loop-before.rest.now (sym c.in_default.ensures.value))
