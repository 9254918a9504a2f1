use Rattle.std.proofs.Common.{◌+◌, take, drop, sym, arith, ◌∙◌, length-drop, inl, inr, ap}
use Rattle.std.proofs.lemmas.List.{take-append-drop, take_rest}
use Rattle.streams.proofs.Sendings.{gains_more, gains_hides, sent_more, zero_writes_kept, one_zero_write, has_rest}
use Rattle.streams.proofs.sending.push_all.Goals as goal

pub returns-in-Ok-eq0 : goal.returns-in-Ok-eq0
returns-in-Ok-eq0 g c =
    let i = c.sending.invariant in
    let pushed = rw (take_rest c.args.bytes.now c.sending.sent) at c.in-Ok-eq0.ensures.bytes in
    let sent = c.sending.sent + c.in-Ok-eq0.field-0 in (
      take sent c.args.bytes.now,
      drop sent c.args.bytes.now,
      sym (take-append-drop sent c.args.bytes.now),
      has_rest c.args.bytes.now sent (let t = c.sending-test.true in omega (arith, c.in-Ok-eq0.field-0-is)),
      inr (
        rw (← sent_more c.args.bytes.now c.sending.sent c.in-Ok-eq0.field-0) (gains_more _ _ _ _ _ i.written.0 pushed.0),
        (pushed.1 ∙ i.written.1.0, one_zero_write _ _ c.in-Ok-eq0.field-0 (drop c.sending.sent c.args.bytes.now) pushed.2 c.in-Ok-eq0.field-0-test (rw length-drop (let t = c.sending-test.true in omega arith)) ∙ ap (λ n. n + 1) i.written.1.1),
      ),
    )

pub sending-preserved : goal.sending-preserved
sending-preserved g c =
    let i = c.sending.invariant in
    let pushed = rw (take_rest c.args.bytes.now c.sending.sent) at c.in-Ok.ensures.bytes in
    record {
      written = (
        rw (← sent_more c.args.bytes.now c.sending.sent c.in-Ok.count) (gains_more _ _ _ _ _ i.written.0 pushed.0),
        (pushed.1 ∙ i.written.1.0, zero_writes_kept _ _ c.in-Ok.count _ pushed.2 c.in-Ok.count-test.1 ∙ i.written.1.1),
      );
      within = let w = rw (take_rest c.args.bytes.now c.sending.sent, length-drop) at c.in-Ok.ensures.within in let t = c.sending-test.true in omega arith;
    }

pub returns-in-Err : goal.returns-in-Err
returns-in-Err g c =
    let i = c.sending.invariant in (
      take c.sending.sent c.args.bytes.now,
      drop c.sending.sent c.args.bytes.now,
      sym (take-append-drop c.sending.sent c.args.bytes.now),
      has_rest c.args.bytes.now c.sending.sent c.sending-test.true,
      inl (gains_hides _ _ _ _ i.written.0 c.in-Err.ensures.bytes.0, (c.in-Err.ensures.bytes.1.0 ∙ ap (λ n. n + 1) i.written.1.0, c.in-Err.ensures.bytes.1.1 ∙ i.written.1.1)),
    )
