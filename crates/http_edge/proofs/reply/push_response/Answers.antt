use Rattle.std.proofs.Common.{Err, ◌∙◌}
use Rattle.std.specs.Prelude.{length}
use Rattle.http_edge.specs.Replies.{head_text}
use Rattle.http_edge.proofs.ReplyLemmas.{sends_more, sends_less, sends_same, then_the_rest}
use Rattle.http_edge.proofs.reply.push_response.Goals as goal

pub returns-in-Ok : goal.returns-in-Ok
returns-in-Ok g c =
    sends_same _ _ _ _ c.push_all-in-Ok.result
    (then_the_rest (head_text c.args.status c.args.allow (length c.args.body.now)) c.args.body.now c.bytes.result.now c.join-count.result
    (rw (c.as_bytes.ensures.value, c.as_str.ensures.value, c.head-head.ensures, c.as_bytes-2.ensures.value) at (c.bytes.ensures ∙ c.join-count.ensures.bytes)))
    (sends_more _ _ _ c.bytes.result.now _ _ c.in-Ok.ensures (rw c.as_bytes-in-Ok.ensures.value at c.push_all-in-Ok.ensures))

pub returns-in-Err : goal.returns-in-Err
returns-in-Err g c =
    sends_same _ _ _ _ (Err c.in-Err.e)
    (then_the_rest (head_text c.args.status c.args.allow (length c.args.body.now)) c.args.body.now c.bytes.result.now c.join-count.result
    (rw (c.as_bytes.ensures.value, c.as_str.ensures.value, c.head-head.ensures, c.as_bytes-2.ensures.value) at (c.bytes.ensures ∙ c.join-count.ensures.bytes)))
    (sends_less _ _ c.bytes.result.now _ c.in-Err.e c.in-Err.ensures)
