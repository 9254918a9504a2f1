use Rattle.std.proofs.Common.{inl, arith, rules}
use Rattle.http_edge.proofs.BodyLemmas.{said}
use Rattle.http_edge.proofs.HeadLemmas.{head_limit_is}
use Rattle.http_edge.proofs.reading.MessageReader.with_body.Goals as goal
use Rattle.http_edge.proofs.reading.MessageReader.with_body.Goals.{in-Ok-true, in-Ok-false, in-Err}

pub read_body-requires-clause-room : goal.read_body-requires-clause-room
read_body-requires-clause-room g c = let room = rw head_limit_is at c.self.invariant.1 in rw c.advance.ensures.capacity (omega arith)

pub returns-clause-message : goal.returns-clause-message
returns-clause-message g c = elim c.match-read_body.branch [
  | in-Ok-true w ↦
      let asks = rw (c.of-method.ensures, c.of-target.ensures, c.pending-held.ensures.bytes, c.self.view_is) at c.read_request-asked.ensures in
      let body = rw w.in-Ok-true.field-0-test at w.in-Ok-true.ensures.body in
      rw w.result-is (inl (
        body.0,
        body.1,
        body.2,
        rw (← c.self.view_is, ← c.advance.ensures.pending) body.3,
        body.4,
        said c.read_body.new.message _ _ body.1 (body.5 _ _ (c.begin-message.ensures.asked _ _ asks)),
      ))
  | in-Ok-false w ↦ search rules
  | in-Err w ↦ search rules
]
