use Rattle.std.proofs.Common.{◌++◌, inl, inr, refl}
use Rattle.http_edge.specs.declared.refusal.Refusal.TheVariants.{BadHead, BodyCut}
use Rattle.http_edge.specs.Requests.{refused, message_of}
use Rattle.http_edge.proofs.MovedLemmas.{moves_more, moves_or_more}
use Rattle.http_edge.proofs.BodyLemmas.{gives_whole, gives_cut, cut_unended}
use Rattle.http_edge.proofs.reading.MessageReader.next.Goals as goal

pub returns-in-Ok-clause-message : goal.returns-in-Ok-clause-message
returns-in-Ok-clause-message g c =
    let framed = c.in-Ok-Some-Request-default in
    let head = rw (framed.field-0-is, framed.field-0-0-0-is) at framed.ensures.head in
    elim c.in-Ok.ensures.message [
      | inl body ↦ (
        head.0 ++ body.0,
        message_of _ _ body.1,
        moves_more _ _ _ head.0 body.0 head.1 body.2,
        rw (← c.self.view_is) (gives_whole _ head.0 _ body.0 _ body.1 _ _ _ framed.len _ _ head.2 head.3 body.3 body.4),
        body.5,
      )
      | inr body ↦ (
        head.0 ++ body.0,
        refused BodyCut,
        moves_more _ _ _ head.0 body.0 head.1 body.1,
        rw (← c.self.view_is) (gives_cut _ head.0 _ body.0 _ _ _ framed.len _ _ _ head.2 head.3 body.3 body.2 body.4),
        body.5,
      )
    ]

pub returns-in-Err-with_body-clause-message : goal.returns-in-Err-with_body-clause-message
returns-in-Err-with_body-clause-message g c =
    let framed = c.in-Ok-Some-Request-default in
    let head = rw (framed.field-0-is, framed.field-0-0-0-is) at framed.ensures.head in
    let body = c.in-Err-with_body.ensures.message in (
      head.0 ++ body.0,
      moves_or_more _ _ _ head.0 body.0 head.1 body.1,
      BodyCut,
      rw (← c.self.view_is) (cut_unended _ head.0 _ body.0 _ _ _ framed.len _ head.2 head.3 body.2),
    )

pub returns-in-Err-clause-message : goal.returns-in-Err-clause-message
returns-in-Err-clause-message g c =
    let head = c.in-Err.ensures.head in
    (head.0, head.1, BadHead, inl (rw (← c.self.view_is) head.2, refl))
