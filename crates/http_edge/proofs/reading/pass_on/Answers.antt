use Rattle.std.proofs.Common.{sym, ap, ◌∙◌}
use Rattle.machine.specs.Requests.{command}
use Rattle.http_edge.specs.Requests.{request}
use Rattle.http_edge.proofs.reading.pass_on.Goals as goal

pub returns-in-Asked-Upload-clause-asked : goal.returns-in-Asked-Upload-clause-asked
returns-in-Asked-Upload-clause-asked c = λ method target body asked.
    let asks = rw (c.in-Asked-Upload.is, c.in-Asked-Upload.field-0-is) at asked in
    (c.piece.ensures.stands body asks.0, λ whole. asks.1 whole ∙ ap (λ k. request (command k)) (sym (c.piece.ensures.same whole)))
