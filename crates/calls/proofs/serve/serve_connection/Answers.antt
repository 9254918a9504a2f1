use Rattle.calls.proofs.Connections.{stays, unheard}
use Rattle.calls.proofs.serve.serve_connection.Goals as goal

pub returns-in-None-clause-served : goal.returns-in-None-clause-served
returns-in-None-clause-served g c = (unheard, λ k m s. (m, stays g.D.Desk.store_may_refuse m, s, λ states h. h))
