use Rattle.machine.specs.Requests.{query, query_value}
use Rattle.machine.specs.Runs.{own}
use Rattle.desk.proofs.RefusalStates.{refused_reply}
use Rattle.desk.proofs.index_desk.IndexDeskDesk.ask.Goals as goal

pub returns-in-Ok-clause-reply : goal.returns-in-Ok-clause-reply
returns-in-Ok-clause-reply g c = λ good m stood. own (c.in-Ok.ensures.found good m stood)

pub returns-in-Err-clause-reply : goal.returns-in-Err-clause-reply
returns-in-Err-clause-reply g c = λ good m stood.
    refused_reply g.I.Index.may_refuse m (query (query_value c.args.query.now)) c.refusal.result c.in-Err.fault c.refusal.ensures c.in-Err.ensures.reads.refused
