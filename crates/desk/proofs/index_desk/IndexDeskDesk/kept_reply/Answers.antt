use Rattle.desk.proofs.KeptReplies.{known, unknown}
use Rattle.desk.proofs.RefusalStates.{refused_known}
use Rattle.desk.proofs.index_desk.IndexDeskDesk.kept_reply.Goals as goal

pub returns-in-Ok-Some-clause-reply : goal.returns-in-Ok-Some-clause-reply
returns-in-Ok-Some-clause-reply g c = λ good m stood.
    let text = rw (c.in-Ok-Some.field-0-is, c.as_str.ensures.value, c.as_str-2.ensures.value) at (c.in-Ok-Some.ensures.found good m stood) in
    known g.I.Index.may_refuse m c.args.project.now c.args.key.now _ c.made.result text c.made.ensures

pub returns-in-Ok-None-clause-reply : goal.returns-in-Ok-None-clause-reply
returns-in-Ok-None-clause-reply g c = λ good m stood.
    let text = rw (c.in-Ok-None.field-0-is, c.as_str.ensures.value, c.as_str-2.ensures.value) at (c.in-Ok-None.ensures.found good m stood) in
    unknown g.I.Index.may_refuse m c.args.project.now c.args.key.now text

pub returns-in-Err-clause-reply : goal.returns-in-Err-clause-reply
returns-in-Err-clause-reply g c = λ good m stood.
    refused_known g.I.Index.may_refuse m c.args.project.now c.args.key.now c.refusal.result c.in-Err.fault c.refusal.ensures c.in-Err.ensures.reads.refused
