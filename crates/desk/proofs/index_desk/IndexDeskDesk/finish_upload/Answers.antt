use Rattle.machine.specs.Requests.{command}
use Rattle.machine.specs.Runs.{own}
use Rattle.machine.specs.Uploads.{command_of}
use Rattle.desk.proofs.RefusalStates.{leaves, refused_reply, stays}
use Rattle.desk.proofs.index_desk.IndexDeskDesk.finish_upload.Goals as goal

pub returns-in-Err-clause-state : goal.returns-in-Err-clause-state
returns-in-Err-clause-state g c = λ good m body stood stands.
    stays m (command_of c.args.upload body) c.refusal.result (λ n. g.I.Index.stands c.finish.new.self.index n) c.in-Err.fault c.refusal.ensures (c.in-Err.ensures.served good m body stood stands).err.state

pub returns-in-Err-clause-left : goal.returns-in-Err-clause-left
returns-in-Err-clause-left g c = λ good m states body stood left stands.
    leaves m (command_of c.args.upload body) c.refusal.result (λ left. g.I.Index.may_leave c.finish.new.self.index left) states c.in-Err.fault c.refusal.ensures ((c.in-Err.ensures.served good m body stood stands).err.left states left)

pub returns-in-Ok-clause-reply : goal.returns-in-Ok-clause-reply
returns-in-Ok-clause-reply g c = λ good m body stood stands. own (c.in-Ok.ensures.served good m body stood stands).reply

pub returns-in-Err-clause-reply : goal.returns-in-Err-clause-reply
returns-in-Err-clause-reply g c = λ good m body stood stands.
    refused_reply g.I.Index.may_refuse m (command (command_of c.args.upload body)) c.refusal.result c.in-Err.fault c.refusal.ensures c.in-Err.ensures.refused
