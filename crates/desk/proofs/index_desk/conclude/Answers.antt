use Rattle.std.proofs.Common.{rules}
use Rattle.machine.specs.Machine.{after}
use Rattle.desk.proofs.Serving.{refused_reading}
use Rattle.desk.proofs.index_desk.conclude.Goals as goal

pub returns-in_err-text-clause-served : goal.returns-in_err-text-clause-served
returns-in_err-text-clause-served g c good m command stood said =
    let next = after m command in
    let index = c.kept_reply.new.self in
    let held = refused_reading g.I.Index.stands g.I.Index.may_leave c.args.index.now index m next (c.kept_reply.ensures.reads.only good) (λ states. g.met.I.Index.weaker index states next) stood in
    search rules
