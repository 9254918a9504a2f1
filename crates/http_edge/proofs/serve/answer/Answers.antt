use Rattle.std.proofs.Common.{sym, subst}
use Rattle.machine.specs.Reply.{ReplyValue}
use Rattle.http_edge.specs.Replies.{replied}
use Rattle.http_edge.specs.Serving.{MayAnswer}
use Rattle.http_edge.proofs.KnownReplies.{known_leaves, known_may, known_stays}
use Rattle.http_edge.proofs.Runs.{out_of_memory_may}
use Rattle.http_edge.proofs.serve.answer.Goals as goal

pub returns-in-OutOfMemory-clause-answer : goal.returns-in-OutOfMemory-clause-answer
returns-in-OutOfMemory-clause-answer g c = λ good m asked stood known says.
    subst (λ (r : ReplyValue). MayAnswer g.D.Desk.store_may_refuse m asked (replied r)) (sym c.out_of_memory.ensures) (out_of_memory_may g.D.Desk.store_may_refuse m asked)

pub returns-in-Known-clause-answer : goal.returns-in-Known-clause-answer
returns-in-Known-clause-answer g c = λ good m asked stood known says.
    let said = rw c.in-Known.is at says in
    let holds = rw c.in-Known.is at known in
    known_may g.D.Desk.store_may_refuse m c.in-Known.upload said.0 c.in-Known.reply asked said.1 holds

pub returns-in-Known-clause-state : goal.returns-in-Known-clause-state
returns-in-Known-clause-state g c = λ good m asked stood known says.
    let said = rw c.in-Known.is at says in
    let holds = rw c.in-Known.is at known in
    subst (λ n. g.D.Desk.stands c.args.desk.now n) (sym (known_stays g.D.Desk.store_may_refuse m c.in-Known.upload said.0 c.in-Known.reply asked said.1 holds)) stood

pub returns-in-Known-clause-left : goal.returns-in-Known-clause-left
returns-in-Known-clause-left g c = λ good m states asked stood left known says.
    let said = rw c.in-Known.is at says in
    let holds = rw c.in-Known.is at known in
    known_leaves (λ left. g.D.Desk.may_leave c.args.desk.now left) (λ states n. g.met.D.Desk.weaker c.args.desk.now states n) g.D.Desk.store_may_refuse m states
    c.in-Known.upload said.0 c.in-Known.reply asked said.1 holds left
