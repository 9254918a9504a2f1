use Rattle.std.proofs.Common.{List, ◌∷◌, [], ◌++◌, ◌∙◌, take, arith, sym, ap, subst}
use Rattle.machine.specs.Reply.{ReplyValue}
use Rattle.machine.specs.Requests.{RequestValue, request_value, request_values}
use Rattle.machine.specs.Runs.{moved, Run, after_a_stop_of_run}
use Rattle.machine.proofs.Steps.{run_more, left_more, requests_more}
use Rattle.machine.proofs.running.run.Goals as goal

pub loop-request-preserved : goal.loop-request-preserved
loop-request-preserved g c =
    let store = g.D.Desk.store_may_refuse in
    let i = c.loop-request.invariant in
    let s = c.serve-reply.ensures in
    let done = request_values (take c.loop-request.request-index c.args.requests.now) in
    let q = request_value c.request-item.result in
    let asked = requests_more c.args.requests.now c.loop-request.request-index c.request-item.result (omega arith) c.request-item.is in
    let told = c.push_reserved.ensures.items in
    record {
      count = omega arith;
      room = omega arith;
      reliable = λ good. i.reliable (s.reliable good);
      run = λ good m stood.
          let h = i.run (s.reliable good) m stood in
          let next = moved h.0 q c.serve-reply.result in
          let more = run_more store m h.0 done c.loop-request.replies.items q c.serve-reply.result h.1 (s.reply good h.0 h.2) in (
            next,
            subst (λ qs. Run store m qs c.push_reserved.new.self.items next) (sym asked) (subst (λ rs. Run store m (done ++ q ∷ []) rs next) (sym {A = List ReplyValue} told) more),
            s.state good h.0 h.2,
          );
      left = λ good m states stood leaves.
          let h = i.run (s.reliable good) m stood in
          let more = ap (λ (qs : List RequestValue). after_a_stop_of_run m states qs c.push_reserved.new.self.items) asked
          ∙ ap (λ (rs : List ReplyValue). after_a_stop_of_run m states (done ++ q ∷ []) rs) told
          ∙ left_more store m h.0 states done c.loop-request.replies.items q c.serve-reply.result h.1 in
          subst (g.D.Desk.may_leave c.serve-reply.new.desk) (sym more) (s.left good h.0 _ h.2 (i.left (s.reliable good) m states stood leaves));
    }
