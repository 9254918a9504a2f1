use Rattle.std.proofs.Common.{◌≡◌, ◌≤◌, List, length, take, vec_len, vec_capacity}
use Rattle.machine.specs.State.{State}
use Rattle.machine.specs.Requests.{request_values}
use Rattle.machine.specs.Runs.{Run, after_a_stop_of_run}
use Rattle.machine.proofs.running.run.Given as goal

abbrev pub invariant-loop-request : goal.invariant-loop-request
invariant-loop-request g l =
    let stands = g.D.Desk.stands in
    let may_leave = g.D.Desk.may_leave in
    let is_reliable = g.D.Desk.is_reliable in
    let store = g.D.Desk.store_may_refuse in
    record {
      count : vec_len l.replies ≡ l.request-index;
      room : length l.requests ≤ vec_capacity l.replies;
      reliable : is_reliable l.desk → is_reliable l.fn.desk;
      run : is_reliable l.desk → (m : State) → stands l.fn.desk m → (n : State) × Run store m (request_values (take l.request-index l.requests)) l.replies.items n × stands l.desk n;
      left : is_reliable l.desk → (m : State) (states : List State) → stands l.fn.desk m → may_leave l.fn.desk states → may_leave l.desk (after_a_stop_of_run m states (request_values (take l.request-index l.requests)) l.replies.items);
    }
