use Rattle.std.proofs.Common.{◌≡◌, ◌+◌, ◌-◌, ◌≤◌, List, length}
use Rattle.machine.specs.State.{State}
use Rattle.calls.specs.Serve.{ConnectionValue, ServesEach}
use Rattle.calls.proofs.serve.serve_connections.Given as goal

abbrev pub invariant-serving : goal.invariant-serving
invariant-serving g l = record {
  connections : List ConnectionValue;
  served : l.count ≡ length connections;
  accepted : l.listener.accepted ≡ l.fn.listener.accepted + l.count;
  within : l.count ≤ l.requests;
  reliable : g.D.Desk.is_reliable l.desk → g.D.Desk.is_reliable l.fn.desk;
  each : g.D.Desk.is_reliable l.desk → (m : State) (states : List State) → g.D.Desk.stands l.fn.desk m → g.D.Desk.may_leave l.fn.desk states → (n : State) × (left : List State)
      × ServesEach g.D.Desk.store_may_refuse m states connections n left × g.D.Desk.stands l.desk n × g.D.Desk.may_leave l.desk left;
}

abbrev pub decreases-serving : goal.decreases-serving
decreases-serving g l = l.requests - l.count
