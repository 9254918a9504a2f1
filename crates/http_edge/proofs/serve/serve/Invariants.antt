use Rattle.std.proofs.Common.{◌≡◌, ◌-◌, ◌≤◌, ℕ, List, length}
use Rattle.streams.specs.Streams.{Moves, SameCounts}
use Rattle.streams.specs.Sending.{Writes}
use Rattle.http_edge.specs.Steps.Messages.{SettlesAll}
use Rattle.http_edge.specs.Requests.{MessageValue}
use Rattle.machine.specs.State.{State}
use Rattle.http_edge.specs.Replies.{AnswerValue}
use Rattle.http_edge.specs.Serving.{MayAnswerAll, after_a_stop_of_answers, texts}
use Rattle.http_edge.proofs.serve.serve.Given as goal

abbrev pub invariant-serving : goal.invariant-serving
invariant-serving g l = record {
  bytes : List ℕ;
  messages : List MessageValue;
  moved : Moves (g.R.Source.left l.fn.r) (g.R.Source.left l.r) bytes;
  chain : SettlesAll bytes messages l.reader;
  count : l.count ≡ length messages;
  within : l.count ≤ l.limit;
  answers : List AnswerValue;
  reliable : g.D.Desk.is_reliable l.desk → g.D.Desk.is_reliable l.fn.desk;
  run : g.D.Desk.is_reliable l.desk → (m : State) → g.D.Desk.stands l.fn.desk m → (n : State) × MayAnswerAll g.D.Desk.store_may_refuse m messages answers n × g.D.Desk.stands l.desk n
      × ((states : List State) → g.D.Desk.may_leave l.fn.desk states → g.D.Desk.may_leave l.desk (after_a_stop_of_answers m states messages answers));
  written : Writes (g.W.Sink.output l.fn.w) (texts answers) (g.W.Sink.output l.w);
  reads : g.R.Source.failed l.r ≡ g.R.Source.failed l.fn.r;
  counts : SameCounts (g.W.Sink.output l.fn.w) (g.W.Sink.output l.w);
}

abbrev pub decreases-serving : goal.decreases-serving
decreases-serving g l = l.limit - l.count
