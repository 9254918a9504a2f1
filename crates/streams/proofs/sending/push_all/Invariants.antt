use Rattle.std.proofs.Common.{◌-◌, ◌≤◌, length, take}
use Rattle.streams.specs.Sending.{Writes}
use Rattle.streams.proofs.sending.push_all.Given as goal

abbrev pub invariant-sending : goal.invariant-sending
invariant-sending g l = record {
  written : Writes (g.W.Sink.output l.fn.w) (take l.sent l.bytes) (g.W.Sink.output l.w);
  within : l.sent ≤ length l.bytes;
}

abbrev pub decreases-sending : goal.decreases-sending
decreases-sending g l = length l.bytes - l.sent
