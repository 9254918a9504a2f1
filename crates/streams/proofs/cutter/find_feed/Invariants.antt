use Rattle.std.proofs.Common.{take}
use Rattle.streams.specs.Lines.{IsLine}
use Rattle.streams.proofs.cutter.find_feed.Given as goal

abbrev pub invariant-loop-k : goal.invariant-loop-k
invariant-loop-k l = IsLine (take l.k l.bytes)
