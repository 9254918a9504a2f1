use Rattle.std.proofs.Common.{◌≡◌, ◌-◌, ◌++◌, ℕ, List, length}
use Rattle.streams.specs.Streams.{Moves}
use Rattle.http_edge.proofs.reading.next_head.Given as goal

abbrev pub invariant-reading : goal.invariant-reading
invariant-reading g l = record {
  bytes : List ℕ;
  moved : Moves (g.R.Source.left l.fn.r) (g.R.Source.left l.r) bytes;
  held : l.buffer.pending ≡ l.fn.buffer.pending ++ bytes;
  capacity : l.buffer.capacity ≡ l.fn.buffer.capacity;
  failed : g.R.Source.failed l.r ≡ g.R.Source.failed l.fn.r;
}

abbrev pub decreases-reading : goal.decreases-reading
decreases-reading g l = l.buffer.capacity - length l.buffer.pending
