use Rattle.std.proofs.Common.{◌≡◌, ◌+◌, ◌++◌, ℕ, List, [], length}
use Rattle.streams.specs.Streams.{Moves}
use Rattle.http_edge.specs.Steps.Serving.{MessageAfter, known_of}
use Rattle.http_edge.proofs.reading.read_body.Given as goal

abbrev pub invariant-reading : goal.invariant-reading
invariant-reading g l = record {
  bytes : List ℕ;
  body : List ℕ;
  moved : Moves (g.R.Source.left l.fn.r) (g.R.Source.left l.r) bytes;
  held : l.fn.buffer.pending ++ bytes ≡ body ++ l.buffer.pending;
  count : length body + l.rest ≡ l.len;
  asked : (method target : List ℕ) → MessageAfter l.fn.message method target [] → MessageAfter l.message method target body;
  known : known_of l.message ≡ known_of l.fn.message;
  capacity : l.buffer.capacity ≡ l.fn.buffer.capacity;
  failed : g.R.Source.failed l.r ≡ g.R.Source.failed l.fn.r;
}

abbrev pub decreases-reading : goal.decreases-reading
decreases-reading g l = l.rest
