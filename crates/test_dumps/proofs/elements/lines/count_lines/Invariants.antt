use Rattle.std.proofs.Common.{◌≡◌}
use Rattle.streams.proofs.Seen.{Seen}
use Rattle.test_dumps.proofs.elements.lines.count_lines.Given as goal

abbrev pub invariant-loop-n : goal.invariant-loop-n
invariant-loop-n g l = record {
  failures : l.lines.failures ≡ l.fn.lines.failures;
  seen : Seen l.fn.lines.left l.n l.lines.left;
}
