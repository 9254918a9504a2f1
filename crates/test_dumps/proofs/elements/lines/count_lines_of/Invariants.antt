use Rattle.std.proofs.Common.{◌≡◌}
use Rattle.streams.specs.Buffered.{unread}
use Rattle.streams.proofs.Seen.{Seen}
use Rattle.test_dumps.proofs.elements.lines.count_lines_of.Given as goal

abbrev pub invariant-loop-n : goal.invariant-loop-n
invariant-loop-n g l = record {
  failures : g.S.Source.failed l.source ≡ g.S.Source.failed l.fn.source;
  seen : Seen (unread l.fn.lines.pending (g.S.Source.left l.fn.source)) l.n (unread l.lines.pending (g.S.Source.left l.source));
}
