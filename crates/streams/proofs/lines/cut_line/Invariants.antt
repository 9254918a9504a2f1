use Rattle.std.proofs.Common.{◌≡◌, ◌≢◌, ◌+◌, ◌-◌, ◌++◌, length}
use Rattle.streams.specs.Buffered.{SameUnread}
use Rattle.streams.specs.Pieces.{begun}
use Rattle.streams.specs.declared.cutter.LineState.TheVariants.{TooLong}
use Rattle.streams.proofs.lines.cut_line.Given as goal

abbrev pub invariant-filling : goal.invariant-filling
invariant-filling g l = record {
  unread : SameUnread (begun l.fn.cutter ++ l.fn.buffer.pending) (g.S.Source.left l.fn.source) (begun l.cutter ++ l.buffer.pending) (g.S.Source.left l.source);
  capacity : l.buffer.capacity ≡ l.fn.buffer.capacity;
  longest : l.cutter.longest ≡ l.fn.cutter.longest;
  goes_on : l.cutter.state ≢ TooLong;
  failed : g.S.Source.failed l.source ≡ g.S.Source.failed l.fn.source;
}

abbrev pub decreases-filling : goal.decreases-filling
decreases-filling g l = l.cutter.longest + 1 - length (begun l.cutter ++ l.buffer.pending)
