use Rattle.std.proofs.Common.{◌≡◌}
use Rattle.streams.specs.Buffered.{unread}
use Rattle.tags.specs.Steps.Counting.{HasTaken, IsReady, room_of}
use Rattle.tags.proofs.counting.count_tags.Given as goal

abbrev pub invariant-reading : goal.invariant-reading
invariant-reading g l = record {
  failed : g.R.Source.failed l.r ≡ g.R.Source.failed l.fn.r;
  ready : IsReady l.lines;
  taken : HasTaken (g.R.Source.left l.fn.r) l.checker (unread l.lines.pending (g.R.Source.left l.r));
}

abbrev pub decreases-reading : goal.decreases-reading
decreases-reading g l = room_of l.checker
