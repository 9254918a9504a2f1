use Rattle.std.proofs.Common.{◌≡◌}
use Rattle.streams.specs.Buffered.{unread}
use Rattle.dump.specs.Progress.{IsRunning}
use Rattle.dump.specs.Steps.Judging.{HasTaken, IsReady, room_of}
use Rattle.dump.proofs.reading.take_lines.Given as goal

abbrev pub invariant-reading : goal.invariant-reading
invariant-reading g l = record {
  failed : g.R.Source.failed l.r ≡ g.R.Source.failed l.fn.r;
  ready : IsReady l.lines;
  runs : IsRunning l.checker.progress;
  profile : l.checker.profile ≡ l.fn.checker.profile;
  taken : HasTaken l.fn.checker.profile (g.R.Source.left l.fn.r) l.checker.progress (unread l.lines.pending (g.R.Source.left l.r));
}

abbrev pub decreases-reading : goal.decreases-reading
decreases-reading g l = room_of l.checker.progress
