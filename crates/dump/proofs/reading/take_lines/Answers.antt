use Rattle.std.proofs.Common.{◌≡◌, ◌∙◌, rules, sym, subst, Some, None, Err}
use Rattle.lsif.specs.Element.{reading_value}
use Rattle.streams.specs.Buffered.{unread}
use Rattle.dump.specs.Progress.{next}
use Rattle.dump.specs.Judging.{ReadsDump}
use Rattle.dump.specs.Steps.Judging.{ReadsNext, GoesOn}
use Rattle.dump.specs.declared.reading.DumpFault.{DumpFault}
use Rattle.dump.proofs.Judgings.{took, took_all, goes_ready, still_runs, fed_fault}
use Rattle.dump.proofs.reading.take_lines.Goals as goal

pub reading-preserved : goal.reading-preserved
reading-preserved g c =
    let profile = c.args.checker.now.profile in
    let is : c.feed.new.self.progress ≡ next c.reading.checker.progress (reading_value c.in-Some.reading) = search rules in
    let runs = c.in-Ok-feed.ensures.line.1 in
    let goes : GoesOn (Some c.in-Some.reading) c.next_reading.new.lines = rw c.in-Some.is at c.in_ok-reading.ensures.goes_on in
    let read : ReadsNext profile (unread c.reading.lines.pending (g.R.Source.left c.reading.r)) (Some (reading_value c.in-Some.reading)) (unread c.next_reading.new.lines.pending (g.R.Source.left c.next_reading.new.r)) = rw (c.in-Some.is, c.profile-profile.ensures) at c.in_ok-reading.ensures.read in
    record {
      failed = c.in_ok-reading.ensures.counted ∙ c.reading.invariant.failed;
      profile = c.in-Ok-feed.ensures.profile ∙ c.reading.invariant.profile;
      ready = goes_ready c.in-Some.reading _ c.reading.checker.progress goes runs;
      runs = still_runs _ _ is runs;
      taken = took profile c.in-Some.reading _ _ _ c.reading.checker.progress _ c.reading.invariant.taken read is runs;
    }

pub returns-in-Err-clause-fault : goal.returns-in-Err-clause-fault
returns-in-Err-clause-fault g c =
    let profile = c.args.checker.now.profile in
    let read : ReadsNext profile (unread c.reading.lines.pending (g.R.Source.left c.reading.r)) (Some (reading_value c.in-Some.reading)) (unread c.next_reading.new.lines.pending (g.R.Source.left c.next_reading.new.r)) = rw (c.in-Some.is, c.profile-profile.ensures) at c.in_ok-reading.ensures.read in
    let fault = fed_fault profile _ _ _ c.reading.checker.progress _ (reading_value c.in-Some.reading) c.in-Err.fault c.fault_law.ensures.holds c.fault_law.ensures.stays c.reading.invariant.taken read c.in-Err.ensures.line in
    let P : DumpFault → Type 0 = λ f. ReadsDump profile (g.R.Source.left c.args.r.now) (Err f) in
    subst P (sym c.from.ensures) fault

pub returns-clause-taken : goal.returns-clause-taken
returns-clause-taken g c =
    let profile = c.args.checker.now.profile in
    let read : ReadsNext profile (unread c.reading.lines.pending (g.R.Source.left c.reading.r)) None (unread c.next_reading.new.lines.pending (g.R.Source.left c.next_reading.new.r)) = rw (c.in_default-2.is, c.profile-profile.ensures) at c.in_ok-reading.ensures.read in
    took_all profile _ _ _ c.reading.checker.progress c.reading.invariant.taken read
