-- What the parts of a check answer, and how they fail.
use Rattle.std.specs.Prelude.{ℕ, ◌+◌, [], Result, Ok, Err, ◌≡◌}
use Rattle.streams.specs.Sending.{Writes, CutsShort}
use Rattle.streams.specs.Streams.{Output}
use Rattle.calls.specs.Report.{report_text, status_of}
use Rattle.calls.specs.declared.report.CheckFault.{CheckFault}
use Rattle.calls.specs.declared.report.CheckFault.TheVariants as faults
use Rattle.calls.specs.declared.report.Report.{Report}
use Rattle.calls.specs.declared.report.Status.{Status}

-- the reader's count of failures, where a step fails only by it or because memory ran out
abbrev pub CountsRead : {A : Type 0} → ℕ → ℕ → Result A CheckFault → Type 0
CountsRead old new (Ok a) = new ≡ old
CountsRead old new (Err faults.Memory) = new ≡ old
CountsRead old new (Err faults.Read) = new ≡ old + 1
CountsRead old new (Err faults.Write) = ⊥

-- what sending a report answers and writes: all of the report's line, or by a writer that fails a
-- beginning of it; nothing where memory was refused
abbrev pub Sends : Report → Output → Result Status CheckFault → Output → Type 0
Sends report old (Ok status) new = (status ≡ status_of report) × Writes old (report_text report) new
Sends report old (Err faults.Memory) new = Writes old [] new
Sends report old (Err faults.Read) new = ⊥
Sends report old (Err faults.Write) new = CutsShort old (report_text report) new
