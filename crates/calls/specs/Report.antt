-- What `codenav check-lsif` and `codenav check-tags` report.
use Rattle.std.specs.Prelude.{◌≡◌, ℕ, ◌+◌, List, [], ◌++◌, length, codes, Option, Some, None, Result, Ok, Err, ⊤}
use Rattle.std.specs.Fmt.{decimal}
use Rattle.lsif.specs.Code as lsif_codes
use Rattle.lsif.specs.Element as elements
use Rattle.streams.specs.Sending.{Writes, CutsShort}
use Rattle.streams.specs.Streams.{Output}
use Rattle.lsif.specs.declared.profile.Profile.{Profile}
use Rattle.dump.specs.Fault.{IsFault}
use Rattle.dump.specs.Lines.{dump_of}
use Rattle.dump.specs.declared.fault.LineFault as dump_faults
use Rattle.tags.specs.Codes as tags_codes
use Rattle.tags.specs.Fault as tags_faults
use Rattle.tags.specs.Fault.{contents, tags_of, IsFaultless, IsFirstFault}
use Rattle.tags.specs.Lines.{AreReadings, lines_of}
use Rattle.tags.specs.declared.code.Code as tags_code
use Rattle.calls.specs.declared.report.FaultyLine.{FaultyLine}
use Rattle.calls.specs.declared.report.Report.{Report}
use Rattle.calls.specs.declared.report.Report.TheVariants.{Elements, Tags, Faulty}
use Rattle.calls.specs.declared.report.Status.{Status}
use Rattle.calls.specs.declared.report.Status.TheVariants as statuses
use Rattle.calls.specs.declared.report.CheckFault.{CheckFault}
use Rattle.calls.specs.declared.report.CheckFault.TheVariants as faults

-- ---- the report of a dump

-- the fault of a dump as it's reported
abbrev pub ShowsDumpFault : dump_faults.LineFault → FaultyLine → Type 0
ShowsDumpFault f l = (l.line ≡ f.line) × (l.name.now ≡ lsif_codes.name_of f.code) × (l.text.now ≡ lsif_codes.text_of f.code)

-- how many elements a dump has where it's sound, and else its fault
abbrev pub IsDumpReport : List elements.Reading → Report → Type 0
IsDumpReport dump (Elements n) = IsFault dump None × (n ≡ length dump)
IsDumpReport dump (Tags n) = ⊥
IsDumpReport dump (Faulty l) = (f : dump_faults.LineFault) × IsFault dump (Some f) × ShowsDumpFault f l

-- the report of the bytes of a reader, where they are known, in a profile
abbrev pub ReportsDump : Profile → Option (List ℕ) → Report → Type 0
ReportsDump profile None report = ⊤
ReportsDump profile (Some text) report = IsDumpReport (dump_of profile text) report

-- ---- the report of a tags file

-- the code of a line of a tags file as it's reported
abbrev pub ShowsTagsCode : tags_code.Code → FaultyLine → Type 0
ShowsTagsCode c l = (l.name.now ≡ tags_codes.name_of c) × (l.text.now ≡ tags_codes.text_of c)

-- of lines that read so: how many ordinary tags there are where no line has a fault, and else the
-- first faulty line, counted from 1, with its code
abbrev pub IsTagsReport : List tags_faults.Reading → Report → Type 0
IsTagsReport lines (Elements n) = ⊥
IsTagsReport lines (Tags n) = IsFaultless lines × (n ≡ length (tags_of (contents lines)))
IsTagsReport lines (Faulty l) = (k : ℕ) × (c : tags_code.Code) × IsFirstFault lines k c × (l.line ≡ k + 1) × ShowsTagsCode c l

-- the report of the bytes of a reader, where they are known
abbrev pub ReportsTags : Option (List ℕ) → Report → Type 0
ReportsTags None report = ⊤
ReportsTags (Some text) report = (readings : List tags_faults.Reading) × AreReadings (lines_of text) readings × IsTagsReport readings report

-- ---- what is printed

-- the line that is printed
abbrev pub report_text : Report → List ℕ
report_text (Elements n) = codes "ok " ++ (decimal n ++ codes " elements\n")
report_text (Tags n) = codes "ok " ++ (decimal n ++ codes " tags\n")
report_text (Faulty l) = codes "line " ++ (decimal l.line ++ (codes ": " ++ (l.name.now ++ (codes " " ++ (l.text.now ++ codes "\n")))))

abbrev pub status_of : Report → Status
status_of (Elements n) = statuses.Sound
status_of (Tags n) = statuses.Sound
status_of (Faulty l) = statuses.Faulty

-- the exit status of the program
abbrev pub exit_code_of : Status → ℕ
exit_code_of statuses.Sound = 0
exit_code_of statuses.Faulty = 1

-- what a check answers and writes whose report is one of these: all of the report's line, or by a
-- writer that fails a beginning of it; nothing where memory was refused or the reader failed
abbrev pub Checks : (Report → Type 0) → Output → Result Status CheckFault → Output → Type 0
Checks Reports old (Ok status) new =
    (report : Report) × Reports report × (status ≡ status_of report) × Writes old (report_text report) new
Checks Reports old (Err faults.Memory) new = Writes old [] new
Checks Reports old (Err faults.Read) new = Writes old [] new
Checks Reports old (Err faults.Write) new = (report : Report) × Reports report × CutsShort old (report_text report) new

-- a check that failed to read counted one failure of the reader, and any other none
abbrev pub CountsCheck : ℕ → Result Status CheckFault → ℕ → Type 0
CountsCheck failed (Ok status) failed' = failed' ≡ failed
CountsCheck failed (Err faults.Memory) failed' = failed' ≡ failed
CountsCheck failed (Err faults.Read) failed' = failed' ≡ failed + 1
CountsCheck failed (Err faults.Write) failed' = failed' ≡ failed
