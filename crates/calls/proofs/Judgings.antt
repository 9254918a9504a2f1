-- The reports of a dump and of a tags file that were read.
use Rattle.std.proofs.Common.{◌≡◌, ◌∙◌, ℕ, List, length, map, Option, None, Some, Ok, Err, ap, sym}
use Rattle.std.proofs.lemmas.List.{length-map}
use Rattle.lsif.specs.Element.{element_value}
use Rattle.lsif.specs.declared.element.Element.{Element}
use Rattle.lsif.specs.declared.profile.Profile.{Profile}
use Rattle.dump.specs.Judging.{ReadsDump}
use Rattle.dump.specs.Progress.{DumpValue}
use Rattle.tags.specs.Counting.{CountsTags}
use Rattle.tags.specs.declared.code.LineFault.{LineFault}
use Rattle.tags.specs.declared.counting.CountFault.TheVariants as faults
use Rattle.calls.specs.Report.{ReportsDump, ReportsTags, ShowsTagsCode}
use Rattle.calls.specs.declared.report.FaultyLine.{FaultyLine}
use Rattle.calls.specs.declared.report.Report.TheVariants.{Elements, Faulty, Tags}

-- ---- the report of a dump

pub sound : (profile : Profile) (left : Option (List ℕ)) (dump : DumpValue) (lent : List Element) → ReadsDump profile left (Ok dump)
    → map element_value lent ≡ dump.elements → ReportsDump profile left (Elements (length lent))
sound profile None dump lent h e = tt
sound profile (Some text) dump lent h e =
    (h.0, sym (length-map lent element_value) ∙ ap length e ∙ sym (ap length h.1 ∙ length-map dump.elements Ok))

-- ---- the report of a tags file that was read

pub counted : (left : Option (List ℕ)) (tags : ℕ) → CountsTags left (Ok tags) → ReportsTags left (Tags tags)
counted None tags h = tt
counted (Some text) tags h = (h.1.0, h.1.1, (h.1.2.0, h.2 ∙ ap length h.1.2.1))

pub first_fault : (left : Option (List ℕ)) (f : LineFault) (l : FaultyLine) → CountsTags left (Err (faults.Line f)) → l.line ≡ f.line → ShowsTagsCode f.code l
    → ReportsTags left (Faulty l)
first_fault None f l h line shows = tt
first_fault (Some text) f l h line shows = (h.0, h.1, (h.2.0, f.code, h.2.2, line ∙ h.2.1, shows))
