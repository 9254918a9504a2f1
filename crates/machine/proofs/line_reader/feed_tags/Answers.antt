use Rattle.std.proofs.Common.{List, ℕ, Result, ap, sym, subst}
use Rattle.std.specs.Borrow.{Bor}
use Rattle.tags.specs.Faults.{result_map}
use Rattle.tags.specs.Lines.{IsHanded}
use Rattle.tags.specs.Steps.Readings.{reading_of}
use Rattle.tags.specs.declared.code.Code.{Code}
use Rattle.machine.specs.Uploads.{tags_lines}
use Rattle.machine.proofs.LongLines.{handed_tag, told_fault}
use Rattle.machine.proofs.line_reader.feed_tags.Goals as goal

pub returns-in-Ok : goal.returns-in-Ok
returns-in-Ok c = λ bytes handed.
    let told = c.in-Ok.ensures (reading_of (record { bytes = bytes; ended = c.args.is_ended }))
    (subst (λ (line : Result (Bor (List ℕ)) Code). IsHanded (result_map (λ b. b.now) line) c.args.is_ended (reading_of (record { bytes = bytes; ended = c.args.is_ended })))
    (sym c.ok_or.ensures.value) (handed_tag c.reading_law.ensures.holds c.args.line c.args.is_ended bytes handed)) in
    (ap tags_lines told.0, told.1)

pub returns-in-Err-Line : goal.returns-in-Err-Line
returns-in-Err-Line c = λ bytes handed.
    let told = c.in-Err-Line.ensures (reading_of (record { bytes = bytes; ended = c.args.is_ended }))
    (subst (λ (line : Result (Bor (List ℕ)) Code). IsHanded (result_map (λ b. b.now) line) c.args.is_ended (reading_of (record { bytes = bytes; ended = c.args.is_ended })))
    (sym c.ok_or.ensures.value) (handed_tag c.reading_law.ensures.holds c.args.line c.args.is_ended bytes handed)) in
    let stops = told_fault _ _ _ _ _ c.in-Err-Line.field-0-is told in
    (ap tags_lines stops.0, stops.1)
