use Rattle.std.proofs.Common.{◌≡◌, false, sym}
use Rattle.tags.specs.Steps.Reading.{is_pseudo_tag}
use Rattle.tags.proofs.ContentLemmas.{reads_ordinary}
use Rattle.tags.proofs.TextLemmas.{is_utf8-text}
use Rattle.tags.proofs.content.read_content.Goals as goal

pub returns-in_ok-ordinary_tag : goal.returns-in_ok-ordinary_tag
returns-in_ok-ordinary_tag c =
    let pseudo : is_pseudo_tag c.args.line.now ≡ false = rw c.in-Ok.ensures.cases.0 at (sym c.if-is_pseudo_tag.ensures) in
    reads_ordinary c.args.line.now c.in_ok-ordinary_tag.field-0 (is_utf8-text c.args.line.now c.in-Ok.ensures.cases.1) (sym c.if-has_control.ensures) pseudo c.in_ok-ordinary_tag.ensures
