use Rattle.std.proofs.Common.{◌∙◌, ap, map, option_and_then}
use Rattle.std.specs.Prelude.{slice_get}
use Rattle.lsif.specs.Element.{element_value}
use Rattle.dump.specs.Conditions.{is_document_of}
use Rattle.dump.proofs.FirstIndices.{position-item}
use Rattle.dump.proofs.tables.Tables.document_of.Goals as goal

pub returns : goal.returns
returns c =
    let d = map element_value c.args.elements.now in
    c.at.ensures ∙ ap (option_and_then (slice_get d)) (c.copied.ensures ∙ c.get.ensures.value ∙ c.requires.documents c.args.uri.now) ∙ position-item (is_document_of c.args.uri.now) d
