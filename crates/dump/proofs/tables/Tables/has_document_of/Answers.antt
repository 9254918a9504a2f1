use Rattle.std.proofs.Common.{◌∙◌, ap, map, is_some}
use Rattle.lsif.specs.Element.{element_value}
use Rattle.dump.specs.Conditions.{is_document_of}
use Rattle.dump.proofs.FirstIndices.{position-any}
use Rattle.dump.proofs.tables.Tables.has_document_of.Goals as goal

pub returns : goal.returns
returns c = c.contains_key.ensures ∙ ap is_some (c.requires.documents c.args.uri.now) ∙ position-any (is_document_of c.args.uri.now) (map element_value c.args.elements.now)
