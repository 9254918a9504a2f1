use Rattle.std.proofs.Common.{◌∙◌, ap, map, option_and_then}
use Rattle.std.specs.Prelude.{slice_get}
use Rattle.lsif.specs.Element.{element_value}
use Rattle.lsif.specs.Lent.{lent_value}
use Rattle.dump.specs.Steps.Ids.{index_at}
use Rattle.dump.specs.Steps.Tables.{has_id}
use Rattle.dump.proofs.FirstIndices.{table-item}
use Rattle.dump.proofs.tables.Tables.element_at.Goals as goal

pub returns : goal.returns
unfolding Rattle.dump.specs.Graph.element_at
returns c =
    let d = map element_value c.args.elements.now in
    c.at.ensures ∙ ap (option_and_then (slice_get d)) c.get.ensures ∙ table-item (index_at c.args.self.now.indices) has_id d c.requires.elements (lent_value c.args.id)
