use Rattle.std.proofs.Common.{◌∙◌, ap, map, option_and_then}
use Rattle.std.specs.Prelude.{slice_get}
use Rattle.lsif.specs.Element.{element_value}
use Rattle.lsif.specs.Lent.{lent_value}
use Rattle.dump.specs.Steps.Links.{is_link, link_at}
use Rattle.dump.proofs.FirstIndices.{table-item}
use Rattle.dump.proofs.tables.Tables.linked.Goals as goal

pub returns : goal.returns
returns c =
    let d = map element_value c.args.elements.now in
    c.at.ensures ∙ ap (option_and_then (slice_get d)) c.linked_index.ensures
    ∙ table-item (link_at c.args.self.now.indices c.args.self.now.rows.items c.args.link) (is_link d c.args.link) d (c.requires.links c.args.link) (lent_value c.args.id)
