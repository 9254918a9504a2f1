use Rattle.std.proofs.Common.{◌∙◌, ap, map, is_some}
use Rattle.lsif.specs.Element.{element_value}
use Rattle.lsif.specs.Lent.{lent_value}
use Rattle.dump.specs.Steps.Links.{is_link, link_at}
use Rattle.dump.proofs.FirstIndices.{table-any}
use Rattle.dump.proofs.tables.Tables.is_linked.Goals as goal

pub returns : goal.returns
returns c =
    let d = map element_value c.args.elements.now in
    c.is_some.ensures ∙ ap is_some c.linked_index.ensures ∙ table-any (link_at c.args.self.now.indices c.args.self.now.rows.items c.args.link) (is_link d c.args.link) d (c.requires.links c.args.link) (lent_value c.args.id)
