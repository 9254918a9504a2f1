use Rattle.std.proofs.Common.{◌∙◌, sym, length}
use Rattle.lsif.specs.Lent.{lent_value}
use Rattle.dump.proofs.Cells.{link_enters}
use Rattle.dump.proofs.links.enter_at.Goals as goal

pub enter-requires : goal.enter-requires
enter-requires c = c.requires.rows.below (lent_value c.args.id) c.in-Some.row (sym c.get.ensures ∙ c.in-Some.is)

pub returns-in-Some-clause-links : goal.returns-in-Some-clause-links
returns-in-Some-clause-links c =
    link_enters c.args.indices.now (length c.args.rows.now.items) c.requires.rows c.args.rows.now.items c.enter.new.rows.items c.args.link c.args.index (lent_value c.args.id) c.in-Some.row
    (sym c.get.ensures ∙ c.in-Some.is) c.enter.ensures.cells
