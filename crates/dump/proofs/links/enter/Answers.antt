use Rattle.std.proofs.Common.{◌≡◌, ◌∙◌, sym, ap, [], None, not, rules, get_or}
use Rattle.dump.proofs.Cells.{cell_enters, cell_stays, nothing}
use Rattle.dump.proofs.links.enter.Goals as goal

pub returns-then-is_none-clause-cells : goal.returns-then-is_none-clause-cells
returns-then-is_none-clause-cells c =
    let none : get_or c.row_at-cells.result c.index-column.result None ≡ None = nothing _ (c.is_none.ensures ∙ ap not c.if-is_none.true) in
    cell_enters c.args.rows.now.items c.args.row c.args.link c.row_at-cells.result (ap (λ rows. get_or rows c.args.row []) (sym c.deref.ensures.value) ∙ sym c.row_at-cells.ensures.value) c.requires c.index-column.result c.args.index c.index-column.ensures.value (search rules) none

pub returns-else-is_none-clause-cells : goal.returns-else-is_none-clause-cells
returns-else-is_none-clause-cells c =
    cell_stays c.args.rows.now.items c.args.row c.args.link c.row_at-cells.result (ap (λ rows. get_or rows c.args.row []) (sym c.deref.ensures.value) ∙ sym c.row_at-cells.ensures.value) c.requires c.index-column.result c.args.index c.index-column.ensures.value (c.is_none.ensures ∙ ap not c.if-is_none.false)
