use Rattle.std.proofs.Common.{◌∙◌, map, ap, sym, subst, arith}
use Rattle.std.specs.List.{filter_map}
use Rattle.dump.specs.Places.{IsListing}
use Rattle.flatten.specs.Flat.{by_line}
use Rattle.flatten.specs.Rows.{range_value, rows_value}
use Rattle.machine.specs.Selections.{FindsCover, range_found}
use Rattle.tables.specs.Steps.Climbs.{IsCoverRow}
use Rattle.desk.specs.Steps.Selected.{range_wanted, range_found_of}
use Rattle.desk.proofs.CoverRows.{rows_cover, rows_told}
use Rattle.desk.proofs.WantedRows.{ranges_wanted, told_of}
use Rattle.desk.proofs.selected.covering_of.Goals as goal

pub returns : goal.returns
returns c =
    let dump = c.args.dump.now in
    let uri = c.args.uri.now in
    let at = c.args.at in
    let free = c.elements-faultless.ensures.faultless in
    let flat = c.in_ok-rows.ensures.rows in
    let chosen = c.in_ok-covering.ensures ∙ ap (λ xs. filter_map (range_wanted uri at) (map range_value xs)) c.deref.ensures.value in
    let listed = subst (IsListing by_line (IsCoverRow dump uri at)) (sym chosen) (ranges_wanted dump uri at _ flat.ranges) in
    let told = told_of range_found (range_found_of c.args.request) c.loop-row.found.items c.deref-row-items.result.now c.list_rows.new.rows.items c.loop-row.row-index c.loop-row.invariant c.deref-row-items.ensures.value (omega (arith, c.loop-row-test.false)) in
    let all = told ∙ rows_told c.args.request c.list_rows.new.rows.items in
    subst (FindsCover c.args.request dump.elements uri at) (sym all)
    (rows_cover dump uri at (c.nesting_law.ensures dump.elements free) (c.uri_law.ensures dump.elements free) c.in_ok-covering.covering.items c.list_rows.new.rows.items listed c.list_rows.ensures.rises c.list_rows.ensures.from
    c.list_rows.ensures.each c.args.request free (rows_value c.in_ok-rows.field-0) flat)
