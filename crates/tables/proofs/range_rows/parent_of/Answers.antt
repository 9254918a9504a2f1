use Rattle.std.proofs.Common.{rules, to_z-of_z, ◌≡◌, Some, subst, Option}
use Rattle.std.specs.Prelude.{IfSome}
use Rattle.sqlite.specs.Held.{state}
use Rattle.tables.specs.declared.range_rows.SlotRange.{SlotRange}
use Rattle.tables.specs.Steps.Selected.{IsFirstRead}
use Rattle.tables.proofs.Select.{reads}
use Rattle.tables.proofs.FoundRanges.{IsSound, found_columns, select_range_is, range_found}
use Rattle.tables.proofs.range_rows.parent_of.Goals as goal

pub select_first-requires : goal.select_first-requires
select_first-requires g c = reads select_range_is

pub returns-in-Some-found-clause-named : goal.returns-in-Some-found-clause-named
returns-in-Some-found-clause-named g c clean has m s project dump slot there =
    let old = state g.S.Store c.args.conn.now in
    let new = state g.S.Store c.select_first.new.conn in
    let h = c.in_ok-found.ensures.read clean in
    let parent = c.in-Some-found.parent in
    let asked : c.args.child.now.parent ≡ Some c.in-Some.line = search rules in
    let some : c.in_ok-found.found ≡ Some parent = search rules in
    let sound : IsSound parent = subst (λ (o : Option SlotRange). IfSome o IsSound) some c.in_ok-found.ensures.sound in
    range_found c.in-Some.line c.args.uri.now m c.args.slot project dump old new h.0 c.args.child.now parent s has slot there asked sound
    (rw (c.params-to_sql.ensures, c.params-to_sql-2.ensures, c.params-to_sql-3.ensures, to_z-of_z c.ranges.slot) at h.1) (subst (λ (o : Option SlotRange). IsFirstRead found_columns h.0 o) some h.2)
