use Rattle.std.proofs.Common.{to_z-of_z, rules, ◌≡◌, Option, Some, None, subst}
use Rattle.sqlite.specs.Held.{state}
use Rattle.flatten.specs.Rows.{results_value}
use Rattle.tables.specs.declared.more.MoreRow.{MoreRow}
use Rattle.tables.proofs.Select.{reads}
use Rattle.tables.proofs.LineResults.{select_more_is, more_found, says_none, Says}
use Rattle.tables.proofs.more.more_of.Goals as goal

pub select_first-requires : goal.select_first-requires
select_first-requires g c = reads select_more_is

pub returns-in-Some-clause-more : goal.returns-in-Some-clause-more
returns-in-Some-clause-more g c clean has m s project dump slot there results known =
    let old = state g.S.Store c.args.conn.now in
    let new = state g.S.Store c.select_first.new.conn in
    let h = c.in_ok-found.ensures.read clean in
    let some : c.in_ok-found.found ≡ Some c.in-Some.more = search rules in
    subst (λ (o : Option MoreRow). Says c.args.line o results) some
    (more_found c.args.line m c.args.slot project dump old new h.0 c.in_ok-found.found s has slot there (rw (c.params-to_sql.ensures, c.params-to_sql-2.ensures, to_z-of_z c.ranges.slot) at h.1) h.2 results known)

pub returns-in-None-clause-more : goal.returns-in-None-clause-more
returns-in-None-clause-more g c clean has m s project dump slot there results known =
    let old = state g.S.Store c.args.conn.now in
    let new = state g.S.Store c.select_first.new.conn in
    let h = c.in_ok-found.ensures.read clean in
    let none : c.in_ok-found.found ≡ None = search rules in
    let says = subst (λ (o : Option MoreRow). Says c.args.line o results) none
    (more_found c.args.line m c.args.slot project dump old new h.0 c.in_ok-found.found s has slot there (rw (c.params-to_sql.ensures, c.params-to_sql-2.ensures, to_z-of_z c.ranges.slot) at h.1) h.2 results known) in
    says_none c.args.line (results_value c.none.result) results c.none.ensures says
