use Rattle.std.proofs.Common.{rules, arith, ◌≡◌, ◌<◌, get_or, length, sym, subst}
use Rattle.std.specs.Ordering.{nat_cmp}
use Rattle.std.proofs.lemmas.Bool.Decides.{nat_tests}
use Rattle.std.proofs.lemmas.Fn.{always_returns_same}
use Rattle.sqlite_rules.specs.Lists.{Has}
use Rattle.flatten.specs.Rows.{range_value}
use Rattle.tables.specs.Columns.{range_more}
use Rattle.tables.proofs.MoreOnce.{none_missed, range_of_row, same_range}
use Rattle.tables.proofs.Puts.{at_has, flat_has}
use Rattle.tables.proofs.more.is_of_range.Goals as goal

pub returns-in-Some-clause-listed : goal.returns-in-Some-clause-listed
returns-in-Some-clause-listed c same row h =
    let ranges = c.args.rows.now.ranges.items in
    let low : c.in-Ok.found < length ranges = search rules in
    let is : c.in-Some.range.now ≡ get_or ranges c.in-Ok.found c.in-Some.range.now = search rules in
    flat_has (λ r. range_more (range_value r)) ranges c.in-Some.range.now row (at_has ranges c.in-Ok.found _ low is) (subst (λ l. Has l row) (sym (c.has_same.ensures.more same)) h)

pub returns-in-Some-clause-each : goal.returns-in-Some-clause-each
returns-in-Some-clause-each c earlier next row has h =
    let ranges = c.args.rows.now.ranges.items in
    let line = c.args.bearer.now.line in
    let range = c.in-Some.range.now in
    let low : c.in-Ok.found < length ranges = search rules in
    let is : range ≡ get_or ranges c.in-Ok.found range = search rules in
    let equal = c.in-Ok.ensures.position (λ r. nat_cmp r.line line) (always_returns_same _ (λ a r. r ≡ nat_cmp a.0.now.line line) _ (λ a r q k. search rules)) range in
    let at : line ≡ range.line = let lines = rw (c.deref.ensures.value, sym is) at equal in grind (arith, nat_tests, lines) in
    c.has_same.ensures.is.1 (same_range c.args.rows.now earlier c.args.bearer.now next range (at_has ranges c.in-Ok.found _ low is) at)

pub returns-in-Err-clause-each : goal.returns-in-Err-clause-each
returns-in-Err-clause-each c earlier next row has h =
    let ranges = c.args.rows.now.ranges.items in
    let line = c.args.bearer.now.line in
    let it = range_of_row c.args.rows.now earlier c.args.bearer.now next row has h in
    absurd (none_missed ranges next.is_flat.ranges.rises line c.in-Err.field-0 (rw c.deref.ensures.value at (c.in-Err.ensures.position (λ r. nat_cmp r.line line) (always_returns_same _ (λ a r. r ≡ nat_cmp a.0.now.line line) _ (λ a r q k. search rules)))) it.0 it.1 it.2)
