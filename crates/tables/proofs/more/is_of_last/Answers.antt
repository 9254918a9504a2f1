use Rattle.std.proofs.Common.{rules, ◌≡◌, ◌-◌, length, slice_get, Some, sym, subst}
use Rattle.sqlite_rules.specs.Lists.{Has}
use Rattle.flatten.specs.Rows.{bearer_value}
use Rattle.tables.specs.Columns.{bearer_more}
use Rattle.tables.proofs.MoreOnce.{last_at, last_same}
use Rattle.tables.proofs.Puts.{got_has, flat_has}
use Rattle.tables.proofs.more.is_of_last.Goals as goal

pub returns-in-Some-clause-listed : goal.returns-in-Some-clause-listed
returns-in-Some-clause-listed c same row h =
    let earlier = c.args.earlier.now in
    let found : slice_get earlier (length earlier - 1) ≡ Some c.in-Some.before.now = search rules in
    flat_has (λ b. bearer_more (bearer_value b)) earlier c.in-Some.before.now row (got_has earlier _ _ found) (subst (λ l. Has l row) (sym (c.has_same.ensures.more same)) h)

pub returns-in-Some-clause-each : goal.returns-in-Some-clause-each
returns-in-Some-clause-each c rows next row has h =
    let earlier = c.args.earlier.now in
    let before = c.in-Some.before.now in
    let found : slice_get earlier (length earlier - 1) ≡ Some before = search rules in
    let at = last_at earlier before found in
    c.has_same.ensures.is.1 (last_same rows earlier c.args.bearer.now next row has before at.0 at.1 at.2 (got_has earlier _ _ found) h)
