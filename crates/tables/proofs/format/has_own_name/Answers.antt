use Rattle.std.proofs.Common.{rules, ◌∙◌, ◌≡◌, true}
use Rattle.tables.proofs.Versions.{used_one, used_two}
use Rattle.tables.proofs.format.has_own_name.Goals as goal

pub returns-clause-old : goal.returns-clause-old
returns-clause-old c is = let used : c.is_used.result ≡ true = rw is.is at c.is_used.ensures ∙ used_one is.more in search (used, rules)

pub returns-clause-known : goal.returns-clause-known
returns-clause-known c is = let used : c.is_used.result ≡ true = rw is at c.is_used.ensures ∙ used_two in search (used, rules)
