use Rattle.std.proofs.Common.{rules, ◌∙◌, Some, ◌≡◌}
use Rattle.tables.specs.Schema.{format}
use Rattle.tables.proofs.Versions.{at_one, at_two, version_at}
use Rattle.tables.proofs.format.has_version.Goals as goal

pub returns-in_default-clause-old : goal.returns-in_default-clause-old
returns-in_default-clause-old c is =
    let found : c.table_named.result ≡ Some 0 = rw (c.as_bytes.ensures.value, is.is) at c.table_named.ensures ∙ at_one is.more in
    search (found, rules)

pub returns-in_default-clause-known : goal.returns-in_default-clause-known
returns-in_default-clause-known c is =
    let found : c.table_named.result ≡ Some 0 = rw (c.as_bytes.ensures.value, is) at c.table_named.ensures ∙ at_two in
    search (found, rules)

pub returns-in-Some-get-clause-old : goal.returns-in-Some-get-clause-old
returns-in-Some-get-clause-old c is =
    let found : c.table_named.result ≡ Some 0 = rw (c.as_bytes.ensures.value, is.is) at c.table_named.ensures ∙ at_one is.more in
    let first : c.in-Some.at ≡ 0 = search (found, rules) in
    let table : c.in-Some-get.table.now ≡ format = search (found, first, is.is, rules) in
    let named : c.column_named.result ≡ Some 0 = rw (c.as_bytes-in-Some-get.ensures.value, table) at c.column_named.ensures.value ∙ version_at in
    search (named, rules)

pub returns-in-Some-get-clause-known : goal.returns-in-Some-get-clause-known
returns-in-Some-get-clause-known c is =
    let found : c.table_named.result ≡ Some 0 = rw (c.as_bytes.ensures.value, is) at c.table_named.ensures ∙ at_two in
    let first : c.in-Some.at ≡ 0 = search (found, rules) in
    let table : c.in-Some-get.table.now ≡ format = search (found, first, is, rules) in
    let named : c.column_named.result ≡ Some 0 = rw (c.as_bytes-in-Some-get.ensures.value, table) at c.column_named.ensures.value ∙ version_at in
    search (named, rules)
