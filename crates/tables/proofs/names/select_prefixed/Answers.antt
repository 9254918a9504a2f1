use Rattle.std.proofs.lemmas.Result.{IfOk-weaker}
use Rattle.sqlite.specs.Held.{state}
use Rattle.tables.proofs.Select.{reads}
use Rattle.tables.proofs.PrefixedTags.{select_prefixed_is, told_prefixed}
use Rattle.tables.proofs.Prefixes.{bound_so}
use Rattle.tables.proofs.names.select_prefixed.Goals as goal

pub select_all-requires : goal.select_all-requires
select_all-requires g c = reads select_prefixed_is

pub returns-clause-rows : goal.returns-clause-rows
returns-clause-rows g c clean has m s =
    let old = state g.S.Store c.args.conn.now in
    let new = state g.S.Store c.select_all.new.conn in
    IfOk-weaker c.select_all.result _ _
    (λ found h. told_prefixed c.args.prefix.now c.in_ok-behind.behind c.in_ok-behind.ensures m old new h.0 found.items s has (rw (c.params-to_sql.ensures, c.params-to_sql-2.ensures, bound_so c.args.prefix.now c.in_ok-behind.behind c.in_ok-behind.ensures) at h.1) h.2)
    (c.select_all.ensures.read clean has)
