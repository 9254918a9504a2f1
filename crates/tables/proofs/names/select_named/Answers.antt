use Rattle.std.proofs.lemmas.Result.{IfOk-weaker}
use Rattle.sqlite.specs.Held.{state}
use Rattle.tables.proofs.Select.{reads}
use Rattle.tables.proofs.FoundTags.{select_named_is, named_found}
use Rattle.tables.proofs.names.select_named.Goals as goal

pub select_all-requires : goal.select_all-requires
select_all-requires g c = reads select_named_is

pub returns-clause-rows : goal.returns-clause-rows
returns-clause-rows g c clean has m s =
    let old = state g.S.Store c.args.conn.now in
    let new = state g.S.Store c.select_all.new.conn in
    IfOk-weaker c.select_all.result _ _ (λ found h. named_found c.args.name.now m old new h.0 found.items s has (rw c.params-to_sql.ensures at h.1) h.2) (c.select_all.ensures.read clean has)
