use Rattle.std.proofs.Common.{to_z-of_z}
use Rattle.std.proofs.lemmas.Result.{IfOk-weaker}
use Rattle.sqlite.specs.Held.{state}
use Rattle.sqlite_exec.proofs.LoopsLemmas.{ok_both}
use Rattle.tables.proofs.Select.{reads}
use Rattle.tables.proofs.FoundItems.{select_items_is, items_found}
use Rattle.tables.proofs.items.items_in.Goals as goal

pub select_all-requires : goal.select_all-requires
select_all-requires g c = reads select_items_is

pub returns-clause-found : goal.returns-clause-found
returns-clause-found g c clean has m s project slot =
    let old = state g.S.Store c.args.conn.now in
    let new = state g.S.Store c.select_all.new.conn in
    IfOk-weaker c.select_all.result _ _ (λ found h.
    items_found c.args.result_number c.args.role m c.args.slot project old new h.0.0 found.items s has slot (rw (c.params-to_sql.ensures, c.params-to_sql-2.ensures, c.params-to_sql-3.ensures, c.role_index-role.ensures, to_z-of_z c.ranges.slot) at h.0.1) h.0.2 h.1)
    (ok_both c.select_all.result _ _ (c.select_all.ensures.read clean has) c.select_all.ensures.sound)
