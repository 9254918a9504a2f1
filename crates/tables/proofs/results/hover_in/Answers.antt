use Rattle.std.proofs.Common.{to_z-of_z}
use Rattle.std.proofs.lemmas.Result.{IfOk-weaker}
use Rattle.sqlite.specs.Held.{state}
use Rattle.tables.proofs.Select.{reads}
use Rattle.tables.proofs.Hovers.{select_hover_is, hover_found}
use Rattle.tables.proofs.results.hover_in.Goals as goal

pub select_first-requires : goal.select_first-requires
select_first-requires g c = reads select_hover_is

pub returns-clause-found : goal.returns-clause-found
returns-clause-found g c clean has m s project slot =
    let old = state g.S.Store c.args.conn.now in
    let new = state g.S.Store c.select_first.new.conn in
    IfOk-weaker c.select_first.result _ _ (λ found h.
    hover_found c.args.result_number m c.args.slot project old new h.0 found s has slot (rw (c.params-to_sql.ensures, c.params-to_sql-2.ensures, to_z-of_z c.ranges.slot) at h.1) h.2) (c.select_first.ensures.read clean)
