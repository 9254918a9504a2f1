use Rattle.std.proofs.Common.{rules, to_z-of_z, ◌≡◌, to_z, of_z, w64}
use Rattle.std.proofs.lemmas.Result.{IfOk-weaker}
use Rattle.sqlite.specs.Held.{state}
use Rattle.sqlite_exec.proofs.LoopsLemmas.{ok_both}
use Rattle.positions.specs.Position.{IsPosition}
use Rattle.tables.proofs.Select.{reads}
use Rattle.tables.proofs.RangeStarts.{select_start_is, start_found}
use Rattle.tables.proofs.range_rows.start_of.Goals as goal

pub select_first-requires : goal.select_first-requires
select_first-requires g c = reads select_start_is

pub returns-clause-start : goal.returns-clause-start
returns-clause-start g c clean has m s project dump slot there =
    let old = state g.S.Store c.args.conn.now in
    let new = state g.S.Store c.select_first.new.conn in
    let good : IsPosition c.args.at = search rules in
    let packed : to_z w64 (of_z w64 c.pack-packed.result) ≡ c.pack-packed.result = search rules in
    IfOk-weaker c.select_first.result _ _ (λ found h.
    start_found m c.args.slot project dump c.args.uri.now c.args.at old new h.0.0 found good s has slot there
    (rw (c.params-to_sql.ensures, c.params-to_sql-2.ensures, c.params-to_sql-3.ensures, to_z-of_z c.ranges.slot, packed, c.pack-packed.ensures.value) at h.0.1) h.0.2 h.1) (ok_both c.select_first.result _ _ (c.select_first.ensures.read clean) c.select_first.ensures.sound)
