use Rattle.std.proofs.Common.{◌≡◌, ◌∷◌, ◌∙◌, arith, List, Ok, ap, flat_map, map, take_all, to_z-of_z}
use Rattle.sqlite_value.specs.declared.value.Value.{Value}
use Rattle.sqlite_value.specs.declared.value.Value.TheVariants.{Int}
use Rattle.sqlite.specs.Values.{bound}
use Rattle.sqlite.specs.Held.{state}
use Rattle.tables.proofs.Puts.{as_params, put_rows}
use Rattle.tables.proofs.part_rows.insert_by.Goals as goal

pub returns-clause-put : goal.returns-clause-put
returns-clause-put g c clean inside has =
    let values : List Value = flat_map (λ row. Int c.args.slot ∷ g.R.PartRow.columns row) c.args.rows.now in
    let same : bound c.deref.result.now ≡ values =
    ap bound c.deref.ensures.value ∙ (rw (to_z-of_z c.ranges.slot, take_all c.loop-row.row-index c.args.rows.now (omega (arith, c.loop-row-test.false))) at c.loop-row.invariant) in
    let old = state g.S.Store c.args.tx.now.conn.now in
    let new = state g.S.Store c.run.new.tx.conn.now in
    put_rows c.args.text.now g.R.PartRow.tree values (map (λ row. Int c.args.slot ∷ g.R.PartRow.columns row) c.args.rows.now) c.requires.inserts old new (Ok c.in_ok-run.field-0) has inside
    (as_params c.args.text.now (bound c.deref.result.now) values old new (Ok c.in_ok-run.field-0) (c.in_ok-run.ensures.ran clean inside) same)
