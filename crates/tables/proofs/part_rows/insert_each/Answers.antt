use Rattle.std.proofs.Common.{rules, arith, ◌∷◌, take_all, to_z-of_z}
use Rattle.sqlite_value.specs.declared.value.Value.TheVariants.{Int}
use Rattle.tables.proofs.Puts.{rows_more, nothing_then}
use Rattle.tables.proofs.part_rows.insert_each.Goals as goal

pub loop-row-preserved : goal.loop-row-preserved
loop-row-preserved g c = record {
  uncommitted = nothing_then c.loop-row.invariant.uncommitted c.insert_by.ensures.uncommitted;
  put = λ clean inside has.
      let was = c.loop-row.invariant.put (omega (arith, c.insert_by.ensures.uncommitted.survives.clean)) inside has in
      let put = rw c.from_ref.ensures.value at (c.in_ok-insert_by.ensures.put clean was.0.inside was.0.schema) in
      rows_more (λ row. Int _ ∷ g.R.PartRow.columns row) g.R.PartRow.tree c.args.rows.now c.loop-row.row-index c.row-item.result c.loop-row-test.true (search rules) _ (search rules) _ _ _ was put;
}

pub returns-clause-put : goal.returns-clause-put
returns-clause-put g c clean inside has =
    rw (to_z-of_z c.ranges.slot, take_all c.loop-row.row-index c.args.rows.now (omega (arith, c.loop-row-test.false))) at (c.loop-row.invariant.put clean inside has)
