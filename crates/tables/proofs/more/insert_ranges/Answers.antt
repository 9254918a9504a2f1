use Rattle.std.proofs.Common.{rules, arith, map, ◌∷◌, take_all, to_z-of_z}
use Rattle.sqlite_value.specs.declared.value.Value.TheVariants.{Int}
use Rattle.flatten.specs.Rows.{range_value}
use Rattle.tables.specs.Columns.{range_more}
use Rattle.tables.proofs.Puts.{rows_of_more, nothing_then}
use Rattle.tables.proofs.more.insert_ranges.Goals as goal

pub loop-row-preserved : goal.loop-row-preserved
loop-row-preserved g c = record {
  uncommitted = nothing_then c.loop-row.invariant.uncommitted c.insert_line.ensures.uncommitted;
  put = λ clean inside has.
      let was = c.loop-row.invariant.put (omega (arith, c.insert_line.ensures.uncommitted.survives.clean)) inside has in
      let put = c.in_ok-insert_line.ensures.put clean was.0.inside was.0.schema in
      rows_of_more (λ row. map (λ columns. Int _ ∷ columns) (range_more (range_value row))) 24 c.args.ranges.now c.loop-row.row-index c.row-item.result c.loop-row-test.true (search rules) _ _ _ was put;
}

pub returns-clause-put : goal.returns-clause-put
returns-clause-put g c clean inside has =
    rw (to_z-of_z c.ranges.slot, take_all c.loop-row.row-index c.args.ranges.now (omega (arith, c.loop-row-test.false))) at (c.loop-row.invariant.put clean inside has)
