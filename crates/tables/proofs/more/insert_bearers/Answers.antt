use Rattle.std.proofs.Common.{rules, arith, take, to_z, of_z, w64, ◌∷◌, inr, map, take_all, to_z-of_z}
use Rattle.sqlite_value.specs.declared.value.Value.TheVariants.{Int}
use Rattle.flatten.specs.Rows.{bearer_value}
use Rattle.tables.specs.Columns.{bearer_more}
use Rattle.tables.proofs.Puts.{rows_of_more, nothing_then}
use Rattle.tables.proofs.Filling.{held_of}
use Rattle.tables.proofs.more.insert_bearers.Goals as goal

pub loop-at-preserved : goal.loop-at-preserved
loop-at-preserved g c = record {
  uncommitted = nothing_then c.loop-at.invariant.uncommitted c.insert_bearer.ensures.uncommitted;
  put = λ clean inside has ranges.
      let was = c.loop-at.invariant.put (omega (arith, c.insert_bearer.ensures.uncommitted.survives.clean)) inside has ranges in
      let earlier = held_of 24 (to_z w64 (of_z w64 c.args.slot)) (λ b. bearer_more (bearer_value b)) (take c.loop-at.at c.args.rows.now.bearers.items) _ _ was.1 in
      let put = c.in_ok-insert_bearer.ensures.put clean was.0.inside was.0.schema (λ row h. (was.1.rows row).1 (inr (ranges row h))) earlier in
      rows_of_more (λ b. map (λ columns. Int _ ∷ columns) (bearer_more (bearer_value b))) 24 c.args.rows.now.bearers.items c.loop-at.at c.bearer-item.result (search rules) (search rules) _ _ _ was put;
}

pub returns-clause-put : goal.returns-clause-put
returns-clause-put g c clean inside has ranges =
    rw (to_z-of_z c.ranges.slot, take_all c.loop-at.at c.args.rows.now.bearers.items (omega (arith, c.loop-at-test.false))) at (c.loop-at.invariant.put clean inside has (rw (to_z-of_z c.ranges.slot) ranges))
