use Rattle.std.proofs.Common.{arith, to_z-of_z}
use Rattle.std.proofs.lemmas.Result.{on_ok_weaker}
use Rattle.sqlite.specs.State.{HasCleanDisk}
use Rattle.sqlite.specs.Held.{state}
use Rattle.flatten.specs.Rows.{range_value, bearer_value}
use Rattle.tables.specs.Columns.{range_more, bearer_more}
use Rattle.tables.proofs.Filling.{held_of, two_puts}
use Rattle.tables.proofs.more.insert_more.Goals as goal

pub returns-clause-put : goal.returns-clause-put
returns-clause-put g c clean inside has =
    let first : HasCleanDisk (state g.S.Store c.insert_ranges.new.tx.conn.now) = omega (arith, c.insert_bearers.ensures.uncommitted.survives.clean) in
    let p = rw (to_z-of_z c.ranges.slot, c.as_slice.ensures.value) at (c.in_ok-insert_ranges.ensures.put first inside has) in
    on_ok_weaker c.insert_bearers.result
    (λ q. two_puts 24 c.args.slot range_more range_value bearer_more bearer_value c.args.rows.now.ranges.items c.args.rows.now.bearers.items _ _ _ p q)
    (rw (to_z-of_z c.ranges.slot) at (c.insert_bearers.ensures.put clean p.0.inside p.0.schema (rw (to_z-of_z c.ranges.slot) (held_of 24 c.args.slot (λ r. range_more (range_value r)) c.args.rows.now.ranges.items _ _ p.1))))
