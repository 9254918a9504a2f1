use Rattle.std.proofs.Common.{arith}
use Rattle.sqlite.specs.State.{HasCleanDisk}
use Rattle.sqlite.specs.Held.{state}
use Rattle.tables.proofs.Filling.{goes_then}
use Rattle.tables.proofs.Keeping.{keeps_reply}
use Rattle.tables.proofs.changes.change_dump.Goals as goal

pub returns-clause-changed : goal.returns-clause-changed
returns-clause-changed g c clean inside has parts replies is free =
    let last : HasCleanDisk (state g.S.Store c.insert_dump.new.tx.conn.now) = omega (arith, c.insert_reply.ensures.uncommitted.survives.clean) in
    let first : HasCleanDisk (state g.S.Store c.remove_slot.new.tx.conn.now) = omega (arith, c.insert_dump.ensures.uncommitted.survives.clean) in
    let gone = c.in_ok-remove_slot.ensures.gone first inside has parts replies is in
    let put = c.in_ok-insert_dump.ensures.put last gone.0.inside gone.0.schema parts replies gone.1 in
    let reply = c.in_ok-insert_reply.ensures.put clean put.0.inside put.0.schema in (
      goes_then _ _ _ (goes_then _ _ _ gone.0 put.0) reply.0,
      keeps_reply _ replies c.args.project.now c.args.key.now c.args.reply.now _ _ put.1 free reply.1,
      c.in_ok-insert_reply.ensures.listed clean put.0.inside put.0.schema,
    )
