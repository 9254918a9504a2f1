use Rattle.std.proofs.Common.{arith, rules}
use Rattle.sqlite.specs.State.{HasCleanDisk}
use Rattle.sqlite.specs.Held.{state}
use Rattle.tables.proofs.Filling.{goes_then}
use Rattle.tables.proofs.Standing.{were_there}
use Rattle.tables.proofs.changes.clear_parts.Goals as goal

pub returns-then-dumps-gt0-clause-gone : goal.returns-then-dumps-gt0-clause-gone
returns-then-dumps-gt0-clause-gone g c clean inside has parts replies is =
    let first : HasCleanDisk (state g.S.Store c.remove_slot.new.tx.conn.now) = omega (arith, c.remove_slot-2.ensures.uncommitted.survives.clean) in
    let dumps = c.in_ok-dumps.ensures.gone first inside has parts replies is in
    let tags = c.in_ok-tags.ensures.gone clean dumps.0.inside dumps.0.schema _ replies dumps.1 in (
      search (were_there c.in_ok-dumps.dumps c.in_ok-tags.tags parts c.args.project.now dumps.2 tags.2, rules),
      goes_then _ _ _ dumps.0 tags.0,
      tags.1,
    )

pub returns-else-dumps-gt0-clause-gone : goal.returns-else-dumps-gt0-clause-gone
returns-else-dumps-gt0-clause-gone g c clean inside has parts replies is =
    let first : HasCleanDisk (state g.S.Store c.remove_slot.new.tx.conn.now) = omega (arith, c.remove_slot-2.ensures.uncommitted.survives.clean) in
    let dumps = c.in_ok-dumps.ensures.gone first inside has parts replies is in
    let tags = c.in_ok-tags.ensures.gone clean dumps.0.inside dumps.0.schema _ replies dumps.1 in (
      search (were_there c.in_ok-dumps.dumps c.in_ok-tags.tags parts c.args.project.now dumps.2 tags.2, rules),
      goes_then _ _ _ dumps.0 tags.0,
      tags.1,
    )
