use Rattle.std.proofs.Common.{rules, ◌≡◌, ◌∙◌, to_z, of_z, w64}
use Rattle.sqlite.specs.Held.{state}
use Rattle.tables.proofs.SlotRemoved.{drop_ok}
use Rattle.tables.proofs.slots.remove_slot.Goals as goal

pub returns-clause-gone : goal.returns-clause-gone
returns-clause-gone g c clean inside has parts replies is =
    let back : to_z w64 (of_z w64 c.part_number-number.result) ≡ c.part_number-number.result = search rules in
    drop_ok c.args.project.now c.args.part (state g.S.Store c.args.tx.now.conn.now) (state g.S.Store c.run.new.tx.conn.now) c.run.result has
    (rw (c.params-to_sql.ensures, c.params-to_sql-2.ensures, back ∙ c.part_number-number.ensures) at (c.run.ensures.ran clean inside)) parts replies is
