use Rattle.std.proofs.Common.{rules, ◌≡◌, ◌∙◌, to_z, of_z, w64}
use Rattle.std.proofs.lemmas.Result.{IfOk-weaker}
use Rattle.sqlite.specs.Held.{state}
use Rattle.tables.proofs.Select.{reads}
use Rattle.tables.proofs.FoundSlots.{select_slot_is, slot_found}
use Rattle.tables.proofs.parts.find_slot.Goals as goal

pub select_first-requires : goal.select_first-requires
select_first-requires g c = reads select_slot_is

pub returns-clause-slot : goal.returns-clause-slot
returns-clause-slot g c clean has parts replies is =
    let number : to_z w64 (of_z w64 c.part_number-number.result) ≡ c.part_number-number.result = search rules in
    let old = state g.S.Store c.args.conn.now in
    let new = state g.S.Store c.select_first.new.conn in
    IfOk-weaker c.select_first.result _ _ (λ found h.
    slot_found c.args.project.now c.args.part old new h.0 found parts replies is has (rw (c.params-to_sql.ensures, c.params-to_sql-2.ensures, number ∙ c.part_number-number.ensures) at h.1) h.2) (c.select_first.ensures.read clean)
