use Rattle.std.proofs.Common.{rules, ◌≡◌, ◌∙◌, to_z, of_z, w64, [], ◌∷◌, Ok, subst, sym}
use Rattle.sqlite_value.specs.declared.value.Value.TheVariants.{Int, Text, Null}
use Rattle.tables.specs.Steps.Puts.{Steps, Puts}
use Rattle.sqlite.specs.Held.{state}
use Rattle.tables.specs.TableTrees.{slot_tree}
use Rattle.tables.proofs.Inserts.{slot_put}
use Rattle.tables.specs.Parts.{part_number}
use Rattle.tables.proofs.slots.insert_slot.Goals as goal

pub returns-clause-put : goal.returns-clause-put
returns-clause-put g c clean inside has =
    let number : to_z w64 (of_z w64 c.part_number-number.result) ≡ c.part_number-number.result = search rules in
    let put = slot_put c.args.project.now (part_number c.args.part) (state g.S.Store c.args.tx.now.conn.now) (state g.S.Store c.run.new.tx.conn.now) (Ok _) has inside
    (rw (c.params-to_sql.ensures, c.params-to_sql-2.ensures, number ∙ c.part_number-number.ensures) at (c.in_ok-run.ensures.ran clean inside)) in
    let back : to_z w64 (of_z w64 c.last_insert_rowid.result) ≡ c.last_insert_rowid.result = search rules in
    subst (λ id. Steps (Puts slot_tree id (Null ∷ Text c.args.project.now ∷ Int (part_number c.args.part) ∷ [])) (state g.S.Store c.args.tx.now.conn.now) (state g.S.Store c.run.new.tx.conn.now)) (sym (back ∙ c.last_insert_rowid.ensures)) put
