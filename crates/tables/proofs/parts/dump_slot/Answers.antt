use Rattle.std.proofs.Common.{◌≡◌, rules, Some, None, to_z-of_z}
use mir.Val.{SFits}
use mir.Syntax.{w64}
use Rattle.sqlite.specs.Held.{state}
use Rattle.tables.specs.declared.slots.Part.TheVariants.{Dump}
use Rattle.tables.proofs.DumpEntries.{no_dump}
use Rattle.tables.proofs.FoundSlots.{no_slot, the_slot}
use Rattle.tables.proofs.Knowing.{found_known, known_slot}
use Rattle.tables.proofs.parts.dump_slot.Goals as goal

pub returns-then-eq-clause-slot : goal.returns-then-eq-clause-slot
returns-then-eq-clause-slot g c clean has m s =
    let fits : SFits w64 c.in-Some.slot.id = search rules in
    rw (to_z-of_z fits) (known_slot (state g.S.Store c.args.conn.now) c.args.known.now c.in-Some.slot (search rules) c.requires.known clean has m s c.args.project.now (search rules))

pub returns-in_default-2-clause-slot : goal.returns-in_default-2-clause-slot
returns-in_default-2-clause-slot g c clean has m s =
    let db = (state g.S.Store c.args.conn.now).now.trees in
    let none : c.in_ok-id.field-0 ≡ None = search rules in
    no_dump db m s c.args.project.now (no_slot db s.parts c.args.project.now Dump c.in_ok-id.field-0 (c.in_ok-id.ensures.slot clean has s.parts _ s.keeps) none)

pub returns-clause-slot : goal.returns-clause-slot
returns-clause-slot g c clean has m s =
    let db = (state g.S.Store c.args.conn.now).now.trees in
    let id = c.in-Some-2.id in
    let fits : SFits w64 id = search rules in
    let some : c.in_ok-id.field-0 ≡ Some id = search rules in
    rw (to_z-of_z fits) (the_slot db s.parts c.args.project.now Dump id c.in_ok-id.field-0 (c.in_ok-id.ensures.slot clean has s.parts _ s.keeps) some)

pub returns-clause-known : goal.returns-clause-known
returns-clause-known g c clean has m s =
    let old = state g.S.Store c.args.conn.now in
    let mid = state g.S.Store c.find_slot.new.conn in
    let id = c.in-Some-2.id in
    let fits : SFits w64 id = search rules in
    let some : c.in_ok-id.field-0 ≡ Some id = search rules in
    rw (to_z-of_z fits, c.in_ok-project.ensures.ok)
    (found_known old mid c.args.project.now c.in_ok-id.field-0 id some (c.in_ok-id.ensures.reads.kept clean) (λ schema n t. c.in_ok-id.ensures.slot clean schema t.parts _ t.keeps) has m s)
