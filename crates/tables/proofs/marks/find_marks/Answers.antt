use Rattle.std.proofs.Common.{rules, ◌≡◌, subst, to_z-of_z, Some, None}
use mir.Val.{SFits}
use mir.Syntax.{w64}
use Rattle.sqlite.specs.Held.{state}
use Rattle.tables.specs.Steps.Slots.{IsDumpSlot}
use Rattle.tables.proofs.Knowing.{known_after, by_slot}
use Rattle.tables.proofs.Looking.{reads_then}
use Rattle.tables.proofs.FoundMarks.{no_marks}
use Rattle.tables.proofs.marks.find_marks.Goals as goal

pub returns-in-None-clause-found : goal.returns-in-None-clause-found
returns-in-None-clause-found g c clean has m s =
    let none : c.in_ok-slot.field-0 ≡ None = search rules in
    let nothing = subst (IsDumpSlot (state g.S.Store c.args.conn.now).now.trees m c.args.project.now) none (c.in_ok-slot.ensures.slot clean has m s) in
    rw (c.new.ensures.items) (no_marks m c.args.project.now c.args.line nothing)

pub returns-in-Some-clause-reads : goal.returns-in-Some-clause-reads
returns-in-Some-clause-reads g c = reads_then c.in_ok-slot.ensures.reads c.marks_in.ensures.reads

pub returns-in-Some-clause-found : goal.returns-in-Some-clause-found
returns-in-Some-clause-found g c =
    let fits : SFits w64 c.in-Some.slot = search rules in
    let some : c.in_ok-slot.field-0 ≡ Some c.in-Some.slot = search rules in
    by_slot c.args.project.now c.in-Some.slot c.in_ok-slot.field-0 some c.in_ok-slot.ensures.reads c.marks_in.ensures.reads c.in_ok-slot.ensures.slot (rw (to_z-of_z fits) at c.marks_in.ensures.found)

pub returns-in-Some-clause-known : goal.returns-in-Some-clause-known
returns-in-Some-clause-known g c = known_after c.marks_in.result c.dump_slot.new.known c.marks_in.ensures.reads c.in_ok-slot.ensures.known
