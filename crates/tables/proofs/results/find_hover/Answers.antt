use Rattle.std.proofs.Common.{rules, ◌≡◌, ◌∙◌, sym, subst, to_z-of_z, Some, None}
use mir.Val.{SFits}
use mir.Syntax.{w64}
use Rattle.sqlite.specs.Held.{state}
use Rattle.tables.specs.Steps.Slots.{IsDumpSlot}
use Rattle.tables.proofs.Keeping.{none_is_some}
use Rattle.tables.proofs.Knowing.{by_slot, dump_of_slot}
use Rattle.tables.proofs.Looking.{reads_then}
use Rattle.tables.proofs.results.find_hover.Goals as goal

pub returns-in-None-clause-found : goal.returns-in-None-clause-found
returns-in-None-clause-found g c clean has m s =
    let db = (state g.S.Store c.args.conn.now).now.trees in
    let none : c.in_ok-slot.field-0 ≡ None = search rules in
    let nothing = subst (IsDumpSlot db m c.args.project.now) none (dump_of_slot db m s c.args.project.now c.in_ok-slot.field-0 (c.in_ok-slot.ensures.slot clean has s.parts _ s.keeps)) in
    λ contents h. absurd (none_is_some (sym nothing ∙ h.1))

pub returns-in-Some-2-clause-reads : goal.returns-in-Some-2-clause-reads
returns-in-Some-2-clause-reads g c = reads_then c.in_ok-slot.ensures.reads c.hover_in-in-Some-2.ensures.reads

pub returns-in-Some-2-clause-found : goal.returns-in-Some-2-clause-found
returns-in-Some-2-clause-found g c =
    let fits : SFits w64 c.in-Some-2.slot = search rules in
    let some : c.in_ok-slot.field-0 ≡ Some c.in-Some-2.slot = search rules in
    by_slot c.args.project.now c.in-Some-2.slot c.in_ok-slot.field-0 some c.in_ok-slot.ensures.reads c.hover_in-in-Some-2.ensures.reads
    (λ clean has m s. dump_of_slot _ m s c.args.project.now c.in_ok-slot.field-0 (c.in_ok-slot.ensures.slot clean has s.parts _ s.keeps)) (rw (to_z-of_z fits) at c.hover_in-in-Some-2.ensures.found)
