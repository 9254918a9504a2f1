use Rattle.std.proofs.Common.{rules, to_z-of_z, ◌≡◌, ◌∙◌, ap, sym, subst, Some, None, option_map}
use mir.Val.{SFits}
use mir.Syntax.{w64}
use Rattle.sqlite.specs.Held.{state}
use Rattle.dump.specs.Progress.{DumpValue}
use Rattle.lsif.specs.declared.profile.Profile.{Profile}
use Rattle.tables.specs.Steps.Slots.{IsDumpSlot}
use Rattle.tables.proofs.DumpEntries.{dump_slot}
use Rattle.tables.proofs.Knowing.{by_slot, dump_of_slot}
use Rattle.tables.proofs.Looking.{reads_failed, reads_then}
use Rattle.tables.proofs.parts.find_profile.Goals as goal

pub returns-in-None-clause-found : goal.returns-in-None-clause-found
returns-in-None-clause-found g c clean has m s =
    let db = (state g.S.Store c.args.conn.now).now.trees in
    let none : c.in_ok-slot.field-0 ≡ None = search rules in
    let nothing = subst (IsDumpSlot db m c.args.project.now) none (dump_of_slot db m s c.args.project.now c.in_ok-slot.field-0 (c.in_ok-slot.ensures.slot clean has s.parts _ s.keeps)) in
    sym (ap (option_map (λ (d : DumpValue). d.profile)) nothing)

pub returns-in_err-profile_in-in-Some-clause-reads : goal.returns-in_err-profile_in-in-Some-clause-reads
returns-in_err-profile_in-in-Some-clause-reads g c = reads_failed (search rules) (reads_then c.in_ok-slot.ensures.reads c.profile_in.ensures.reads)

pub returns-in_ok-profile_in-in-Some-clause-reads : goal.returns-in_ok-profile_in-in-Some-clause-reads
returns-in_ok-profile_in-in-Some-clause-reads g c = reads_then c.in_ok-slot.ensures.reads c.in_ok-profile_in-in-Some.ensures.reads

pub returns-in_ok-profile_in-in-Some-clause-found : goal.returns-in_ok-profile_in-in-Some-clause-found
returns-in_ok-profile_in-in-Some-clause-found g c =
    let fits : SFits w64 c.in-Some.slot = search rules in
    let some : c.in_ok-slot.field-0 ≡ Some c.in-Some.slot = search rules in
    let says = rw (to_z-of_z fits) at c.in_ok-profile_in-in-Some.ensures.profile in
    by_slot c.args.project.now c.in-Some.slot c.in_ok-slot.field-0 some c.in_ok-slot.ensures.reads c.in_ok-profile_in-in-Some.ensures.reads
    (λ clean has m s. dump_of_slot _ m s c.args.project.now c.in_ok-slot.field-0 (c.in_ok-slot.ensures.slot clean has s.parts _ s.keeps))
    (λ clean has m s project slot.
    let dump = dump_slot _ m s project c.in-Some.slot slot in
    ap (λ (p : Profile). Some p) (says clean has m s project dump.0 slot dump.1) ∙ sym (ap (option_map (λ (d : DumpValue). d.profile)) dump.1))
