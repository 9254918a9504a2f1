use Rattle.std.proofs.Common.{◌≡◌, ◌∙◌, rules, Some, string_bytes, to_z-of_z}
use mir.Val.{SFits}
use mir.Syntax.{w64}
use Rattle.sqlite.specs.Held.{state}
use Rattle.tables.proofs.Select.{reads}
use Rattle.tables.proofs.FoundSlots.{select_project_is, project_found}
use Rattle.tables.proofs.Knowing.{found_named, named_slot}
use Rattle.tables.proofs.parts.slot_project.Goals as goal

pub select_first-requires : goal.select_first-requires
select_first-requires g c = reads select_project_is

pub returns-then-known-slot-clause-project : goal.returns-then-known-slot-clause-project
returns-then-known-slot-clause-project g c clean has parts replies is project part slot =
    let fits : SFits w64 c.in-Some.known.id = search rules in
    let named = named_slot (state g.S.Store c.args.conn.now) c.args.named.now c.in-Some.known (search rules) c.requires.named clean has parts replies is project part in
    search rules

pub returns-clause-project : goal.returns-clause-project
returns-clause-project g c clean has parts replies is project part slot =
    let old = state g.S.Store c.args.conn.now in
    let new = state g.S.Store c.select_first.new.conn in
    let h = c.in_ok-found.ensures.read clean in
    let some : c.in_ok-found.found ≡ Some c.in-Some-found.project = search rules in
    project_found c.args.slot old new h.0 c.in_ok-found.found c.in-Some-found.project parts replies some is has (rw (c.params-to_sql.ensures, to_z-of_z c.ranges.slot) at h.1) h.2 project part slot

pub returns-clause-named : goal.returns-clause-named
returns-clause-named g c clean has parts replies is project part slot =
    let old = state g.S.Store c.args.conn.now in
    let mid = state g.S.Store c.select_first.new.conn in
    let h = c.in_ok-found.ensures.read clean in
    let some : c.in_ok-found.found ≡ Some c.in-Some-found.project = search rules in
    let kept : string_bytes c.in_ok-kept.kept ≡ string_bytes c.in-Some-found.project = search rules in
    kept ∙ found_named old mid c.args.slot (string_bytes c.in-Some-found.project) (c.in_ok-found.ensures.reads.kept clean)
    (λ schema p r keeps of which has_slot. project_found c.args.slot old mid h.0 c.in_ok-found.found c.in-Some-found.project p r some keeps schema
    (rw (c.params-to_sql.ensures, to_z-of_z c.ranges.slot) at h.1) h.2 of which has_slot) has parts replies is project part (rw (to_z-of_z c.ranges.slot) at slot)
