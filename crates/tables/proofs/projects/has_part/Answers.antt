use Rattle.std.proofs.Common.{◌≡◌, is_some, rules}
use Rattle.sqlite.specs.Held.{state}
use Rattle.tables.proofs.ProjectNames.{told_part}
use Rattle.tables.proofs.projects.has_part.Goals as goal

pub returns-clause-part : goal.returns-clause-part
returns-clause-part g c clean has parts replies is =
    let project = c.args.project.now in
    let part = c.args.part in
    let found = c.in_ok-slot.slot in
    let told : is_some found ≡ is_some (parts project part) = told_part (state g.S.Store c.args.conn.now).now.trees parts replies project part found is (c.in_ok-slot.ensures.slot clean has parts replies is) in
    search (told, rules)
