use Rattle.sqlite.specs.Held.{state}
use Rattle.tables.proofs.Select.{reads}
use Rattle.tables.proofs.ProjectNames.{select_projects_is, names_found}
use Rattle.tables.proofs.projects.select_names.Goals as goal

pub select_all-requires : goal.select_all-requires
select_all-requires g c = reads select_projects_is

pub returns-clause-names : goal.returns-clause-names
returns-clause-names g c clean has parts replies is =
    let old = state g.S.Store c.args.conn.now in
    let new = state g.S.Store c.select_all.new.conn in
    let h = c.in_ok-names.ensures.read clean has in
    names_found old new h.0 c.in_ok-names.names.items c.list_names.new.names.items parts replies is has h.1 h.2 c.list_names.ensures
