use Rattle.std.proofs.Common.{to_z-of_z, rules, ◌≡◌, Some}
use Rattle.sqlite.specs.Held.{state}
use Rattle.tables.proofs.Select.{reads}
use Rattle.tables.proofs.Profiles.{select_profile_is, profile_found}
use Rattle.tables.proofs.parts.profile_in.Goals as goal

pub select_first-requires : goal.select_first-requires
select_first-requires g c = reads select_profile_is

pub returns-clause-profile : goal.returns-clause-profile
returns-clause-profile g c clean has m s project dump slot there =
    let old = state g.S.Store c.args.conn.now in
    let new = state g.S.Store c.select_first.new.conn in
    let h = c.in_ok-found.ensures.read clean in
    let found : c.in_ok-found.found ≡ Some dump.profile = profile_found m c.args.slot project dump old new h.0 c.in_ok-found.found s has slot there (rw (c.params-to_sql.ensures, to_z-of_z c.ranges.slot) at h.1) h.2 in
    search (found, rules)
