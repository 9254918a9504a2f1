use Rattle.sqlite.specs.Held.{state}
use Rattle.tables.specs.Stands.{Rests}
use Rattle.tables.proofs.Knowing.{known_on}
use Rattle.tables.proofs.Looking.{survives_clean}
use Rattle.tables.proofs.tables.Tables.bearers.Goals as goal

pub returns-in-Ok-clause-found : goal.returns-in-Ok-clause-found
returns-in-Ok-clause-found g c clean m is =
    let rests : Rests (state g.S.Store c.self.inside.conn) m = rw (← c.self.view_is) at is in
    c.in-Ok.ensures.found clean rests.schema_is m rests.stands

pub invariant_of-self : goal.invariant_of-self
invariant_of-self g c =
    let old = state g.S.Store c.self.inside.conn in
    let new = state g.S.Store c.select_bearers.new.conn in
    (c.select_bearers.ensures.reads.mode c.self.invariant.0, known_on old new c.self.inside.slot (survives_clean old new c.select_bearers.ensures.reads.looks) c.in-Ok.ensures.reads.kept c.self.invariant.1)
