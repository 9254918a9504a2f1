use Rattle.sqlite.specs.Held.{state}
use Rattle.tables.specs.Stands.{Rests}
use Rattle.tables.proofs.tables.Tables.marks.Goals as goal

pub returns-in-Ok-clause-found : goal.returns-in-Ok-clause-found
returns-in-Ok-clause-found g c clean m is =
    let rests : Rests (state g.S.Store c.self.inside.conn) m = rw (← c.self.view_is) at is in
    c.in-Ok.ensures.found clean rests.schema_is m rests.stands
