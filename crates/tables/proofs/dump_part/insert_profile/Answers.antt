use Rattle.std.proofs.Common.{to_z-of_z}
use Rattle.sqlite.specs.Held.{state}
use Rattle.tables.proofs.Puts.{put_rows}
use Rattle.tables.proofs.Inserts.{part_profile_put}
use Rattle.tables.proofs.dump_part.insert_profile.Goals as goal

pub returns-clause-put : goal.returns-clause-put
returns-clause-put g c clean inside has =
    put_rows _ _ _ _ (part_profile_put c.args.slot c.args.profile) (state g.S.Store c.args.tx.now.conn.now) (state g.S.Store c.run.new.tx.conn.now) c.run.result has inside
    (rw (c.params-to_sql.ensures, c.params-to_sql-2.ensures, to_z-of_z c.ranges.slot, c.number-number.ensures) at (c.run.ensures.ran clean inside))
