use Rattle.sqlite.specs.Held.{state}
use Rattle.tables.proofs.Puts.{put_rows}
use Rattle.tables.proofs.Inserts.{keyed_listed, keyed_put}
use Rattle.tables.proofs.slots.insert_reply.Goals as goal

pub returns-clause-put : goal.returns-clause-put
returns-clause-put g c clean inside has =
    put_rows _ _ _ _ (keyed_put c.args.project.now c.args.key.now c.args.reply.now) (state g.S.Store c.args.tx.now.conn.now) (state g.S.Store c.run.new.tx.conn.now) c.run.result has inside
    (rw (c.params-to_sql.ensures, c.params-to_sql-2.ensures, c.params-to_sql-3.ensures) at (c.run.ensures.ran clean inside))

pub returns-clause-listed : goal.returns-clause-listed
returns-clause-listed g c clean inside has =
    keyed_listed c.args.project.now c.args.key.now c.args.reply.now (state g.S.Store c.args.tx.now.conn.now) (state g.S.Store c.run.new.tx.conn.now) c.run.result has
    (rw (c.params-to_sql.ensures, c.params-to_sql-2.ensures, c.params-to_sql-3.ensures) at (c.run.ensures.ran clean inside))
