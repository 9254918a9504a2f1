use Rattle.tables.proofs.Whole.{upgraded_ok}
use Rattle.tables.proofs.migration.upgrade_tables.Goals as goal

pub returns-clause-made : goal.returns-clause-made
returns-clause-made g c is clean = upgraded_ok g.S.Store c.args.tx.now.conn.now c.execute_batch.new.self.conn.now c.execute_batch.result is (c.execute_batch.ensures.ran clean)
