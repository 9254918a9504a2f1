use Rattle.std.proofs.Common.{rules, Ok}
use Rattle.sqlite.specs.Held.{state}
use Rattle.tables.proofs.Looking.{queried, reads_failed}
use Rattle.tables.proofs.selection.select_first.Goals as goal

pub returns-in_err-rows-clause-reads : goal.returns-in_err-rows-clause-reads
returns-in_err-rows-clause-reads g c = reads_failed (search rules) (queried c.args.sql.now _ (state g.S.Store c.args.conn.now) (state g.S.Store c.query_all.new.self) c.query_all.result c.requires c.query_all.ensures.ok c.query_all.ensures.err c.query_all.ensures.survives c.query_all.ensures.mode)

pub returns-in_err-read-in-Some-clause-reads : goal.returns-in_err-read-in-Some-clause-reads
returns-in_err-read-in-Some-clause-reads g c = reads_failed (search rules) (queried c.args.sql.now _ (state g.S.Store c.args.conn.now) (state g.S.Store c.query_all.new.self) c.query_all.result c.requires c.query_all.ensures.ok c.query_all.ensures.err c.query_all.ensures.survives c.query_all.ensures.mode)

pub returns-in-Some-clause-reads : goal.returns-in-Some-clause-reads
returns-in-Some-clause-reads g c = queried c.args.sql.now _ (state g.S.Store c.args.conn.now) (state g.S.Store c.query_all.new.self) (Ok c.in_ok-rows.rows) c.requires c.in_ok-rows.ensures.ok c.in_ok-rows.ensures.err c.query_all.ensures.survives c.query_all.ensures.mode

pub returns-clause-reads : goal.returns-clause-reads
returns-clause-reads g c = queried c.args.sql.now _ (state g.S.Store c.args.conn.now) (state g.S.Store c.query_all.new.self) (Ok c.in_ok-rows.rows) c.requires c.in_ok-rows.ensures.ok c.in_ok-rows.ensures.err c.query_all.ensures.survives c.query_all.ensures.mode
