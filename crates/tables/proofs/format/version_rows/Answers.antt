use Rattle.std.proofs.lemmas.Result.{IfOk-weaker}
use Rattle.sqlite.specs.Held.{state}
use Rattle.tables.specs.Schema.{with_indexes, schema_two}
use Rattle.tables.proofs.Versions.{version_is, one_is, two_is, failed_ok, survives}
use Rattle.tables.proofs.format.version_rows.Goals as goal

pub returns-clause-old : goal.returns-clause-old
returns-clause-old g c clean is =
    IfOk-weaker c.query_all.result _ _ (λ rows shown. version_is (with_indexes is.schema_is.more) 1 (one_is is.schema_is.more) (state g.S.Store c.args.conn.now) (state g.S.Store c.query_all.new.self) rows.items is.schema_is.is is.version shown) (c.query_all.ensures.ok clean)

pub returns-clause-known : goal.returns-clause-known
returns-clause-known g c clean is =
    IfOk-weaker c.query_all.result _ _ (λ rows shown. version_is schema_two 2 two_is (state g.S.Store c.args.conn.now) (state g.S.Store c.query_all.new.self) rows.items is.schema_is is.version shown) (c.query_all.ensures.ok clean)

pub returns-clause-same : goal.returns-clause-same
returns-clause-same g c clean up is = failed_ok (state g.S.Store c.args.conn.now) (state g.S.Store c.query_all.new.self) c.query_all.result up (c.query_all.ensures.err clean)

pub returns-clause-crash : goal.returns-clause-crash
returns-clause-crash g c is = survives (state g.S.Store c.args.conn.now) (state g.S.Store c.query_all.new.self) c.query_all.ensures.survives
