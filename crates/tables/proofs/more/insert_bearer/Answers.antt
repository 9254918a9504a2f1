use Rattle.sqlite.specs.Held.{state}
use Rattle.flatten.specs.Rows.{bearer_value}
use Rattle.tables.specs.Columns.{bearer_more}
use Rattle.tables.proofs.Filling.{puts_held, held_by}
use Rattle.tables.proofs.more.insert_bearer.Goals as goal

pub returns-then-is_listed-clause-put : goal.returns-then-is_listed-clause-put
returns-then-is_listed-clause-put g c clean inside has ranges earlier =
    puts_held 24 _ (state g.S.Store c.args.tx.now.conn.now) has inside
    (held_by 24 c.args.slot (bearer_more (bearer_value c.args.bearer.now)) _ _ (state g.S.Store c.args.tx.now.conn.now).now.trees (c.is_listed.ensures.listed c.if-is_listed.true) ranges earlier)
