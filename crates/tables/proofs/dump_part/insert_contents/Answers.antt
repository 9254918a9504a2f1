use Rattle.std.proofs.Common.{arith, to_z-of_z}
use Rattle.std.proofs.lemmas.Result.{on_ok_weaker}
use Rattle.sqlite.specs.State.{HasCleanDisk}
use Rattle.sqlite.specs.Held.{state}
use Rattle.flatten.specs.Rows.{hover_value, mark_value, bearer_value}
use Rattle.tables.specs.Columns.{hover_columns, mark_columns, bearer_columns}
use Rattle.tables.specs.TableTrees.{bearer_tree, hover_tree, mark_tree}
use Rattle.tables.proofs.Filling.{three_puts, put_values}
use Rattle.tables.proofs.dump_part.insert_contents.Goals as goal

pub returns-clause-put : goal.returns-clause-put
returns-clause-put g c clean inside has =
    let second : HasCleanDisk (state g.S.Store c.insert_all-2.new.tx.conn.now) = omega (arith, c.insert_all-3.ensures.uncommitted.survives.clean) in
    let first : HasCleanDisk (state g.S.Store c.insert_all.new.tx.conn.now) = omega (arith, c.insert_all-2.ensures.uncommitted.survives.clean) in
    let p = put_values hover_tree c.args.slot hover_columns hover_value _ c.args.rows.now.hovers.items _ _ c.as_slice.ensures.value (rw (to_z-of_z c.ranges.slot) at (c.in_ok-insert_all.ensures.put first inside has)) in
    let q = put_values mark_tree c.args.slot mark_columns mark_value _ c.args.rows.now.marks.items _ _ c.as_slice-2.ensures.value (rw (to_z-of_z c.ranges.slot) at (c.in_ok-insert_all-2.ensures.put second p.0.inside p.0.schema)) in
    on_ok_weaker c.insert_all-3.result
    (λ r. three_puts _ _ _ _ _ _ _ _ _ _ p q (put_values bearer_tree c.args.slot bearer_columns bearer_value _ c.args.rows.now.bearers.items _ _ c.as_slice-3.ensures.value r))
    (rw (to_z-of_z c.ranges.slot) at (c.insert_all-3.ensures.put clean q.0.inside q.0.schema))
