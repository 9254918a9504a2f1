use Rattle.std.proofs.Common.{arith, to_z-of_z}
use Rattle.std.proofs.lemmas.Result.{on_ok_weaker}
use Rattle.sqlite.specs.State.{HasCleanDisk}
use Rattle.sqlite.specs.Held.{state}
use Rattle.flatten.specs.Rows.{document_value, range_value, item_value}
use Rattle.tables.specs.Columns.{document_columns, range_columns, item_columns}
use Rattle.tables.specs.TableTrees.{document_tree, item_tree, range_row_tree}
use Rattle.tables.proofs.Filling.{three_puts, put_values}
use Rattle.tables.proofs.dump_part.insert_places.Goals as goal

pub returns-clause-put : goal.returns-clause-put
returns-clause-put g c clean inside has =
    let second : HasCleanDisk (state g.S.Store c.insert_all-2.new.tx.conn.now) = omega (arith, c.insert_all-3.ensures.uncommitted.survives.clean) in
    let first : HasCleanDisk (state g.S.Store c.insert_all.new.tx.conn.now) = omega (arith, c.insert_all-2.ensures.uncommitted.survives.clean) in
    let p = put_values document_tree c.args.slot document_columns document_value _ c.args.rows.now.documents.items _ _ c.as_slice.ensures.value (rw (to_z-of_z c.ranges.slot) at (c.in_ok-insert_all.ensures.put first inside has)) in
    let q = put_values range_row_tree c.args.slot range_columns range_value _ c.args.rows.now.ranges.items _ _ c.as_slice-2.ensures.value (rw (to_z-of_z c.ranges.slot) at (c.in_ok-insert_all-2.ensures.put second p.0.inside p.0.schema)) in
    on_ok_weaker c.insert_all-3.result
    (λ r. three_puts _ _ _ _ _ _ _ _ _ _ p q (put_values item_tree c.args.slot item_columns item_value _ c.args.rows.now.items.items _ _ c.as_slice-3.ensures.value r))
    (rw (to_z-of_z c.ranges.slot) at (c.insert_all-3.ensures.put clean q.0.inside q.0.schema))
