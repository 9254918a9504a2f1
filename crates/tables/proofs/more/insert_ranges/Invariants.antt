use Rattle.std.proofs.Common.{◌≡◌, ◌∷◌, map, take, IsTrue}
use Rattle.sqlite_value.specs.declared.value.Value.TheVariants.{Int}
use Rattle.sqlite.specs.State.{HasCleanDisk}
use Rattle.sqlite.specs.Held.{state}
use Rattle.std.specs.List.{flat_map}
use Rattle.flatten.specs.Rows.{range_value}
use Rattle.tables.specs.Columns.{range_more}
use Rattle.tables.specs.Schema.{schema_two}
use Rattle.tables.specs.Steps.Puts.{Steps, PutsAll}
use Rattle.tables.specs.TableTrees.{more_tree}
use Rattle.tables.specs.Steps.Clauses.{CommitsNothing}
use Rattle.tables.proofs.more.insert_ranges.Given as goal

abbrev pub invariant-loop-row : goal.invariant-loop-row
invariant-loop-row g l = record {
  uncommitted : CommitsNothing g.S.Store l.fn.tx.conn l.tx.conn;
  put : HasCleanDisk (state g.S.Store l.tx.conn.now) → IsTrue l.fn.tx.conn.now.in_transaction → (state g.S.Store l.fn.tx.conn.now).now.schema ≡ schema_two
      → Steps (PutsAll more_tree (flat_map (λ row. map (λ columns. Int l.fn.slot ∷ columns) (range_more (range_value row))) (take l.row-index l.ranges))) (state g.S.Store l.fn.tx.conn.now) (state g.S.Store l.tx.conn.now);
}
