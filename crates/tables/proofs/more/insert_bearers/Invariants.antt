use Rattle.std.proofs.Common.{◌≡◌, ◌∷◌, map, take, IsTrue}
use Rattle.std.specs.List.{flat_map}
use Rattle.sqlite_value.specs.declared.value.Value.TheVariants.{Int}
use Rattle.sqlite_value.specs.Order.{Row as Columns}
use Rattle.sqlite_rules.specs.Lists.{Has}
use Rattle.sqlite.specs.State.{HasCleanDisk}
use Rattle.sqlite.specs.Held.{state}
use Rattle.flatten.specs.Rows.{range_value, bearer_value}
use Rattle.tables.specs.Schema.{schema_two}
use Rattle.tables.specs.Databases.{Holds}
use Rattle.tables.specs.Columns.{range_more, bearer_more}
use Rattle.tables.specs.Steps.Puts.{PutsAll, Steps}
use Rattle.tables.specs.TableTrees.{more_tree}
use Rattle.tables.specs.Steps.Clauses.{CommitsNothing}
use Rattle.tables.proofs.more.insert_bearers.Given as goal

abbrev pub invariant-loop-at : goal.invariant-loop-at
invariant-loop-at g l = record {
  uncommitted : CommitsNothing g.S.Store l.fn.tx.conn l.tx.conn;
  put : HasCleanDisk (state g.S.Store l.tx.conn.now) → IsTrue l.fn.tx.conn.now.in_transaction → (state g.S.Store l.fn.tx.conn.now).now.schema ≡ schema_two
      → ((row : Columns) → Has (map (λ columns. Int l.fn.slot ∷ columns) (flat_map (λ r. range_more (range_value r)) l.rows.ranges.items)) row → Holds (state g.S.Store l.fn.tx.conn.now).now.trees more_tree row)
      → Steps (PutsAll more_tree (flat_map (λ b. map (λ columns. Int l.fn.slot ∷ columns) (bearer_more (bearer_value b))) (take l.at l.rows.bearers.items))) (state g.S.Store l.fn.tx.conn.now) (state g.S.Store l.tx.conn.now);
}
