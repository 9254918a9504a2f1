use Rattle.std.proofs.Common.{◌≡◌, ◌∷◌, map, take, IsTrue}
use Rattle.sqlite_value.specs.declared.value.Value.TheVariants.{Int}
use Rattle.sqlite.specs.State.{HasCleanDisk}
use Rattle.sqlite.specs.Held.{state}
use Rattle.tables.specs.Schema.{schema_two}
use Rattle.tables.specs.Steps.Puts.{Steps, PutsAll}
use Rattle.tables.specs.Steps.Clauses.{CommitsNothing}
use Rattle.tables.proofs.part_rows.insert_each.Given as goal

abbrev pub invariant-loop-row : goal.invariant-loop-row
invariant-loop-row g l = record {
  uncommitted : CommitsNothing g.S.Store l.fn.tx.conn l.tx.conn;
  put : HasCleanDisk (state g.S.Store l.tx.conn.now) → IsTrue l.fn.tx.conn.now.in_transaction → (state g.S.Store l.fn.tx.conn.now).now.schema ≡ schema_two
      → Steps (PutsAll g.R.PartRow.tree (map (λ row. Int l.fn.slot ∷ g.R.PartRow.columns row) (take l.row-index l.rows))) (state g.S.Store l.fn.tx.conn.now) (state g.S.Store l.tx.conn.now);
}
