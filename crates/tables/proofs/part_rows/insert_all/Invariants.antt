use Rattle.std.proofs.Common.{◌≡◌, ◌∷◌, ◌++◌, List, map, IsTrue}
use Rattle.std.specs.Slice.Iter.{chunks_rest, chunks_size}
use Rattle.sqlite_value.specs.declared.value.Value.TheVariants.{Int}
use Rattle.sqlite.specs.State.{HasCleanDisk}
use Rattle.sqlite.specs.Held.{state}
use Rattle.tables.specs.Schema.{schema_two}
use Rattle.tables.specs.Steps.Puts.{Steps, PutsAll}
use Rattle.tables.specs.Steps.Clauses.{CommitsNothing}
use Rattle.tables.proofs.part_rows.insert_all.Given as goal

abbrev pub invariant-loop-group : goal.invariant-loop-group
invariant-loop-group g l = record {
  can_next : (goal.iterator-loop-group g).can_next l.group-iterator;
  is_finite : (goal.iterator-loop-group g).is_finite l.group-iterator;
  size : chunks_size l.group-iterator ≡ 8;
  uncommitted : CommitsNothing g.S.Store l.fn.tx.conn l.tx.conn;
  put : (done : List g.row.R.Denot) × (done ++ chunks_rest l.group-iterator ≡ l.fn.rows)
      × (HasCleanDisk (state g.S.Store l.tx.conn.now) → IsTrue l.fn.tx.conn.now.in_transaction → (state g.S.Store l.fn.tx.conn.now).now.schema ≡ schema_two
      → Steps (PutsAll g.R.PartRow.tree (map (λ row. Int l.fn.slot ∷ g.R.PartRow.columns row) done)) (state g.S.Store l.fn.tx.conn.now) (state g.S.Store l.tx.conn.now));
}
