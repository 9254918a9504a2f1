use Rattle.std.proofs.Common.{◌≡◌, ◌∷◌, ◌++◌, List, map, IsTrue}
use Rattle.std.specs.Slice.Iter.{chunks_rest, chunks_size}
use Rattle.sqlite_value.specs.declared.value.Value.TheVariants.{Int}
use Rattle.sqlite.specs.State.{HasCleanDisk}
use Rattle.sqlite.specs.Held.{state}
use Rattle.tags.specs.Views.{tag_value}
use Rattle.tags.specs.declared.tag.Tag.{Tag}
use Rattle.tables.specs.Columns.{tag_columns}
use Rattle.tables.specs.Schema.{schema_two}
use Rattle.tables.specs.TableTrees.{tag_tree}
use Rattle.tables.specs.Steps.Puts.{Steps, PutsAll}
use Rattle.tables.specs.Steps.Clauses.{CommitsNothing}
use Rattle.tables.proofs.tags_part.insert_rows.Given as goal

abbrev pub invariant-loop-group : goal.invariant-loop-group
invariant-loop-group g l = record {
  can_next : (goal.iterator-loop-group g).can_next l.group-iterator;
  is_finite : (goal.iterator-loop-group g).is_finite l.group-iterator;
  size : chunks_size l.group-iterator ≡ 8;
  uncommitted : CommitsNothing g.S.Store l.fn.tx.conn l.tx.conn;
  put : (done : List Tag) × (done ++ chunks_rest l.group-iterator ≡ l.fn.tags)
      × (HasCleanDisk (state g.S.Store l.tx.conn.now) → IsTrue l.fn.tx.conn.now.in_transaction → (state g.S.Store l.fn.tx.conn.now).now.schema ≡ schema_two
      → Steps (PutsAll tag_tree (map (λ tag. Int l.fn.slot ∷ tag_columns (tag_value tag)) done)) (state g.S.Store l.fn.tx.conn.now) (state g.S.Store l.tx.conn.now));
}
