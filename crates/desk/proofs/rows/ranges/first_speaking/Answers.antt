use Rattle.std.proofs.Common.{IsTrue, map, sym, subst, rules}
use Rattle.std.specs.Prelude.{Some, None}
use Rattle.dump.specs.Requests.{IsFirst, here, later, nobody}
use Rattle.machine.specs.Selections.{range_found}
use Rattle.desk.specs.Steps.Rows.{RowSpeaks}
use Rattle.streams.proofs.Lists.{drop_next}
use Rattle.desk.proofs.ReadingOnly.{reads_then}
use Rattle.desk.proofs.RowLists.{drop_end}
use Rattle.desk.proofs.rows.ranges.first_speaking.Goals as goal

pub returns-then-branch-clause-first : goal.returns-then-branch-clause-first
returns-then-branch-clause-first g c = λ s m stood.
    let was = c.loop-range.invariant in
    let e = c.in_ok-speaks.ensures in
    let range = c.range-item.result in
    let split = drop_next c.args.ranges.now c.loop-range.range-index range c.loop-range-test.true c.range-item.is in
    let yes : IsTrue c.in_ok-speaks.field-0 = search rules in
    let speaks = (e.found s m ((was.reads_only (e.reads.reliable s)).state m stood)).0 yes in
    was.first (e.reads.reliable s) m stood (Some (range_found range))
    (subst (λ l. IsFirst (RowSpeaks m c.args.request c.args.project.now) (map range_found l) (Some (range_found range))) (sym split) (here speaks))

pub loop-range-preserved : goal.loop-range-preserved
loop-range-preserved g c =
    let was = c.loop-range.invariant in
    let e = c.in_ok-speaks.ensures in
    let range = c.range-item.result in
    let request = c.args.request in
    let own = c.args.project.now in
    let split = drop_next c.args.ranges.now c.loop-range.range-index range c.loop-range-test.true c.range-item.is in
    let no : IsTrue c.in_ok-speaks.field-0 → ⊥ = search rules in
    record {
      reliable = λ s. was.reliable (e.reads.reliable s);
      reads_only = λ s. reads_then (was.reads_only (e.reads.reliable s)) (e.reads.only s);
      first = λ s m stood o rest.
          let silent : RowSpeaks m request own (range_found range) → ⊥ = λ speaks. no ((e.found s m ((was.reads_only (e.reads.reliable s)).state m stood)).1 speaks) in
          was.first (e.reads.reliable s) m stood o (subst (λ l. IsFirst (RowSpeaks m request own) (map range_found l) o) (sym split) (later silent rest));
    }

pub returns-clause-first : goal.returns-clause-first
returns-clause-first g c = λ s m stood.
    let ended = drop_end c.args.ranges.now c.loop-range.range-index c.loop-range-test.false in
    c.loop-range.invariant.first s m stood None (subst (λ l. IsFirst (RowSpeaks m c.args.request c.args.project.now) (map range_found l) None) (sym ended) nobody)
