use Rattle.std.proofs.Common.{◌≡◌, rules}
use Rattle.std.specs.Ordering.{is_lt}
use Rattle.std.specs.List.{dedup}
use Rattle.std.specs.List.Sorted.{IsSorted}
use Rattle.std.proofs.lemmas.Fn.{dedup_same}
use Rattle.std.proofs.lemmas.List.Sorted.{ranks_by, answers_always}
use Rattle.desk.specs.Steps.Selected.{by_span}
use Rattle.desk.proofs.CoverRows.{same_span, span_total, rows_rise, rows_from, rows_each}
use Rattle.desk.proofs.selected.list_rows.Goals as goal

sorted : (c : goal.After-dedup_by_key) → IsSorted by_span c.sort_unstable_by.new.self.items
sorted c = c.sort_unstable_by.ensures.sorted (λ x y. is_lt (by_span x y)) (ranks_by span_total (λ r. r))
    (answers_always _ (λ a r. is_lt r ≡ is_lt (by_span a.0.now a.1.0.now)) _ (λ f a r q k. search rules))

kept : (c : goal.After-dedup_by_key) → c.dedup_by_key.new.self.items ≡ dedup same_span c.sort_unstable_by.new.self.items
kept c = dedup_same _ same_span _ (λ x y b f' x' y' k. search rules) _ _ c.dedup_by_key.ensures.filtered

pub returns-clause-rises : goal.returns-clause-rises
returns-clause-rises c = rows_rise _ _ _ c.sort_unstable_by.ensures.permutation (sorted c) (kept c)

pub returns-clause-from : goal.returns-clause-from
returns-clause-from c = rows_from _ _ _ c.sort_unstable_by.ensures.permutation (sorted c) (kept c)

pub returns-clause-each : goal.returns-clause-each
returns-clause-each c = rows_each _ _ _ c.sort_unstable_by.ensures.permutation (sorted c) (kept c)
