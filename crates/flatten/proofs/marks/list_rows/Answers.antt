use Rattle.std.proofs.Common.{◌≡◌, rules}
use Rattle.std.specs.Ordering.{is_lt}
use Rattle.std.specs.List.Sorted.{IsSorted}
use Rattle.std.proofs.lemmas.List.Filters.{dedup_is}
use Rattle.std.proofs.lemmas.List.Sorted.{ranks_by, answers_always}
use Rattle.flatten.specs.Flat.{mark_cmp}
use Rattle.flatten.specs.Rows.{mark_value}
use Rattle.dump.proofs.Listing.{sorted_listing, under}
use Rattle.flatten.proofs.RowOrders.{mark_total, mark_ties, mark_same}
use Rattle.flatten.proofs.marks.list_rows.Goals as goal

sorted : (c : goal.After-dedup) → IsSorted (under mark_value mark_cmp) c.sort_unstable_by.new.self.items
sorted c = c.sort_unstable_by.ensures.sorted (λ x y. is_lt (under mark_value mark_cmp x y)) (ranks_by mark_total (λ r. r))
    (answers_always _ (λ a r. is_lt r ≡ is_lt (under mark_value mark_cmp a.0.now a.1.0.now)) _ (λ f a r q k. search rules))

pub returns : goal.returns
returns c = sorted_listing mark_value mark_cmp mark_total _ mark_ties mark_same _ _ _ c.sort_unstable_by.ensures.permutation (sorted c) (dedup_is _ _ _ c.dedup.ensures.filtered)
