use Rattle.std.proofs.Common.{◌≡◌, rules}
use Rattle.std.specs.List.Sorted.{IsSorted}
use Rattle.std.specs.Ordering.{is_lt}
use Rattle.std.proofs.lemmas.List.Filters.{dedup_is}
use Rattle.std.proofs.lemmas.List.Sorted.{ranks_by, answers_always}
use Rattle.flatten.specs.Steps.Parents.{interval_cmp, interval_value}
use Rattle.dump.proofs.Listing.{sorted_listing, under}
use Rattle.flatten.proofs.RowOrders.{interval_total, interval_ties, interval_same}
use Rattle.flatten.proofs.parents.list_intervals.Goals as goal

sorted : (c : goal.After-dedup) → IsSorted (under interval_value interval_cmp) c.sort_unstable_by.new.self.items
sorted c = c.sort_unstable_by.ensures.sorted (λ x y. is_lt (under interval_value interval_cmp x y)) (ranks_by interval_total (λ s. s))
    (answers_always _ (λ a r. is_lt r ≡ is_lt (under interval_value interval_cmp a.0.now a.1.0.now)) _ (λ f a r q k. search rules))

pub returns : goal.returns
returns c = sorted_listing interval_value interval_cmp interval_total _ interval_ties interval_same _ _ _ c.sort_unstable_by.ensures.permutation (sorted c) (dedup_is _ _ _ c.dedup.ensures.filtered)
