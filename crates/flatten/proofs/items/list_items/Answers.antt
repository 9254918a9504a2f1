use Rattle.std.proofs.Common.{◌≡◌, map, sym, subst, refl, rules}
use Rattle.std.specs.Prelude.{Contains}
use Rattle.std.specs.Ordering.{is_eq, is_lt}
use Rattle.std.specs.List.Sorted.{IsSorted}
use Rattle.std.proofs.lemmas.Fn.{dedup_same}
use Rattle.std.proofs.lemmas.List.Filters.{All-dedup}
use Rattle.std.proofs.lemmas.List.Sorted.{All-permutation, ranks_by, answers_always}
use Rattle.dump.specs.Places.{IsListing}
use Rattle.flatten.specs.Flat.{item_cmp}
use Rattle.flatten.specs.Steps.Items.{AreNumberedRows, found_value, numbers_value}
use Rattle.flatten.specs.Steps.Places.{IsNumbered}
use Rattle.flatten.specs.declared.items.FoundItem.{FoundItem}
use Rattle.dump.proofs.Listing.{sorted_listing, under}
use Rattle.flatten.proofs.ItemListings.{same_values}
use Rattle.flatten.proofs.RowOrders.{item_total, item_same}
use Rattle.flatten.proofs.items.list_items.Goals as goal

sorted : (c : goal.After-dedup_by) → IsSorted (under numbers_value item_cmp) c.sort_unstable_by.new.self.items
sorted c = c.sort_unstable_by.ensures.sorted (λ x y. is_lt (under numbers_value item_cmp x y)) (ranks_by (item_total numbers_value) (λ r. r))
    (answers_always _ (λ a r. is_lt r ≡ is_lt (under numbers_value item_cmp a.0.now a.1.0.now)) _ (λ f a r q k. search rules))

pub returns : goal.returns
returns c =
    let old = c.args.rows.now.items in
    let new = c.dedup_by.new.self.items in
    let same = λ (x y : FoundItem). is_eq (under numbers_value item_cmp x y) in
    let kept = dedup_same _ same _ (λ x y b f' x' y' k. search rules) _ _ c.dedup_by.ensures.filtered in
    let numbered : AreNumberedRows new = subst AreNumberedRows (sym kept) (All-dedup same (λ f. IsNumbered f.place) _ (All-permutation (λ f. IsNumbered f.place) old _ c.sort_unstable_by.ensures.permutation c.requires)) in
    let listed = sorted_listing numbers_value item_cmp (item_total numbers_value) same (λ x y. refl) (λ x y e. item_same (numbers_value x) (numbers_value y) e) _ _ _ c.sort_unstable_by.ensures.permutation (sorted c) kept in
    subst (λ l. IsListing item_cmp (Contains l) (map found_value new)) (same_values old c.requires) (subst (IsListing item_cmp (Contains (map numbers_value old))) (same_values new numbered) listed)
