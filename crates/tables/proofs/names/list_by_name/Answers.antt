use Rattle.std.proofs.Common.{◌≡◌, true, length, subst, rules}
use Rattle.std.specs.List.{AllAdjacentBelow}
use Rattle.std.specs.Ordering.{is_lt}
use Rattle.std.proofs.lemmas.List.Sorted.{answers_always}
use Rattle.dump.proofs.Listing.{under}
use Rattle.machine.specs.FoundTags.{name_cmp}
use Rattle.machine.specs.Found.{tag_found}
use Rattle.tables.proofs.TagOrder.{name_total, listed}
use Rattle.tables.proofs.names.list_by_name.Goals as goal

pub returns-then-is_sorted_by : goal.returns-then-is_sorted_by
returns-then-is_sorted_by c =
    let sorted = c.sort_unstable_by.new.self.items in
    let cases = c.if-is_sorted_by.ensures.cases (λ x y. is_lt (under tag_found name_cmp x y)) (answers_always _ (λ a r. r ≡ is_lt (under tag_found name_cmp a.0.now a.1.0.now)) _ (λ f a r q k. search rules)) in
    listed tag_found name_cmp name_total c.args.found.now.items sorted c.sort_unstable_by.ensures.permutation
    (subst (λ xs. AllAdjacentBelow (λ x y. true ≡ is_lt (name_cmp (tag_found x) (tag_found y))) xs (length xs)) c.deref.ensures.value cases)
