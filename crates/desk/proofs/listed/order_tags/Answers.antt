use Rattle.std.proofs.Common.{◌≡◌, rules}
use Rattle.std.specs.Ordering.{is_lt}
use Rattle.std.proofs.lemmas.List.Sorted.{ranks_by, answers_always}
use Rattle.machine.specs.FoundTags.{name_cmp}
use Rattle.machine.specs.Found.{tag_found}
use Rattle.desk.specs.Steps.Listed.{by_value}
use Rattle.machine.proofs.OneReplies.{name_total}
use Rattle.desk.proofs.listed.order_tags.Goals as goal

pub returns-in-Prefix : goal.returns-in-Prefix
returns-in-Prefix c = rw c.in-Prefix.is (
  c.sort_unstable_by.ensures.permutation,
  c.sort_unstable_by.ensures.sorted (λ x y. is_lt (by_value name_cmp x y)) (ranks_by name_total tag_found)
      (answers_always _ (λ a r. is_lt r ≡ is_lt (by_value name_cmp a.0.now a.1.0.now)) _ (λ f a r q k. search rules)),
)
