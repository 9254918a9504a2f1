use Rattle.std.proofs.Common.{ap, rules}
use Rattle.std.specs.Ordering.{is_lt}
use Rattle.std.proofs.lemmas.List.Sorted.{ranks_by, answers_always}
use Rattle.dump.specs.Steps.Spans.{span_order}
use Rattle.dump.proofs.Passes.{span_total}
use Rattle.dump.proofs.spans.sort.Goals as goal

pub returns-clause-ordered : goal.returns-clause-ordered
returns-clause-ordered c = c.sort_unstable_by.ensures.sorted (λ s t. is_lt (span_order s t)) (ranks_by span_total (λ s. s)) (answers_always _ _ _ (λ f a r f' k. ap is_lt (search rules)))
