use Rattle.std.proofs.Common.{rules}
use Rattle.std.proofs.lemmas.List.Sorted.{IsNonDecreasingBy-from_sort, answers_always}
use Rattle.flatten.proofs.closure.sort_by_source.Goals as goal

pub returns-clause-ordered : goal.returns-clause-ordered
returns-clause-ordered g c = IsNonDecreasingBy-from_sort (λ p. p.0) _ (c.sort_unstable_by_key.ensures.sorted (λ p. p.0) (answers_always _ _ _ (λ f a r g h. search rules)))
