use Rattle.std.proofs.Common.{subst}
use Rattle.std.specs.Prelude.{Contains}
use Rattle.std.specs.Ordering.{nat_cmp}
use Rattle.std.proofs.lemmas.List.Filters.{dedup_is}
use Rattle.dump.specs.Places.{IsListing}
use Rattle.flatten.proofs.Closures.{listed}
use Rattle.flatten.proofs.found.Found.listed.Goals as goal

pub returns : goal.returns
returns c = subst (λ xs. IsListing nat_cmp (Contains xs) c.dedup.new.self.items) c.self.view_is (listed _ _ _ c.sort_unstable.ensures.permutation c.sort_unstable.ensures.sorted (dedup_is _ _ _ c.dedup.ensures.filtered))
