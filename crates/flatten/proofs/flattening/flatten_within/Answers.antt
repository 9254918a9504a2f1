use Rattle.std.proofs.Common.{map, subst}
use Rattle.std.specs.Prelude.{Ok}
use Rattle.dump.specs.Fault.{IsFaultless}
use Rattle.flatten.proofs.flattening.flatten_within.Goals as goal

pub range_rows-requires-clause-faultless : goal.range_rows-requires-clause-faultless
range_rows-requires-clause-faultless c = subst (λ v. IsFaultless (map Ok v.elements)) c.in_ok-kinds.ensures.dump c.in_ok-kinds.ensures.kinds.faultless
