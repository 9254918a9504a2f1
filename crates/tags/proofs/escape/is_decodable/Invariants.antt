use Rattle.std.proofs.Common.{◌≡◌, is_some, length}
use Rattle.tags.specs.Escapes.{decoded}
use Rattle.tags.proofs.escape.is_decodable.Given as goal

abbrev pub invariant-escapes : goal.invariant-escapes
invariant-escapes l = is_some (decoded l.rest) ≡ is_some (decoded l.written)

abbrev pub decreases-escapes : goal.decreases-escapes
decreases-escapes l = length l.rest
