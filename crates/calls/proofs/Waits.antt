-- Known bytes that stay while nothing is read or written.
use Rattle.std.proofs.Common.{ℕ, List, Option, None, Some, refl}
use Rattle.std.specs.Io.KnownBytes.{Keeps}

pub keeps : (known : Option (List ℕ)) → Keeps known known
keeps None = tt
keeps (Some bytes) = refl
