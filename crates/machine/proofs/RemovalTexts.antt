-- The bodies of the replies to removals.
use Rattle.std.proofs.Common.{◌≡◌, codes, Bool, true, false, refl}
use Rattle.serde_json.proofs.OnLiterals.{serde_json_on_literals}
use Rattle.machine.specs.State.{parts_removed, accepted_text}

pub was_there : (b : Bool) → b ≡ true → codes "{\"removed\":true}" ≡ accepted_text (parts_removed b)
unfolding serde_json_on_literals
was_there true e = refl
was_there false e = absurd cc

pub was_absent : (b : Bool) → b ≡ false → codes "{\"removed\":false}" ≡ accepted_text (parts_removed b)
unfolding serde_json_on_literals
was_absent true e = absurd cc
was_absent false e = refl
