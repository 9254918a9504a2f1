use Rattle.std.proofs.Common.{◌≡◌, bytes_eq, drop}
use Rattle.std.specs.Prelude.{find}
use Rattle.lsif.specs.Profiles.{profile_named, profile_text}
use Rattle.lsif.proofs.profile.Profile.named.Given as goal

abbrev pub invariant-loop-profile : goal.invariant-loop-profile
invariant-loop-profile l = find (λ profile. bytes_eq l.text (profile_text profile)) (drop l.profile-index l.profile-items) ≡ profile_named l.text
