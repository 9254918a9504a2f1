use Rattle.std.proofs.Common.{◌≡◌, nat_eq, drop}
use Rattle.std.specs.Prelude.{find}
use Rattle.lsif.specs.Profiles.{profile_number, profile_numbered}
use Rattle.lsif.proofs.profile.Profile.numbered.Given as goal

abbrev pub invariant-loop-profile : goal.invariant-loop-profile
invariant-loop-profile l = find (λ profile. nat_eq l.number (profile_number profile)) (drop l.profile-index l.profile-items) ≡ profile_numbered l.number
