-- The profiles, and how they are named.
use Rattle.std.specs.Prelude.{ℕ, nat_eq, List, [], ◌∷◌, codes, bytes_eq, Option, find}
use Rattle.lsif.specs.declared.profile.Profile.{Profile}
use Rattle.lsif.specs.declared.profile.Profile.TheVariants.{One, Two}

-- all profiles
abbrev pub profiles : List Profile
profiles = One ∷ Two ∷ []

-- the number by which replies and rows name a profile
abbrev pub profile_number : Profile → ℕ
profile_number One = 1
profile_number Two = 2

-- the number as requests and commands write it
abbrev pub profile_text : Profile → List ℕ
profile_text One = codes "1"
profile_text Two = codes "2"

abbrev pub profile_numbered : ℕ → Option Profile
profile_numbered number = find (λ profile. nat_eq number (profile_number profile)) profiles

abbrev pub profile_named : List ℕ → Option Profile
profile_named text = find (λ profile. bytes_eq text (profile_text profile)) profiles
