-- The number of the tags of a reader's bytes.
use Rattle.std.specs.Prelude.{◌≡◌, ℕ, ◌+◌, List, length, Option, Some, None, Result, Ok, Err, ⊤}
use Rattle.tags.specs.Judging.{HasFault, HasTags}
use Rattle.tags.specs.Values.{TagValue}
use Rattle.tags.specs.declared.counting.CountFault.{CountFault}
use Rattle.tags.specs.declared.counting.CountFault.TheVariants as faults

-- what is answered of known bytes: how many ordinary tags a file without fault has, or its first
-- fault
abbrev pub CountsTags : Option (List ℕ) → Result ℕ CountFault → Type 0
CountsTags None result = ⊤
CountsTags (Some text) (Ok n) = (tags : List TagValue) × HasTags text tags × (n ≡ length tags)
CountsTags (Some text) (Err (faults.Line f)) = HasFault text f
CountsTags (Some text) (Err faults.Memory) = ⊤
CountsTags (Some text) (Err faults.Read) = ⊤

-- the reader's count of failures goes up by one where it failed, and else stays
abbrev pub CountsRead : {A : Type 0} → ℕ → ℕ → Result A CountFault → Type 0
CountsRead old new (Ok a) = new ≡ old
CountsRead old new (Err faults.Memory) = new ≡ old
CountsRead old new (Err faults.Read) = new ≡ old + 1
CountsRead old new (Err (faults.Line f)) = new ≡ old
