-- What is true of the state at each moment of a life, and is enough for each query to have a reply.
use Rattle.std.specs.Prelude.{◌≡◌, ◌||◌, ℕ, true, List, map, Some, Ok, is_some, Contains}
use Rattle.dump.specs.Fault.{IsFaultless}
use Rattle.dump.specs.Progress.{DumpValue}
use Rattle.tags.specs.Judging.{HasTags}
use Rattle.tags.specs.Values.{TagValue}
use Rattle.machine.specs.State.{State}

-- each dump has no fault, the tags of each project are those of a text, and finitely many projects
-- have a part
pub record IsIndex (m : State) : Type 0 where
  pub dumps : (project : List ℕ) (dump : DumpValue) → m.dump project ≡ Some dump → IsFaultless (map Ok dump.elements)
  pub tags : (project : List ℕ) (tags : List TagValue) → m.tags project ≡ Some tags → (text : List ℕ) × HasTags text tags
  pub projects : List (List ℕ)
  pub parts : (project : List ℕ) → (is_some (m.dump project) || is_some (m.tags project)) ≡ true → Contains projects project
