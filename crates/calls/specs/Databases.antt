-- What the files of a database hold, and what its migration gives.
use Rattle.std.specs.Prelude.{◌≡◌, ℕ, List, length, Option, Some, None, IsTrue}
use Rattle.sqlite_wal.specs.Recovery.{Image}
use Rattle.sqlite_trees.specs.Tree.{Trees}
use Rattle.sqlite.specs.Files.{HoldsDatabase}
use Rattle.sqlite.specs.State as sqlite
use Rattle.machine.specs.Projects.{ProjectValue}
use Rattle.machine.specs.Selections.{FindsProjects}
use Rattle.tables.specs.Stands.{Rests, StandsFor, StandsForOne}
use Rattle.machine.specs.State.{State}

-- the file and its log hold a database that represents the state
pub record HoldsIndex (image : Image) (m : State) : Type 0 where
  pub db : Trees
  pub holds : HoldsDatabase image db
  pub stands : StandsFor db m

-- they hold one of format 1 that represents it
pub record HoldsIndexOne (image : Image) (m : State) : Type 0 where
  pub db : Trees
  pub holds : HoldsDatabase image db
  pub stands : StandsForOne db m

-- tables were made of those of format 1, and represent the state unless a fault has shut them
-- since; the count is that of its projects
pub record IsMigrated (s : sqlite.State) (m : State) (count : Option ℕ) : Type 0 where
  pub stands : IsTrue s.is_open → Rests s m
  pub projects : List ProjectValue
  pub found : FindsProjects m projects
  pub counted : count ≡ Some (length projects)

-- the tables were of format 2, and represent the state
abbrev pub IsOfFormatTwo : sqlite.State → State → Option ℕ → Type 0
IsOfFormatTwo s m count = (count ≡ None) × Rests s m
