-- The projects of a state, and the order of texts.
use Rattle.std.specs.Prelude.{◌≡◌, ◌||◌, ℕ, Bool, true, List, is_some}
use Rattle.std.specs.declared.cmp.Ordering.{Ordering}
use Rattle.std.specs.Ordering.{nat_cmp}
use Rattle.std.specs.Cmp.Lexicographic.{slice_cmp}
use Rattle.machine.specs.State.{State}

-- by their bytes
abbrev pub text_cmp : List ℕ → List ℕ → Ordering
text_cmp = slice_cmp nat_cmp

-- a project's name, and whether it has a dump and tags
pub record ProjectValue : Type 0 where
  pub name : List ℕ
  pub dump : Bool
  pub tags : Bool

-- a project with a part, and which of both it has
abbrev pub IsProject : State → ProjectValue → Type 0
IsProject m p = (p.dump ≡ is_some (m.dump p.name)) × (p.tags ≡ is_some (m.tags p.name)) × ((p.dump || p.tags) ≡ true)

abbrev pub project_cmp : ProjectValue → ProjectValue → Ordering
project_cmp a b = text_cmp a.name b.name
