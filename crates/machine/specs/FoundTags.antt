-- Tags by their names, from a state of the machine.
use Rattle.std.specs.Prelude.{◌≡◌, ◌++◌, List, ℕ, Option, Some, None, ⊤, Contains}
use Rattle.std.specs.declared.cmp.Ordering.{Ordering}
use Rattle.std.specs.Ordering.{nat_cmp, ordering_then}
use Rattle.tags.specs.Values.{TagValue}
use Rattle.machine.specs.Projects.{text_cmp}
use Rattle.machine.specs.State.{State}

-- a tag of a project
pub record FoundTag : Type 0 where
  pub project : List ℕ
  pub tag : TagValue

-- the project is the one that is asked for, where one is
abbrev pub IsAsked : Option (List ℕ) → List ℕ → Type 0
IsAsked None project = ⊤
IsAsked (Some asked) project = project ≡ asked

-- a tag of a project, where that is asked for
abbrev pub IsTag : State → Option (List ℕ) → FoundTag → Type 0
IsTag m asked found = (tags : List TagValue) × (m.tags found.project ≡ Some tags) × Contains tags found.tag × IsAsked asked found.project

abbrev pub BeginsWith : List ℕ → List ℕ → Type 0
BeginsWith text start = (rest : List ℕ) × (text ≡ start ++ rest)

-- by project and line
abbrev pub line_cmp : FoundTag → FoundTag → Ordering
line_cmp a b = ordering_then (text_cmp a.project b.project) (nat_cmp a.tag.line b.tag.line)

-- by name, project and line
abbrev pub name_cmp : FoundTag → FoundTag → Ordering
name_cmp a b = ordering_then (text_cmp a.tag.name b.tag.name) (line_cmp a b)
