-- The projects and the tags that queries list, as the walks over what is kept find them.
use Rattle.std.specs.Prelude.{◌≡◌, ◌||◌, ⊤, ℕ, nat_eq, Bool, true, List, [], ◌∷◌, ◌++◌, Option, Some, None, is_some, String, bytes_eq, string_bytes, if◌then◌else◌}
use Rattle.std.specs.List.{starts_with}
use Rattle.std.specs.List.Sorted.{IsPermutation, IsSorted}
use Rattle.std.specs.declared.cmp.Ordering.{Ordering}
use Rattle.tags.specs.Judging.{lines_rise}
use Rattle.tags.specs.Values.{TagValue}
use Rattle.machine.specs.FoundTags.{FoundTag, name_cmp}
use Rattle.machine.specs.Found.{tag_found}
use Rattle.machine.specs.Projects.{ProjectValue}
use Rattle.machine.specs.Requests.{QueryValue, names, prefix}
use Rattle.machine.specs.declared.found.FoundTag as program
use Rattle.desk.specs.declared.index.Wanted.{Wanted}
use Rattle.desk.specs.declared.index.Wanted.TheVariants.{Name, Prefix}
use Rattle.desk.specs.declared.project.Project.{Project}

abbrev pub is_wanted : Wanted → List ℕ → Bool
is_wanted (Name text) name = bytes_eq name text.now
is_wanted (Prefix text) name = starts_with nat_eq name text.now

-- the query for the tags with these names
abbrev pub tags_query : Wanted → Option (List ℕ) → QueryValue
tags_query (Name text) project = names text.now project
tags_query (Prefix text) project = prefix text.now project

abbrev pub is_asked : Option (List ℕ) → List ℕ → Bool
is_asked (Some name) project = bytes_eq name project
is_asked None project = true

-- of a project's tags those whose names are so
abbrev pub tags_so : (List ℕ → Bool) → List ℕ → List TagValue → List FoundTag
tags_so is_so project [] = []
tags_so is_so project (t ∷ ts) = if is_so t.name then record { project = project; tag = t } ∷ tags_so is_so project ts else tags_so is_so project ts

abbrev pub project_tags : (List ℕ → Bool) → Option (List ℕ) → List ℕ → Option (List TagValue) → List FoundTag
project_tags is_so asked project None = []
project_tags is_so asked project (Some tags) = if is_asked asked project then tags_so is_so project tags else []

-- of all projects
abbrev pub tags_of : {Y : Type 0} → (List ℕ → Bool) → Option (List ℕ) → List (String Y × Project) → List FoundTag
tags_of is_so asked [] = []
tags_of is_so asked (e ∷ es) = project_tags is_so asked (string_bytes e.0) e.1.tags ++ tags_of is_so asked es

-- an order of what is found, on the program's values
abbrev pub by_value : (FoundTag → FoundTag → Ordering) → program.FoundTag → program.FoundTag → Ordering
by_value cmp a b = cmp (tag_found a) (tag_found b)

-- tags of a name stay as they were, those of a prefix are put in the order of names, projects and
-- lines
abbrev pub AreOrdered : Wanted → List program.FoundTag → List program.FoundTag → Type 0
AreOrdered (Name text) old new = new ≡ old
AreOrdered (Prefix text) old new = IsPermutation old new × IsSorted (by_value name_cmp) new

abbrev pub projects_of : {Y : Type 0} → List (String Y × Project) → List ProjectValue
projects_of [] = []
projects_of (e ∷ es) =
    if is_some e.1.dump || is_some e.1.tags
    then record { name = string_bytes e.0; dump = is_some e.1.dump; tags = is_some e.1.tags } ∷ projects_of es
    else projects_of es

-- ---- lines that rise

abbrev pub TagsRise : Option (List TagValue) → Type 0
TagsRise None = ⊤
TagsRise (Some tags) = lines_rise tags ≡ true

-- in all projects
abbrev pub AllRise : {Y : Type 0} → List (String Y × Project) → Type 0
AllRise [] = ⊤
AllRise (e ∷ es) = TagsRise e.1.tags × AllRise es
