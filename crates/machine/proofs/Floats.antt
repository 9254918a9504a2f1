-- No body of a reply has a number with a fraction.
use Rattle.std.proofs.Common.{◌≡◌, List, [], ◌∷◌, map, false, refl}
use Rattle.std.specs.Prelude.{ℕ, Option, Some, None}
use Rattle.serde_json.specs.View.{items_of}
use Rattle.serde_json.specs.Written.{has_float, items_have_float}
use Rattle.tags.specs.Values.{FieldValue}
use Rattle.machine.specs.Reply.{kind_data, tag_data, project_data, projects_data}
use Rattle.machine.specs.Reply.{field_data}
use Rattle.machine.specs.FoundTags.{FoundTag}
use Rattle.machine.specs.Projects.{ProjectValue}

each_project : (projects : List ProjectValue) → items_have_float (items_of (map project_data projects)) ≡ false
each_project [] = refl
each_project (project ∷ projects) = each_project projects

pub projects_without : (projects : List ProjectValue) → has_float (projects_data projects) ≡ false
projects_without projects = rw (each_project projects) refl

each_field : (fields : List FieldValue) → items_have_float (items_of (map field_data fields)) ≡ false
each_field [] = refl
each_field (field ∷ fields) = each_field fields

kind_without : (kind : Option (List ℕ)) → has_float (kind_data kind) ≡ false
kind_without None = refl
kind_without (Some kind) = refl

pub tag_without : (found : FoundTag) → has_float (tag_data found) ≡ false
tag_without found = rw (each_field found.tag.fields, kind_without found.tag.kind) refl
