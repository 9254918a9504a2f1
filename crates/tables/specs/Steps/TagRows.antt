-- The rows of tags, as they are selected.
use Rattle.std.specs.Prelude.{◌≡◌, ◌⊎◌, ◌++◌, ℕ, suc, List, [], ◌∷◌, Option, Some, None, Contains, string_bytes}
use Rattle.std.specs.List.{AllByRecursion}
use Rattle.sqlite_value.specs.declared.value.Value.{Value}
use Rattle.sqlite_value.specs.declared.value.Value.TheVariants.{Null, Int, Real, Text, Blob}
use Rattle.sqlite_value.specs.Order.{Row}
use Rattle.sqlite_trees.specs.Tree.{Trees}
use Rattle.sqlite_rules.specs.Lists.{Has}
use Rattle.sqlite.specs.Values.{or_null}
use Rattle.tags.specs.Values.{TagValue}
use Rattle.tables.specs.Columns.{number, tag_columns}
use Rattle.tables.specs.Contents.{HasSlot}
use Rattle.machine.specs.FoundTags.{FoundTag, IsTag, IsAsked}
use Rattle.machine.specs.Found.{tag_found}
use Rattle.machine.specs.State.{State}
use Rattle.machine.specs.declared.found.FoundTag as declared
use Rattle.tables.specs.declared.found_tags.TagRow.{TagRow}
use Rattle.tables.specs.declared.slots.Part.TheVariants.{Tags}

-- what the row has after the id of its slot
abbrev pub columns_of : TagRow → Row
columns_of t =
    number t.line ∷ Text (string_bytes t.name) ∷ Text (string_bytes t.file) ∷ Text (string_bytes t.address) ∷ or_null (λ s. Text (string_bytes s)) t.kind
    ∷ Text (string_bytes t.fields) ∷ []

abbrev pub tag_row_columns : TagRow → Row
tag_row_columns t = Int t.slot ∷ columns_of t

-- the value comes next after all texts that begin with this one: after the empty one, all texts
-- do
abbrev pub IsBehind : List ℕ → Value → Type 0
IsBehind prefix (Text end) = (front : List ℕ) × (last : ℕ) × (prefix ≡ front ++ last ∷ []) × (end ≡ front ++ suc last ∷ [])
IsBehind prefix (Blob b) = prefix ≡ []
IsBehind prefix Null = ⊥
IsBehind prefix (Int n) = ⊥
IsBehind prefix (Real x) = ⊥

-- the row has this tag
pub record TellsTag (db : Trees) (m : State) (x : TagRow) (v : FoundTag) : Type 0 where
  pub tags : List TagValue
  pub slot : HasSlot db x.slot v.project Tags
  pub has : m.tags v.project ≡ Some tags
  pub listed : Contains tags v.tag
  pub is : columns_of x ≡ tag_columns v.tag

-- each row has some tag
abbrev pub AllTell : Trees → State → List TagRow → Type 0
AllTell db m = AllByRecursion (λ x. (v : FoundTag) × TellsTag db m x v)

-- one of the rows has this tag
abbrev pub IsTold : Trees → State → List TagRow → FoundTag → Type 0
IsTold db m rows v = (x : TagRow) × Has rows x × TellsTag db m x v

-- the rows have exactly the tags with such names
pub record TellNamed (db : Trees) (m : State) (IsNamed : List ℕ → Type 0) (rows : List TagRow) : Type 0 where
  pub each : AllByRecursion (λ x. (v : FoundTag) × TellsTag db m x v × IsNamed v.tag.name) rows
  pub all : (v : FoundTag) → IsTag m None v → IsNamed v.tag.name → IsTold db m rows v

-- the tag was found, or isn't of the project that is asked for
abbrev pub IsFoundIf : Option (List ℕ) → FoundTag → Option declared.FoundTag → Type 0
IsFoundIf asked v None = IsAsked asked v.project → ⊥
IsFoundIf asked v (Some found) = (tag_found found ≡ v) × IsAsked asked v.project

-- the list has the value more, where there is one
abbrev pub Grows : {X : Type 0} → Option X → List X → List X → Type 0
Grows None old new = new ≡ old
Grows (Some x) old new = new ≡ old ++ x ∷ []

-- each tag that was found is that of a row and asked for, and each of these was found or is that of
-- a row that is left
pub record FindsTags (db : Trees) (m : State) (asked : Option (List ℕ)) (rows left : List TagRow) (found : List FoundTag) : Type 0 where
  pub within : (x : TagRow) → Has left x → Has rows x
  pub each : AllByRecursion (λ v. IsTold db m rows v × IsAsked asked v.project) found
  pub all : (v : FoundTag) → IsTold db m rows v → IsAsked asked v.project → Has found v ⊎ IsTold db m left v
