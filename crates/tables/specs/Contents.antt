-- What the tables hold: the rows of each part that is there, and the kept replies.
use Rattle.std.specs.Prelude.{◌≡◌, ◌↔◌, ◌&&◌, ℕ, ℤ, pos, Bool, List, [], ◌∷◌, Option, Some, if◌then◌else◌}
use Rattle.std.specs.Ordering.{is_eq, nat_cmp}
use Rattle.std.specs.Cmp.Lexicographic.{slice_cmp}
use Rattle.sqlite_value.specs.Order.{Row}
use Rattle.sqlite_value.specs.declared.value.Value.TheVariants.{Int, Text, Null}
use Rattle.sqlite_trees.specs.Tree.{Trees}
use Rattle.sqlite_rules.specs.Lists.{Has}
use Rattle.sqlite_schema.specs.declared.schema.Schema.{Schema}
use Rattle.tables.specs.Schema.{schema_one, schema_two}
use Rattle.tables.specs.Databases.{Holds, AllOrdered}
use Rattle.tables.specs.Parts.{part_number, same_part}
use Rattle.tables.specs.TableTrees.{format_tree, slot_tree, keyed_tree, document_tree, range_row_tree, item_tree, hover_tree, mark_tree, bearer_tree, tag_tree, part_profile_tree, more_tree}
use Rattle.tables.specs.declared.slots.Part.{Part}

-- for each project and kind of part nothing, or for each table the part's rows without the id of
-- its slot
abbrev pub Contents : Type 0
Contents = List ℕ → Part → Option (ℕ → List Row)

-- for each project and key nothing, or the text of the kept reply
abbrev pub Replies : Type 0
Replies = List ℕ → List ℕ → Option (List ℕ)

-- a key's own column is kept as NULL
abbrev pub slot_row : ℤ → List ℕ → Part → Row
slot_row id project part = Int id ∷ Null ∷ Text project ∷ Int (part_number part) ∷ []

-- the part of the project has the slot of this id
abbrev pub HasSlot : Trees → ℤ → List ℕ → Part → Type 0
HasSlot db id project part = Has (db slot_tree) (slot_row id project part)

-- the row is the slot of a part that is there
pub record IsSlot (parts : Contents) (row : Row) : Type 0 where
  pub id : ℤ
  pub project : List ℕ
  pub part : Part
  pub rows : ℕ → List Row
  pub has : parts project part ≡ Some rows
  pub is : row ≡ slot_row id project part

-- the row is one that a part has in this table, with the id of its slot before it
pub record IsOwned (db : Trees) (parts : Contents) (tree : ℕ) (row : Row) : Type 0 where
  pub id : ℤ
  pub project : List ℕ
  pub part : Part
  pub rows : ℕ → List Row
  pub values : Row
  pub slot : Has (db slot_tree) (slot_row id project part)
  pub has : parts project part ≡ Some rows
  pub listed : Has (rows tree) values
  pub is : row ≡ Int id ∷ values

pub record IsReply (replies : Replies) (row : Row) : Type 0 where
  pub project : List ℕ
  pub key : List ℕ
  pub reply : List ℕ
  pub has : replies project key ≡ Some reply
  pub is : row ≡ Text project ∷ Text key ∷ Text reply ∷ []

-- the tables whose rows belong to a slot, in format 2
abbrev pub owned : List ℕ
owned = document_tree ∷ range_row_tree ∷ item_tree ∷ hover_tree ∷ mark_tree ∷ bearer_tree ∷ tag_tree ∷ part_profile_tree ∷ more_tree ∷ []

-- those of format 1
abbrev pub owned_one : List ℕ
owned_one = document_tree ∷ range_row_tree ∷ item_tree ∷ hover_tree ∷ mark_tree ∷ bearer_tree ∷ tag_tree ∷ []

-- The tables are of the format of this schema and number: they have one slot for each part that is
-- there, in each other table the rows of the parts and no more, and the kept replies.
pub record KeepsIn (schema : Schema) (number : ℕ) (owners : List ℕ) (db : Trees) (parts : Contents) (replies : Replies) : Type 0 where
  pub ordered : AllOrdered schema db
  pub version : (row : Row) → Has (db format_tree) row ↔ (row ≡ Int (pos number) ∷ Null ∷ [])
  pub slots : (row : Row) → Has (db slot_tree) row → IsSlot parts row
  pub there : (project : List ℕ) (part : Part) (rows : ℕ → List Row) → parts project part ≡ Some rows → (id : ℤ) × Has (db slot_tree) (slot_row id project part)
  pub single : (a b : ℤ) (project : List ℕ) (part : Part) → Has (db slot_tree) (slot_row a project part) → Has (db slot_tree) (slot_row b project part) → a ≡ b
  pub keyed : (row : Row) → Holds db keyed_tree row ↔ IsReply replies row
  pub children : (tree : ℕ) → Has owners tree → (row : Row) → Holds db tree row ↔ IsOwned db parts tree row

abbrev pub Keeps : Trees → Contents → Replies → Type 0
Keeps = KeepsIn schema_two 2 owned

abbrev pub KeepsOne : Trees → Contents → Replies → Type 0
KeepsOne = KeepsIn schema_one 1 owned_one

-- ---- changes

abbrev pub same_text : List ℕ → List ℕ → Bool
same_text a b = is_eq (slice_cmp nat_cmp a b)

abbrev pub is_at : List ℕ → Part → List ℕ → Part → Bool
is_at project part p k = same_text p project && same_part k part

-- one part is replaced, or gone
abbrev pub changed : Contents → List ℕ → Part → Option (ℕ → List Row) → Contents
changed parts project part rows p k = if is_at project part p k then rows else parts p k

-- one reply is kept
abbrev pub kept : Replies → List ℕ → List ℕ → List ℕ → Replies
kept replies project key reply p k = if same_text p project && (same_text k key && Bool.true) then Some reply else replies p k
