-- The schemas of formats 1 and 2.
use Rattle.std.specs.Prelude.{◌≡◌, ◌≤◌, ℕ, suc, Bool, true, false, List, [], ◌∷◌, ◌++◌, codes, map, Some, None}
use Rattle.sqlite_rules.specs.Lists.{Has}
use Rattle.tables.specs.Kinds.{more_names}
use Rattle.tables.specs.TableTrees.{format_tree, slot_tree, keyed_tree, document_tree, range_row_tree, item_tree, hover_tree, mark_tree, bearer_tree, tag_tree, part_profile_tree, more_tree}
use Rattle.sqlite_value.specs.declared.value.Value.TheVariants.{Null}
use Rattle.sqlite_value.specs.declared.keys.Collation.TheVariants.{Binary}
use Rattle.sqlite_value.specs.declared.keys.Order.{Order}
use Rattle.sqlite_value.specs.Keys.{plain}
use Rattle.sqlite_schema.specs.declared.schema.Kind.TheVariants.{Integer, Text}
use Rattle.sqlite_schema.specs.declared.schema.Column.{Column}
use Rattle.sqlite_schema.specs.declared.schema.Reference.{Reference}
use Rattle.sqlite_schema.specs.declared.schema.Action.TheVariants.{Cascade, NoAction}
use Rattle.sqlite_schema.specs.declared.schema.Table.{Table}
use Rattle.sqlite_schema.specs.declared.schema.Index.{Index}
use Rattle.sqlite_schema.specs.declared.schema.Schema.{Schema}

abbrev pub integer_column : List ℕ → Bool → Column
integer_column name needed = record { name = name; kind = Integer; is_strict = true; not_null = needed; default = Null; collation = Binary }

abbrev pub text_column : List ℕ → Bool → Column
text_column name needed = record { name = name; kind = Text; is_strict = true; not_null = needed; default = Null; collation = Binary }

-- the column of a child that names its slot
abbrev pub to_slot : Reference
to_slot = record { columns = 1 ∷ []; parent = codes "slot"; parent_columns = []; on_delete = Cascade; on_update = NoAction; is_deferred = false }

abbrev pub keyed_by : List ℕ → ℕ → List Column → List ℕ → List Reference → Table
keyed_by name tree columns primary references = record {
  name = name;
  tree = tree;
  columns = columns;
  key = None;
  primary = primary;
  uniques = primary ∷ [];
  orders = plain ∷ [];
  checks = [];
  references = references;
  computed = [];
  stamps = record { places = []; terms = []; formats = [] };
  is_counted = false;
}

abbrev pub by_rowid : List ℕ → ℕ → List Column → List (List ℕ) → List Order → Table
by_rowid name tree columns uniques orders = record {
  name = name;
  tree = tree;
  columns = columns;
  key = Some 0;
  primary = 0 ∷ [];
  uniques = uniques;
  orders = orders;
  checks = [];
  references = [];
  computed = [];
  stamps = record { places = []; terms = []; formats = [] };
  is_counted = false;
}

abbrev pub key_of : List ℕ → ℕ → List ℕ → Index
key_of name tree columns = record { name = name; tree = suc tree; table = tree; columns = columns; order = plain; is_unique = true }

abbrev pub empty_schema : Schema
empty_schema = record { tables = []; indexes = []; views = [] }

abbrev pub format_at : ℕ → Table
format_at tree = by_rowid (codes "format") tree (integer_column (codes "version") false ∷ []) ([]) ([])

abbrev pub format : Table
format = format_at format_tree

abbrev pub slot_at : ℕ → Table
slot_at tree =
    by_rowid (codes "slot") tree (integer_column (codes "id") false ∷ text_column (codes "project") true ∷ integer_column (codes "part") true ∷ [])
    ((2 ∷ 3 ∷ []) ∷ []) (plain ∷ [])

abbrev pub slot : Table
slot = slot_at slot_tree

abbrev pub keyed_at : ℕ → Table
keyed_at tree =
    keyed_by (codes "keyed") tree (text_column (codes "project") true ∷ text_column (codes "cmdkey") true ∷ text_column (codes "reply") true ∷ []) (1 ∷ 2 ∷ [])
    ([])

abbrev pub keyed : Table
keyed = keyed_at keyed_tree

abbrev pub document_at : ℕ → Table
document_at tree = keyed_by (codes "document") tree (integer_column (codes "slot") true ∷ text_column (codes "uri") true ∷ []) (1 ∷ 2 ∷ []) (to_slot ∷ [])

abbrev pub document : Table
document = document_at document_tree

abbrev pub range_row_at : ℕ → Table
range_row_at tree =
    keyed_by (codes "range_row") tree (integer_column (codes "slot") true ∷ integer_column (codes "line") true ∷ text_column (codes "uri") true
    ∷ integer_column (codes "first") true ∷ integer_column (codes "last") true ∷ integer_column (codes "parent") false ∷ integer_column (codes "def") false
    ∷ integer_column (codes "refs") false ∷ integer_column (codes "hover") false ∷ []) (1 ∷ 2 ∷ []) (to_slot ∷ [])

abbrev pub range_row : Table
range_row = range_row_at range_row_tree

abbrev pub item_at : ℕ → Table
item_at tree =
    keyed_by (codes "item") tree (integer_column (codes "slot") true ∷ integer_column (codes "result") true ∷ integer_column (codes "role") true
    ∷ text_column (codes "uri") true ∷ integer_column (codes "first") true ∷ integer_column (codes "last") true ∷ []) (1 ∷ 2 ∷ 3 ∷ 4 ∷ 5 ∷ 6 ∷ [])
    (to_slot ∷ [])

abbrev pub item : Table
item = item_at item_tree

abbrev pub hover_at : ℕ → Table
hover_at tree =
    keyed_by (codes "hover") tree (integer_column (codes "slot") true ∷ integer_column (codes "result") true ∷ text_column (codes "contents") true ∷ [])
    (1 ∷ 2 ∷ []) (to_slot ∷ [])

abbrev pub hover : Table
hover = hover_at hover_tree

abbrev pub mark_at : ℕ → Table
mark_at tree =
    keyed_by (codes "mark") tree (integer_column (codes "slot") true ∷ integer_column (codes "line") true ∷ integer_column (codes "kind") true
    ∷ text_column (codes "keytext") true ∷ []) (1 ∷ 2 ∷ 3 ∷ 4 ∷ []) (to_slot ∷ [])

abbrev pub mark : Table
mark = mark_at mark_tree

abbrev pub bearer_at : ℕ → Table
bearer_at tree =
    keyed_by (codes "bearer") tree (integer_column (codes "slot") true ∷ integer_column (codes "line") true ∷ text_column (codes "keytext") true
    ∷ integer_column (codes "kind") true ∷ integer_column (codes "def") false ∷ integer_column (codes "refs") false ∷ integer_column (codes "hover") false ∷ [])
    (1 ∷ 2 ∷ 3 ∷ 4 ∷ []) (to_slot ∷ [])

abbrev pub bearer : Table
bearer = bearer_at bearer_tree

abbrev pub tag_at : ℕ → Table
tag_at tree =
    keyed_by (codes "tag") tree (integer_column (codes "slot") true ∷ integer_column (codes "line") true ∷ text_column (codes "name") true
    ∷ text_column (codes "file") true ∷ text_column (codes "address") true ∷ text_column (codes "kind") false ∷ text_column (codes "fields") true ∷ [])
    (1 ∷ 2 ∷ []) (to_slot ∷ [])

abbrev pub tag : Table
tag = tag_at tag_tree

abbrev pub part_profile_at : ℕ → Table
part_profile_at tree =
    record (keyed_by (codes "part_profile") tree (integer_column (codes "slot") true ∷ integer_column (codes "profile") true ∷ []) (1 ∷ [])
    (to_slot ∷ [])) { primary = [] }

abbrev pub part_profile : Table
part_profile = part_profile_at part_profile_tree

abbrev pub more_at : ℕ → Table
more_at tree =
    keyed_by (codes "more") tree
    (integer_column (codes "slot") true ∷ integer_column (codes "line") true ∷ map (λ name. integer_column name false) more_names) (1 ∷ 2 ∷ [])
    (to_slot ∷ [])

abbrev pub more : Table
more = more_at more_tree

abbrev pub range_by_start_on : ℕ → ℕ → Index
range_by_start_on tree on =
    record { name = codes "range_by_start"; tree = tree; table = on; columns = 1 ∷ 3 ∷ 4 ∷ 5 ∷ []; order = record { digits = 512 }; is_unique = false }

abbrev pub bearer_by_key_on : ℕ → ℕ → Index
bearer_by_key_on tree on =
    record { name = codes "bearer_by_key"; tree = tree; table = on; columns = 3 ∷ 4 ∷ []; order = record { digits = 0 }; is_unique = false }

abbrev pub tag_by_name_on : ℕ → ℕ → Index
tag_by_name_on tree on =
    record { name = codes "tag_by_name"; tree = tree; table = on; columns = 3 ∷ 1 ∷ 2 ∷ []; order = record { digits = 0 }; is_unique = false }

-- format 1: ten tables
abbrev pub schema_one : Schema
schema_one = record {
  tables = format ∷ slot ∷ keyed ∷ document ∷ range_row ∷ item ∷ hover ∷ mark ∷ bearer ∷ tag ∷ [];
  indexes = key_of (codes "sqlite_autoindex_slot_1") slot_tree (2 ∷ 3 ∷ []) ∷ key_of (codes "sqlite_autoindex_keyed_1") keyed_tree (1 ∷ 2 ∷ [])
      ∷ key_of (codes "sqlite_autoindex_document_1") document_tree (1 ∷ 2 ∷ []) ∷ key_of (codes "sqlite_autoindex_range_row_1") range_row_tree (1 ∷ 2 ∷ [])
      ∷ key_of (codes "sqlite_autoindex_item_1") item_tree (1 ∷ 2 ∷ 3 ∷ 4 ∷ 5 ∷ 6 ∷ []) ∷ key_of (codes "sqlite_autoindex_hover_1") hover_tree (1 ∷ 2 ∷ [])
      ∷ key_of (codes "sqlite_autoindex_mark_1") mark_tree (1 ∷ 2 ∷ 3 ∷ 4 ∷ []) ∷ key_of (codes "sqlite_autoindex_bearer_1") bearer_tree (1 ∷ 2 ∷ 3 ∷ 4 ∷ [])
      ∷ key_of (codes "sqlite_autoindex_tag_1") tag_tree (1 ∷ 2 ∷ []) ∷ [];
  views = [];
}

-- the same with more indexes, after those of the keys
abbrev pub with_indexes : List Index → Schema
with_indexes more = record schema_one { indexes = schema_one.indexes ++ more }

-- the names of the indexes that format 2 has beside those of the keys
abbrev pub added_names : List (List ℕ)
added_names = codes "range_by_start" ∷ codes "bearer_by_key" ∷ codes "tag_by_name" ∷ []

-- indexes of these names, each once at most, in trees after those of format 1: of whatever
-- columns, and in any order
pub record AreAdded (more : List Index) : Type 0 where
  pub named : (i : Index) → Has more i → Has added_names i.name
  pub once : (i j : Index) → Has more i → Has more j → i.name ≡ j.name → i ≡ j
  pub behind : (i : Index) → Has more i → 19 ≤ i.tree

-- the schema of a database of format 1, where none, some or all of these indexes are there already
pub record IsSchemaOne (schema : Schema) : Type 0 where
  pub more : List Index
  pub is : schema ≡ with_indexes more
  pub added : AreAdded more

-- format 2: two tables and three indexes more
abbrev pub schema_two : Schema
schema_two = record {
  tables = format ∷ slot ∷ keyed ∷ document ∷ range_row ∷ item ∷ hover ∷ mark ∷ bearer ∷ tag ∷ part_profile ∷ more ∷ [];
  indexes = key_of (codes "sqlite_autoindex_slot_1") slot_tree (2 ∷ 3 ∷ []) ∷ key_of (codes "sqlite_autoindex_keyed_1") keyed_tree (1 ∷ 2 ∷ [])
      ∷ key_of (codes "sqlite_autoindex_document_1") document_tree (1 ∷ 2 ∷ []) ∷ key_of (codes "sqlite_autoindex_range_row_1") range_row_tree (1 ∷ 2 ∷ [])
      ∷ key_of (codes "sqlite_autoindex_item_1") item_tree (1 ∷ 2 ∷ 3 ∷ 4 ∷ 5 ∷ 6 ∷ []) ∷ key_of (codes "sqlite_autoindex_hover_1") hover_tree (1 ∷ 2 ∷ [])
      ∷ key_of (codes "sqlite_autoindex_mark_1") mark_tree (1 ∷ 2 ∷ 3 ∷ 4 ∷ []) ∷ key_of (codes "sqlite_autoindex_bearer_1") bearer_tree (1 ∷ 2 ∷ 3 ∷ 4 ∷ [])
      ∷ key_of (codes "sqlite_autoindex_tag_1") tag_tree (1 ∷ 2 ∷ [])
      ∷ range_by_start_on 19 range_row_tree ∷ bearer_by_key_on 20 bearer_tree ∷ tag_by_name_on 21 tag_tree
      ∷ key_of (codes "sqlite_autoindex_part_profile_1") part_profile_tree (1 ∷ []) ∷ key_of (codes "sqlite_autoindex_more_1") more_tree (1 ∷ 2 ∷ []) ∷ [];
  views = [];
}
