-- The texts of SQL that the batches have, and that of the version. Those of other statements are
-- constants of the code.
use Rattle.std.specs.Prelude.{codes, ℕ, List, [], ◌∷◌, ◌++◌, map}
use Rattle.tables.specs.Kinds.{more_declared}
use Rattle.tables.specs.Schema.{added_names}

abbrev pub format_text : List ℕ
format_text = codes "CREATE TABLE format (version INTEGER PRIMARY KEY) STRICT"

abbrev pub slot_text : List ℕ
slot_text = codes "CREATE TABLE slot (id INTEGER PRIMARY KEY, project TEXT NOT NULL, part INTEGER NOT NULL, UNIQUE (project, part)) STRICT"

abbrev pub keyed_text : List ℕ
keyed_text = codes "CREATE TABLE keyed (project TEXT NOT NULL, cmdkey TEXT NOT NULL, reply TEXT NOT NULL, PRIMARY KEY (project, cmdkey)) STRICT"

abbrev pub document_text : List ℕ
document_text = codes "CREATE TABLE document (slot INTEGER NOT NULL REFERENCES slot ON DELETE CASCADE, uri TEXT NOT NULL, PRIMARY KEY (slot, uri)) STRICT"

abbrev pub range_row_text : List ℕ
range_row_text = codes "CREATE TABLE range_row (slot INTEGER NOT NULL REFERENCES slot ON DELETE CASCADE, line INTEGER NOT NULL, uri TEXT NOT NULL, first INTEGER NOT NULL, last INTEGER NOT NULL, parent INTEGER, def INTEGER, refs INTEGER, hover INTEGER, PRIMARY KEY (slot, line)) STRICT"

abbrev pub item_text : List ℕ
item_text = codes "CREATE TABLE item (slot INTEGER NOT NULL REFERENCES slot ON DELETE CASCADE, result INTEGER NOT NULL, role INTEGER NOT NULL, uri TEXT NOT NULL, first INTEGER NOT NULL, last INTEGER NOT NULL, PRIMARY KEY (slot, result, role, uri, first, last)) STRICT"

abbrev pub hover_text : List ℕ
hover_text = codes "CREATE TABLE hover (slot INTEGER NOT NULL REFERENCES slot ON DELETE CASCADE, result INTEGER NOT NULL, contents TEXT NOT NULL, PRIMARY KEY (slot, result)) STRICT"

abbrev pub mark_text : List ℕ
mark_text = codes "CREATE TABLE mark (slot INTEGER NOT NULL REFERENCES slot ON DELETE CASCADE, line INTEGER NOT NULL, kind INTEGER NOT NULL, keytext TEXT NOT NULL, PRIMARY KEY (slot, line, kind, keytext)) STRICT"

abbrev pub bearer_text : List ℕ
bearer_text = codes "CREATE TABLE bearer (slot INTEGER NOT NULL REFERENCES slot ON DELETE CASCADE, line INTEGER NOT NULL, keytext TEXT NOT NULL, kind INTEGER NOT NULL, def INTEGER, refs INTEGER, hover INTEGER, PRIMARY KEY (slot, line, keytext, kind)) STRICT"

abbrev pub tag_text : List ℕ
tag_text = codes "CREATE TABLE tag (slot INTEGER NOT NULL REFERENCES slot ON DELETE CASCADE, line INTEGER NOT NULL, name TEXT NOT NULL, file TEXT NOT NULL, address TEXT NOT NULL, kind TEXT, fields TEXT NOT NULL, PRIMARY KEY (slot, line)) STRICT"

abbrev pub range_by_start_text : List ℕ
range_by_start_text = codes "CREATE INDEX range_by_start ON range_row (slot, uri, first, last DESC)"

abbrev pub bearer_by_key_text : List ℕ
bearer_by_key_text = codes "CREATE INDEX bearer_by_key ON bearer (keytext, kind)"

abbrev pub tag_by_name_text : List ℕ
tag_by_name_text = codes "CREATE INDEX tag_by_name ON tag (name, slot, line)"

abbrev pub part_profile_text : List ℕ
part_profile_text = codes "CREATE TABLE part_profile (slot INTEGER NOT NULL REFERENCES slot ON DELETE CASCADE, profile INTEGER NOT NULL, UNIQUE (slot)) STRICT"

abbrev pub more_text : List ℕ
more_text = codes "CREATE TABLE more (slot INTEGER NOT NULL REFERENCES slot ON DELETE CASCADE, line INTEGER NOT NULL, " ++ (more_declared ++ codes ", PRIMARY KEY (slot, line)) STRICT")

abbrev pub select_version : List ℕ
select_version = codes "SELECT version FROM format"

abbrev pub fill_profiles : List ℕ
fill_profiles = codes "INSERT INTO part_profile (slot, profile) SELECT id, 1 FROM slot WHERE part = 1"

abbrev pub set_version : List ℕ
set_version = codes "UPDATE format SET version = 2"

abbrev pub semicolon : List ℕ
semicolon = codes ";"

abbrev pub version_text : List ℕ
version_text = codes "INSERT INTO format (version) VALUES (2)"

-- ---- batches

-- statements with a semicolon behind each, before the last one
abbrev pub batch : List (List ℕ) → List ℕ → List ℕ
batch [] last = last
batch (text ∷ texts) last = (text ++ semicolon) ++ batch texts last

-- those that make the tables of format 1
abbrev pub first_texts : List (List ℕ)
first_texts = format_text ∷ slot_text ∷ keyed_text ∷ document_text ∷ range_row_text ∷ item_text ∷ hover_text ∷ mark_text ∷ bearer_text ∷ tag_text ∷ []

-- those that make what format 2 has more
abbrev pub added_texts : List (List ℕ)
added_texts = range_by_start_text ∷ bearer_by_key_text ∷ tag_by_name_text ∷ part_profile_text ∷ more_text ∷ []

-- the one that drops the index of this name, where there is one
abbrev pub drop_text : List ℕ → List ℕ
drop_text name = codes "DROP INDEX IF EXISTS " ++ name

-- what makes format 2 of nothing, and of format 1
abbrev pub making : List ℕ
making = batch first_texts (batch added_texts version_text)

abbrev pub filling : List ℕ
filling = batch (fill_profiles ∷ []) set_version

abbrev pub upgrading : List ℕ
upgrading = batch (map drop_text added_names) (batch added_texts filling)
