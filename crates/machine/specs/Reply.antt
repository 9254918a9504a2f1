-- Replies: the status and the body of each. Bodies are compact JSON (RFC 8259) with members in the
-- order of their bytes.
use Rattle.std.specs.Prelude.{ℕ, Bool, true, false, ◌++◌, List, codes, map, Option, Some, None}
use Rattle.serde_json.specs.Data.{Data, null, boolean, number, string, array, object, unsigned, member, no_members, item, no_items}
use Rattle.serde_json.specs.View.{items_of}
use Rattle.serde_json.specs.Written.{compact_text}
use Rattle.positions.specs.Position.{PositionValue}
use Rattle.lsif.specs.Code as lines
use Rattle.lsif.specs.declared.profile.Profile.{Profile}
use Rattle.lsif.specs.Profiles.{profile_number}
use Rattle.dump.specs.declared.fault.LineFault as dumps
use Rattle.dump.specs.Places.{PlaceValue}
use Rattle.tags.specs.Codes as tag_lines
use Rattle.tags.specs.Values.{FieldValue}
use Rattle.tags.specs.declared.code.LineFault as tags
use Rattle.machine.specs.FoundTags.{FoundTag}
use Rattle.machine.specs.Projects.{ProjectValue}
use Rattle.machine.specs.State.{count_data, removed_data}
use Rattle.machine.specs.declared.code.Code.{Code}
use Rattle.machine.specs.declared.code.Code.TheVariants.{D01, D02, S01, S02}

-- ---- codes that are of no line

-- a code's status (RFC 9110, section 15), its name and its text
pub record CodeRow : Type 0 where
  pub status : ℕ
  pub name : List ℕ
  pub text : List ℕ

abbrev pub row_of : Code → CodeRow
row_of D01 = record { status = 404; name = codes "D01"; text = codes "project has no dump" }
row_of D02 = record { status = 404; name = codes "D02"; text = codes "no such document" }
row_of S01 = record { status = 503; name = codes "S01"; text = codes "store refused" }
row_of S02 = record { status = 503; name = codes "S02"; text = codes "out of memory" }

-- a code's name and its text as JSON
abbrev pub fault_body : List ℕ → List ℕ → List ℕ
fault_body name text = codes "{\"fault\":\"" ++ (name ++ (codes "\",\"text\":\"" ++ (text ++ codes "\"}")))

abbrev pub fault_text : Code → List ℕ
fault_text c = fault_body (row_of c).name (row_of c).text

-- ---- replies

-- a reply that names a code, or one that is made: its status and its body
pub data ReplyValue : Type 0 where
  refused : Code → ReplyValue
  made : ℕ → List ℕ → ReplyValue

abbrev pub reply_status : ReplyValue → ℕ
reply_status (refused c) = (row_of c).status
reply_status (made status body) = status

abbrev pub reply_body : ReplyValue → List ℕ
reply_body (refused c) = fault_text c
reply_body (made status body) = body

abbrev pub out_of_memory : ReplyValue
out_of_memory = refused S02

abbrev pub store_refused : ReplyValue
store_refused = refused S01

-- a reply that serves nothing: the store refused, or memory was refused
abbrev pub is_refusal : ReplyValue → Bool
is_refusal (refused S01) = true
is_refusal (refused S02) = true
is_refusal reply = false

-- ---- replies with a JSON value

abbrev pub written : ℕ → Data → ReplyValue
written status body = made status (compact_text body)

-- a dump of so many elements was accepted
abbrev pub dump_accepted : ℕ → ReplyValue
dump_accepted n = written 200 (count_data (codes "lsif") n)

-- so many tags were accepted
abbrev pub tags_accepted : ℕ → ReplyValue
tags_accepted n = written 200 (count_data (codes "tags") n)

-- whether the project had a part
abbrev pub removed : Bool → ReplyValue
removed b = written 200 (removed_data b)

-- the fault of a line, with the line's number, counted from 1
abbrev pub fault_data : List ℕ → ℕ → List ℕ → Data
fault_data name line text =
    object (member (codes "fault") (string name) (member (codes "line") (number (unsigned line)) (member (codes "text") (string text) no_members)))

-- a dump's first fault
abbrev pub dump_refused : dumps.LineFault → ReplyValue
dump_refused f = written 422 (fault_data (lines.name_of f.code) f.line (lines.text_of f.code))

-- the first fault of a tags file
abbrev pub tags_refused : tags.LineFault → ReplyValue
tags_refused f = written 422 (fault_data (tag_lines.name_of f.code) f.line (tag_lines.text_of f.code))

-- ---- places

-- a place in a project
pub record FoundPlace : Type 0 where
  pub project : List ℕ
  pub place : PlaceValue

abbrev pub position_data : PositionValue → Data
position_data p = object (member (codes "character") (number (unsigned p.character)) (member (codes "line") (number (unsigned p.line)) no_members))

abbrev pub place_data : FoundPlace → Data
place_data found =
    object (member (codes "end") (position_data found.place.span.«end») (member (codes "project") (string found.project)
    (member (codes "start") (position_data found.place.span.start) (member (codes "uri") (string found.place.uri) no_members))))

abbrev pub list_data : {X : Type 0} → (X → Data) → List X → Data
list_data value xs = array (items_of (map value xs))

abbrev pub places_data : List FoundPlace → Data
places_data places = object (member (codes "places") (list_data place_data places) no_members)

abbrev pub places_found : List FoundPlace → ReplyValue
places_found places = written 200 (places_data places)

-- ---- hover

-- the contents are compact JSON as they are
abbrev pub contents_text : Option (List ℕ) → List ℕ
contents_text None = codes "null"
contents_text (Some contents) = contents

abbrev pub hover_found : Option (List ℕ) → ReplyValue
hover_found contents = made 200 (codes "{\"contents\":" ++ (contents_text contents ++ codes "}"))

-- ---- tags

abbrev pub field_data : FieldValue → Data
field_data f = array (item (string f.name) (item (string f.value) no_items))

abbrev pub kind_data : Option (List ℕ) → Data
kind_data None = null
kind_data (Some kind) = string kind

abbrev pub tag_data : FoundTag → Data
tag_data found =
    object (member (codes "address") (string found.tag.address) (member (codes "fields") (list_data field_data found.tag.fields)
    (member (codes "file") (string found.tag.file) (member (codes "kind") (kind_data found.tag.kind)
    (member (codes "line") (number (unsigned found.tag.line)) (member (codes "name") (string found.tag.name)
    (member (codes "project") (string found.project) no_members)))))))

abbrev pub tags_data : List FoundTag → Data
tags_data found = object (member (codes "tags") (list_data tag_data found) no_members)

abbrev pub tags_found : List FoundTag → ReplyValue
tags_found found = written 200 (tags_data found)

-- ---- projects and profiles

abbrev pub project_data : ProjectValue → Data
project_data p =
    object (member (codes "dump") (boolean p.dump) (member (codes "name") (string p.name) (member (codes "tags") (boolean p.tags) no_members)))

abbrev pub projects_data : List ProjectValue → Data
projects_data found = object (member (codes "projects") (list_data project_data found) no_members)

abbrev pub projects_found : List ProjectValue → ReplyValue
projects_found found = written 200 (projects_data found)

abbrev pub profile_data : Profile → Data
profile_data profile = object (member (codes "profile") (number (unsigned (profile_number profile))) no_members)

abbrev pub profile_found : Profile → ReplyValue
profile_found profile = written 200 (profile_data profile)
