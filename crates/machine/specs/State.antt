-- What the index keeps, and how a command changes it.
use Rattle.std.specs.Prelude.{◌≡◌, ◌&&◌, ◌||◌, ℕ, Bool, bytes_eq, List, length, codes, Option, Some, None, is_some, if◌then◌else◌}
use Rattle.serde_json.specs.Data.{Data, boolean, number, string, object, unsigned, member, no_members}
use Rattle.serde_json.specs.Written.{compact_text}
use Rattle.dump.specs.Progress.{DumpValue}
use Rattle.tags.specs.Values.{TagValue}

-- what the reply to an accepted command says: that a dump of so many elements was put, or so many
-- tags; or whether anything was removed
pub data Accepted : Type 0 where
  dump_put : ℕ → Accepted
  tags_put : ℕ → Accepted
  parts_removed : Bool → Accepted

-- of each project its dump and its tags, where it has them; and for pairs of a project and a key
-- what the reply says that is kept
pub record State : Type 0 where
  pub dump : List ℕ → Option DumpValue
  pub tags : List ℕ → Option (List TagValue)
  pub kept : List ℕ → List ℕ → Option Accepted

-- the state of an empty database
abbrev pub nothing : State
nothing = record { dump = λ project. None; tags = λ project. None; kept = λ project key. None }

-- ---- the text of a reply: compact JSON (RFC 8259) with members in the order of their bytes

abbrev pub count_data : List ℕ → ℕ → Data
count_data part n = object (member (codes "accepted") (string part) (member (codes "count") (number (unsigned n)) no_members))

abbrev pub removed_data : Bool → Data
removed_data b = object (member (codes "removed") (boolean b) no_members)

abbrev pub accepted_data : Accepted → Data
accepted_data (dump_put n) = count_data (codes "lsif") n
accepted_data (tags_put n) = count_data (codes "tags") n
accepted_data (parts_removed b) = removed_data b

abbrev pub accepted_text : Accepted → List ℕ
accepted_text a = compact_text (accepted_data a)

-- ---- a change

-- what an accepted command does to a project: it has this dump, or these tags, from then on; or
-- neither
pub data Change : Type 0 where
  set_dump : DumpValue → Change
  set_tags : List TagValue → Change
  clear : Change

-- the dump of a project after a change
abbrev pub dump_after : Change → Option DumpValue → Option DumpValue
dump_after (set_dump dump) old = Some dump
dump_after (set_tags tags) old = old
dump_after clear old = None

-- its tags
abbrev pub tags_after : Change → Option (List TagValue) → Option (List TagValue)
tags_after (set_dump dump) old = old
tags_after (set_tags tags) old = Some tags
tags_after clear old = None

-- what the reply says, by the project's dump and tags before the change
abbrev pub accepted : Change → Option DumpValue → Option (List TagValue) → Accepted
accepted (set_dump dump) old_dump old_tags = dump_put (length dump.elements)
accepted (set_tags tags) old_dump old_tags = tags_put (length tags)
accepted clear old_dump old_tags = parts_removed (is_some old_dump || is_some old_tags)

-- the state after a change that is kept under a key
abbrev pub changed : State → List ℕ → List ℕ → Change → State
changed m project key change = record {
  dump = λ p. if bytes_eq project p then dump_after change (m.dump p) else m.dump p;
  tags = λ p. if bytes_eq project p then tags_after change (m.tags p) else m.tags p;
  kept = λ p k. if bytes_eq project p && bytes_eq key k then Some (accepted change (m.dump project) (m.tags project)) else m.kept p k;
}

-- the text of the reply to the change
abbrev pub text_after : State → List ℕ → Change → List ℕ
text_after m project change = accepted_text (accepted change (m.dump project) (m.tags project))

-- the key isn't kept yet, and this is the text of the reply to the change
pub record IsNew (m : State) (project key reply : List ℕ) (change : Change) : Type 0 where
  pub unkept : m.kept project key ≡ None
  pub text : reply ≡ text_after m project change
