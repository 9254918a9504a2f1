-- A tag without where it lies in memory.
use Rattle.std.specs.Prelude.{ℕ, Bool, List, Option}

-- a field of its own name
pub record FieldValue : Type 0 where
  pub name : List ℕ
  pub value : List ℕ

-- what the fields say: the kind, and the others in order
pub record FieldsValue : Type 0 where
  pub kind : Option (List ℕ)
  pub others : List FieldValue

-- what a line says of a tag
pub record EntryValue : Type 0 where
  pub name : List ℕ
  pub file : List ℕ
  pub address : List ℕ
  pub kind : Option (List ℕ)
  pub fields : List FieldValue

-- the same with the line's number, counted from 1
pub record TagValue : Type 0 where
  pub line : ℕ
  pub name : List ℕ
  pub file : List ℕ
  pub address : List ℕ
  pub kind : Option (List ℕ)
  pub fields : List FieldValue

abbrev pub numbered : ℕ → EntryValue → TagValue
numbered line e = record { line = line; name = e.name; file = e.file; address = e.address; kind = e.kind; fields = e.fields }

-- what a line says: that the file is sorted or not, another pseudo-tag, or an ordinary tag with its
-- name as written
pub data ContentValue : Type 0 where
  sorted : Bool → ContentValue
  other : ContentValue
  ordinary : List ℕ → EntryValue → ContentValue
