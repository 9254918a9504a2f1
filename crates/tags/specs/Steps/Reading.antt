-- What a line says, or the least code of the line alone: tags(5), "Proposal".
use Rattle.std.specs.Prelude.{ℕ, ◌&&◌, Bool, not, nat_eq, List, codes, bytes_eq, Result, Ok, Err, if◌then◌else◌}
use Rattle.std.specs.List.{list_any, starts_with}
use Rattle.std.specs.Str.{is_utf8}
use Rattle.tags.specs.Around.{around}
use Rattle.tags.specs.Bytes.{tab}
use Rattle.tags.specs.Conditions.{is_control}
use Rattle.tags.specs.Steps.Cutting.{front_of, tail_of, each_field}
use Rattle.tags.specs.Escapes.{decoded}
use Rattle.tags.specs.Steps.Faults.{◌>>=◌, some_or}
use Rattle.tags.specs.Steps.Fields.{fields_of}
use Rattle.tags.specs.Values.{EntryValue, FieldsValue, ContentValue, sorted, other, ordinary}
use Rattle.tags.specs.declared.code.Code.{Code}
use Rattle.tags.specs.declared.code.Code.TheVariants.{T02, T03, T04, T05, T06, T08}

abbrev pub is_pseudo_tag : List ℕ → Bool
is_pseudo_tag line = starts_with nat_eq line (codes "!_TAG_")

-- what a pseudo-tag of this name and value says
abbrev pub pseudo_by : List ℕ → List ℕ → Result ContentValue Code
pseudo_by name value =
    if bytes_eq name (codes "!_TAG_FILE_FORMAT") && not (bytes_eq value (codes "2")) then Err T08
    else if bytes_eq name (codes "!_TAG_FILE_SORTED") then Ok (sorted (bytes_eq value (codes "1")))
    else Ok other

-- the name comes before the first Tab of a pseudo-tag, and the value between the first and the
-- second
unfoldable pub pseudo_of : List ℕ → Result ContentValue Code
pseudo_of line = do
  name ← some_or T04 (around tab line)
  value ← some_or T04 (around tab name.1)
  pseudo_by name.0 value.0

abbrev pub entry_of : List ℕ → List ℕ → List ℕ → FieldsValue → EntryValue
entry_of name file address fields = record { name = name; file = file; address = address; kind = fields.kind; fields = fields.others }

-- an ordinary tag, with its name as written
unfoldable pub ordinary_of : List ℕ → Result ContentValue Code
ordinary_of line = do
  f ← some_or T04 (front_of line)
  name ← some_or T05 (decoded f.name)
  file ← some_or T05 (decoded f.file)
  t ← some_or T06 (tail_of f.rest)
  fields ← fields_of (each_field t.fields)
  Ok (ordinary f.name (entry_of name file t.address fields))

unfoldable pub reading : List ℕ → Result ContentValue Code
reading line =
    if not (is_utf8 line) then Err T02
    else if list_any is_control line then Err T03
    else if is_pseudo_tag line then pseudo_of line
    else ordinary_of line
