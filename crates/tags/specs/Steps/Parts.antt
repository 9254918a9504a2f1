-- The parts of a line, by its cut.
use Rattle.std.specs.Prelude.{ℕ, ◌-◌, List, [], length, Option, None, Some, Result, Ok}
use Rattle.tags.specs.Steps.Cutting.{Front, Tail, front_of, tail_of, each_field}
use Rattle.tags.specs.Steps.Faults.{◌>>=◌, some_or}
use Rattle.tags.specs.Parts.{PartValue, fields_at, parts_with}
use Rattle.tags.specs.declared.code.Code.{Code}
use Rattle.tags.specs.declared.code.Code.TheVariants.{T04, T06}

-- the fields that are at the end of a line of so many bytes
abbrev pub fields_from : ℕ → Option (List ℕ) → List PartValue
fields_from len None = []
fields_from len (Some bs) = fields_at (len - length bs) (each_field (Some bs))

abbrev pub parts_of : Front → Tail → List PartValue
parts_of f t = parts_with f.name f.file t.address (each_field t.fields)

-- the name, the file, the address and each field, or the least of T04 and T06
unfoldable pub split_of : List ℕ → Result (List PartValue) Code
split_of line = do
  f ← some_or T04 (front_of line)
  t ← some_or T06 (tail_of f.rest)
  Ok (parts_of f t)
