-- What a line of the grammar says: tags(5), "Proposal".
use Rattle.std.specs.Prelude.{ℕ, List, Result, Ok, Err}
use Rattle.tags.specs.Escapes.{decoded}
use Rattle.tags.specs.Steps.Faults.{◌>>=◌, some_or}
use Rattle.tags.specs.Steps.Fields.{fields_of}
use Rattle.tags.specs.Grammar.{TagLine, address_text, fields_in}
use Rattle.tags.specs.Steps.Reading.{entry_of}
use Rattle.tags.specs.Values.{ContentValue, ordinary}
use Rattle.tags.specs.declared.code.Code.{Code}
use Rattle.tags.specs.declared.code.Code.TheVariants.{T05, T06}

-- the tag of a line of the grammar, or the least of T05 and T07
abbrev pub said_by : TagLine → Result ContentValue Code
said_by t = do
  name ← some_or T05 (decoded t.name)
  file ← some_or T05 (decoded t.file)
  fields ← fields_of (fields_in t.fields)
  Ok (ordinary t.name (entry_of name file (address_text t.address) fields))

-- what a line with this name and file says where it isn't of the grammar
abbrev pub said_without_address : List ℕ → List ℕ → Result ContentValue Code
said_without_address name file = do
  n ← some_or T05 (decoded name)
  f ← some_or T05 (decoded file)
  Err T06
