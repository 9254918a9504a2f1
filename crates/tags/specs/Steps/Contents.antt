-- What judging a line returns, and what the line says.
use Rattle.std.specs.Prelude.{◌≡◌, ◌<◌, ◌+◌, ℕ, None, Some, option_map, Result, Ok, Err, IsUtf8}
use Rattle.std.specs.Option.{ForSome}
use Rattle.tags.specs.Steps.Cutting.{each_field}
use Rattle.tags.specs.Escapes.{decoded}
use Rattle.tags.specs.Fault.{Reading, most_lines}
use Rattle.tags.specs.Steps.Fields.{fields_of}
use Rattle.tags.specs.States.{State, add, counted, next, order_in, running, stopped}
use Rattle.tags.specs.Values.{ContentValue, EntryValue, ordinary}
use Rattle.tags.specs.Steps.Views.{pseudo_value}
use Rattle.tags.specs.declared.code.Code.{Code}
use Rattle.tags.specs.declared.code.LineFault.{LineFault}
use Rattle.tags.specs.declared.content.Content.{Content}
use Rattle.tags.specs.declared.content.Content.TheVariants as contents
use Rattle.tags.specs.declared.cut.Cut.{Cut}

-- the cut of a line that says this of a tag
pub record IsCut (c : Cut) (e : EntryValue) : Type 0 where
  pub name : decoded c.name.now ≡ Some e.name
  pub file : decoded c.file.now ≡ Some e.file
  pub address : e.address ≡ c.address.now
  pub fields : fields_of (each_field (option_map (λ bs. bs.now) c.fields)) ≡ Ok (record { kind = e.kind; others = e.fields })
  pub name_text : IsUtf8 c.name.now
  pub file_text : IsUtf8 c.file.now
  pub address_text : IsUtf8 c.address.now
  pub fields_text : ForSome c.fields (λ bs. IsUtf8 bs.now)

-- what is returned of a line that says x
abbrev pub IsContent : Content → ContentValue → Type 0
IsContent (contents.Pseudo tag) x = x ≡ pseudo_value tag
IsContent (contents.Ordinary cut) x = (e : EntryValue) × IsCut cut e × (x ≡ ordinary cut.name.now e)

-- the cut of the tag that is read, or the code of the reading
abbrev pub ReadsTag : Result Cut Code → Reading → Type 0
ReadsTag (Ok cut) reading = (e : EntryValue) × IsCut cut e × (reading ≡ Ok (ordinary cut.name.now e))
ReadsTag (Err code) reading = reading ≡ Err code

-- what is returned of what is read, or the code of the reading
abbrev pub Reads : Result Content Code → Reading → Type 0
Reads (Ok content) reading = (x : ContentValue) × IsContent content x × (reading ≡ Ok x)
Reads (Err code) reading = reading ≡ Err code

-- ---- a line that is judged and then taken

-- one line more may be taken
abbrev pub HasRoom : State ℕ → Type 0
HasRoom (running s) = s.count < most_lines
HasRoom (stopped n c) = ⊥

-- the number of the next line
abbrev pub number_of : State ℕ → ℕ
number_of (running s) = s.count + 1
number_of (stopped n c) = n

-- no condition holds of a line that says x
abbrev pub IsGoodNext : State ℕ → ContentValue → Type 0
IsGoodNext (running s) x = order_in s x ≡ None
IsGoodNext (stopped n c) x = ⊥

-- the state with a line more that says x
abbrev pub taken : State ℕ → ContentValue → State ℕ
taken (running s) x = running (add counted s x)
taken (stopped n c) x = stopped n c

-- what judging a line says of the states before it and after it: a line without fault changes
-- nothing yet
abbrev pub Judges : Result Content LineFault → State ℕ → State ℕ → Reading → Type 0
Judges (Ok content) old new line =
    (new ≡ old) × HasRoom old × ((x : ContentValue) × IsContent content x × (line ≡ Ok x) × IsGoodNext old x)
Judges (Err f) old new line = (new ≡ next counted old line) × (next counted old line ≡ stopped f.line f.code)
