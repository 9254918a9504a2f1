-- The parts of a line, each with its span.
use Rattle.std.specs.Prelude.{◌≡◌, ℕ, ◌+◌, List, [], ◌∷◌, ◌++◌, length, slice_range, Result, Ok, Err}
use Rattle.tags.specs.Grammar.{TagLine, address_text, fields_in, Spells, HasFront}
use Rattle.tags.specs.declared.code.Code.TheVariants.{T04, T06}
use Rattle.tags.specs.declared.code.SplitFault.{SplitFault}
use Rattle.tags.specs.declared.code.SplitFault.TheVariants as faults

-- bytes as written, the place of the first, and the place after the last
pub record PartValue : Type 0 where
  pub text : List ℕ
  pub from : ℕ
  pub to : ℕ

abbrev pub part_at : ℕ → List ℕ → PartValue
part_at from text = record { text = text; from = from; to = from + length text }

-- fields that begin at a place, each before the Tab of the next
abbrev pub fields_at : ℕ → List (List ℕ) → List PartValue
fields_at from [] = []
fields_at from (field ∷ fields) = part_at from field ∷ fields_at (from + length field + 1) fields

-- a name, a file, an address and fields, one byte apart but for the `;"` and the Tab before the
-- fields
abbrev pub parts_with : List ℕ → List ℕ → List ℕ → List (List ℕ) → List PartValue
parts_with name file address fields =
    (part_at 0 name ∷ part_at (length name + 1) file ∷ part_at (length name + length file + 2) address ∷ [])
    ++ fields_at (length name + length file + length address + 5) fields

-- the parts of a line of the grammar
abbrev pub parts_in : TagLine → List PartValue
parts_in t = parts_with t.name t.file (address_text t.address) (fields_in t.fields)

-- the part is the bytes of the line at its span
abbrev pub IsSlice : List ℕ → PartValue → Type 0
IsSlice line p = p.text ≡ slice_range line p.from p.to

-- What splitting a line answers: the parts of the grammar's cut; or T04 where it has no name and
-- file; or else T06 where it isn't of the grammar.
abbrev pub Splits : Result (List PartValue) SplitFault → List ℕ → Type 0
Splits (Ok parts) line = (t : TagLine) × Spells t line × (parts ≡ parts_in t)
Splits (Err faults.Memory) line = Unit {0}
Splits (Err (faults.Line T04)) line = HasFront line → ⊥
Splits (Err (faults.Line T06)) line = HasFront line × ((t : TagLine) → Spells t line → ⊥)
Splits (Err (faults.Line code)) line = ⊥
