-- The line of a tag: tags(5), "Proposal", in format 2. Each form is a tree, its text, and what
-- makes the tree one of the form. Nothing here says how a line is read.
use Rattle.std.specs.Prelude.{◌≡◌, ◌≢◌, ℕ, ◌<◌, ◌≤◌, ◌⊎◌, List, [], ◌∷◌, ◌++◌, length, slice_index, Option, Some, None, ⊤}
use Rattle.std.specs.List.{AllByRecursion, flat_map}
use Rattle.std.specs.Char.{is_ascii_digit}
use Rattle.std.specs.Str.Parse.{digits_value}
use Rattle.std.specs.Prelude.{IsTrue}
use Rattle.tags.specs.Bytes.{tab, double_quote, slash, digit_zero, semicolon, question_mark, backslash}

-- ---- patterns

-- a byte that represents itself, or a backslash and the byte that it escapes
pub data PatternPart : Type 0 where
  plain : ℕ → PatternPart
  escaped : ℕ → PatternPart

abbrev pub part_text : PatternPart → List ℕ
part_text (plain b) = b ∷ []
part_text (escaped b) = backslash ∷ b ∷ []

-- a plain byte is neither the delimiter nor a backslash
abbrev pub IsPatternPart : ℕ → PatternPart → Type 0
IsPatternPart d (plain b) = (b ≢ d) × (b ≢ backslash)
IsPatternPart d (escaped b) = ⊤

abbrev pub IsDelimiter : ℕ → Type 0
IsDelimiter d = (d ≡ slash) ⊎ (d ≡ question_mark)

-- what is between two delimiters, which may be nothing
pub record Pattern : Type 0 where
  pub delimiter : ℕ
  pub parts : List PatternPart

abbrev pub pattern_text : Pattern → List ℕ
pattern_text p = p.delimiter ∷ (flat_map part_text p.parts ++ p.delimiter ∷ [])

abbrev pub IsPattern : Pattern → Type 0
IsPattern p = IsDelimiter p.delimiter × AllByRecursion (IsPatternPart p.delimiter) p.parts

-- ---- addresses

-- a line number, a pattern, or both
pub data Address : Type 0 where
  number : List ℕ → Address
  pattern : Pattern → Address
  combined : List ℕ → Pattern → Address

abbrev pub address_text : Address → List ℕ
address_text (number digits) = digits
address_text (pattern p) = pattern_text p
address_text (combined digits p) = digits ++ semicolon ∷ pattern_text p

-- 1 to 2147483647, without leading zero
pub record IsNumber (digits : List ℕ) : Type 0 where
  pub not_empty : 0 < length digits
  pub each : AllByRecursion (λ b. IsTrue (is_ascii_digit b)) digits
  pub no_leading_zero : slice_index digits 0 ≢ digit_zero
  pub in_range : digits_value 10 digits ≤ 2147483647

abbrev pub IsAddress : Address → Type 0
IsAddress (number digits) = IsNumber digits
IsAddress (pattern p) = IsPattern p
IsAddress (combined digits p) = IsNumber digits × IsPattern p

-- ---- lines

-- a name, a file, an address, and the fields where `;"` follows the address
pub record TagLine : Type 0 where
  pub name : List ℕ
  pub file : List ℕ
  pub address : Address
  pub fields : Option (List (List ℕ))

-- each field comes after a Tab
abbrev pub field_text : List ℕ → List ℕ
field_text field = tab ∷ field

-- the fields, of which there may be none
abbrev pub fields_in : Option (List (List ℕ)) → List (List ℕ)
fields_in None = []
fields_in (Some fields) = fields

abbrev pub fields_text : Option (List (List ℕ)) → List ℕ
fields_text None = []
fields_text (Some fields) = semicolon ∷ double_quote ∷ flat_map field_text fields

abbrev pub line_of : TagLine → List ℕ
line_of t = t.name ++ tab ∷ (t.file ++ tab ∷ (address_text t.address ++ fields_text t.fields))

abbrev pub HasNoTab : List ℕ → Type 0
HasNoTab bs = AllByRecursion (λ b. b ≢ tab) bs

-- a name or a file
abbrev pub IsName : List ℕ → Type 0
IsName bs = (0 < length bs) × HasNoTab bs

abbrev pub AreFields : Option (List (List ℕ)) → Type 0
AreFields None = ⊤
AreFields (Some fields) = AllByRecursion HasNoTab fields

pub record IsTagLine (t : TagLine) : Type 0 where
  pub name : IsName t.name
  pub file : IsName t.file
  pub address : IsAddress t.address
  pub fields : AreFields t.fields

-- the line is spelled by the tree
abbrev pub Spells : TagLine → List ℕ → Type 0
Spells t line = IsTagLine t × (line ≡ line_of t)

-- the line has a name, a file and two Tabs, whatever comes after them
abbrev pub HasFront : List ℕ → Type 0
HasFront line = (name file rest : List ℕ) × IsName name × IsName file × (line ≡ name ++ tab ∷ (file ++ tab ∷ rest))
