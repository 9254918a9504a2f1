-- What may be wrong with a line alone, code by code, and what a line says: tags(5), "Proposal",
-- with the escapes of "Exceptions in Universal Ctags". Nothing here says how a line is read. A
-- line's text is the line without a CR before its LF; the conditions on the lines before it are in
-- Fault.antt.
use Rattle.std.specs.Prelude.{◌≡◌, ◌≢◌, ℕ, ◌==◌, ◌&&◌, ◌||◌, ◌⊎◌, Bool, nat_le, List, [], ◌∷◌, ◌++◌, codes, bytes_eq, slice_get, Some, None, Result, Ok, Err, IsTrue, IsUtf8}
use Rattle.std.specs.List.{AllByRecursion, filter_map, list_any}
use Rattle.tags.specs.Bytes.{tab}
use Rattle.tags.specs.Escapes.{decoded}
use Rattle.tags.specs.Fields.{has_bad_escape, has_bad_fields, kind_in, other_in}
use Rattle.tags.specs.Grammar.{HasFront, HasNoTab, IsName, Spells, TagLine, address_text, fields_in}
use Rattle.tags.specs.Values.{ContentValue, EntryValue, sorted, other, ordinary}
use Rattle.tags.specs.declared.code.Code.{Code}
use Rattle.tags.specs.declared.code.Code.TheVariants.{T02, T03, T04, T05, T06, T07, T08}

-- ---- pseudo-tags

abbrev pub IsPseudoTag : List ℕ → Type 0
IsPseudoTag text = (rest : List ℕ) × (text ≡ codes "!_TAG_" ++ rest)

abbrev pub IsOrdinary : List ℕ → Type 0
IsOrdinary text = IsPseudoTag text → ⊥

-- the name comes before the first Tab, and the value between the first and the second
abbrev pub HasValue : List ℕ → List ℕ → List ℕ → Type 0
HasValue text name value = (rest : List ℕ) × HasNoTab name × HasNoTab value × (text ≡ name ++ tab ∷ (value ++ tab ∷ rest))

-- ---- the conditions

-- T02: the text isn't UTF-8
abbrev pub IsNoText : List ℕ → Type 0
IsNoText text = IsUtf8 text → ⊥

-- a control character other than Tab and LF
abbrev pub is_control : ℕ → Bool
is_control b = nat_le b 8 || (nat_le 11 b && nat_le b 31) || b == 127

-- T03: a byte is a control character
abbrev pub HasControl : List ℕ → Type 0
HasControl text = IsTrue (list_any is_control text)

-- T04: a pseudo-tag with fewer than two Tabs; or an ordinary line without a name and a file, each
-- before a Tab and not empty
abbrev pub LacksParts : List ℕ → Type 0
LacksParts text =
    (IsPseudoTag text × ((name value : List ℕ) → HasValue text name value → ⊥))
    ⊎ (IsOrdinary text × (HasFront text → ⊥))

-- the name and the file of an ordinary line
abbrev pub HasNames : List ℕ → List ℕ → List ℕ → Type 0
HasNames text name file = (rest : List ℕ) × IsName name × IsName file × (text ≡ name ++ tab ∷ (file ++ tab ∷ rest))

-- a backslash begins no escape
abbrev pub IsBadlyEscaped : List ℕ → Type 0
IsBadlyEscaped written = decoded written ≡ None

-- in the name or the file
abbrev pub HasBadName : List ℕ → Type 0
HasBadName text = (name : List ℕ) × (file : List ℕ) × HasNames text name file × (IsBadlyEscaped name ⊎ IsBadlyEscaped file)

-- in a kind or a field's value of a line of the grammar
abbrev pub HasBadValue : List ℕ → Type 0
HasBadValue text = (t : TagLine) × Spells t text × IsTrue (list_any has_bad_escape (fields_in t.fields))

-- T05: an ordinary line with a backslash that begins no escape
abbrev pub HasBadEscape : List ℕ → Type 0
HasBadEscape text = IsOrdinary text × (HasBadName text ⊎ HasBadValue text)

-- T06: an ordinary line that isn't of the grammar: its address, or what follows that, has no form
abbrev pub HasBadAddress : List ℕ → Type 0
HasBadAddress text = IsOrdinary text × ((t : TagLine) → Spells t text → ⊥)

-- T07: an ordinary line of the grammar with a bad field, or a second kind
abbrev pub HasBadField : List ℕ → Type 0
HasBadField text = IsOrdinary text × ((t : TagLine) × Spells t text × IsTrue (has_bad_fields (fields_in t.fields)))

-- T08: the pseudo-tag of the format with a value other than 2
abbrev pub HasOtherFormat : List ℕ → Type 0
HasOtherFormat text =
    IsPseudoTag text
    × ((name : List ℕ) × (value : List ℕ) × HasValue text name value × (name ≡ codes "!_TAG_FILE_FORMAT") × (value ≢ codes "2"))

-- the condition of a code on a line's text
abbrev pub TextCondition : List ℕ → Code → Type 0
TextCondition text T02 = IsNoText text
TextCondition text T03 = HasControl text
TextCondition text T04 = LacksParts text
TextCondition text T05 = HasBadEscape text
TextCondition text T06 = HasBadAddress text
TextCondition text T07 = HasBadField text
TextCondition text T08 = HasOtherFormat text
TextCondition text c = ⊥

-- the codes of a line's text, least first
abbrev pub text_codes : List Code
text_codes = T02 ∷ T03 ∷ T04 ∷ T05 ∷ T06 ∷ T07 ∷ T08 ∷ []

-- c is the first of the codes whose condition holds
abbrev pub IsFirst : (Code → Type 0) → List Code → Code → Type 0
IsFirst Condition [] c = ⊥
IsFirst Condition (d ∷ ds) c = ((c ≡ d) × Condition d) ⊎ ((Condition d → ⊥) × IsFirst Condition ds c)

-- no condition of the codes holds
abbrev pub HoldsNone : (Code → Type 0) → List Code → Type 0
HoldsNone Condition ds = AllByRecursion (λ d. Condition d → ⊥) ds

-- ---- what a line says

-- an ordinary line of the grammar says this of a tag, whose name is written so
pub record SaysTag (t : TagLine) (written : List ℕ) (e : EntryValue) : Type 0 where
  pub as_written : written ≡ t.name
  pub name : decoded t.name ≡ Some e.name
  pub file : decoded t.file ≡ Some e.file
  pub address : e.address ≡ address_text t.address
  pub kind : e.kind ≡ slice_get (filter_map kind_in (fields_in t.fields)) 0
  pub fields : e.fields ≡ filter_map other_in (fields_in t.fields)

abbrev pub Says : List ℕ → ContentValue → Type 0
Says text (sorted b) =
    IsPseudoTag text
    × ((name : List ℕ) × (value : List ℕ) × HasValue text name value × (name ≡ codes "!_TAG_FILE_SORTED") × (b ≡ bytes_eq value (codes "1")))
Says text other =
    IsPseudoTag text × ((name : List ℕ) × (value : List ℕ) × HasValue text name value × (name ≢ codes "!_TAG_FILE_SORTED"))
Says text (ordinary written e) = IsOrdinary text × ((t : TagLine) × Spells t text × SaysTag t written e)

-- What is read of a text by these codes: the least code whose condition holds, or where none does
-- what the text says.
abbrev pub ReadsBy : (Code → Type 0) → List Code → List ℕ → Result ContentValue Code → Type 0
ReadsBy Condition ds text (Err c) = IsFirst Condition ds c
ReadsBy Condition ds text (Ok x) = HoldsNone Condition ds × Says text x
