-- What the selections of an index find, from a state of the machine.
use Rattle.std.specs.Prelude.{◌≡◌, ◌↔◌, ℕ, List, Contains, map, Option, Some, None, string_bytes}
use Rattle.std.specs.List.{AllZip}
use Rattle.std.specs.Rc.{rc_str_bytes}
use Rattle.lsif.specs.declared.element.MonikerKind.{MonikerKind}
use Rattle.positions.specs.Position.{PositionValue}
use Rattle.positions.specs.Span.{SpanValue}
use Rattle.lsif.specs.Element.{ElementValue}
use Rattle.lsif.specs.declared.request_kind.RequestKind.{RequestKind}
use Rattle.dump.specs.declared.role.Role.{Role}
use Rattle.dump.specs.Places.{PlaceValue, HasDocument, IsListing}
use Rattle.dump.specs.Progress.{DumpValue}
use Rattle.dump.specs.Requests.{Cover, RangeValue}
use Rattle.flatten.specs.Rows.{results_value}
use Rattle.flatten.specs.Flat.{ResultsValue, BearerRowValue, IsBearerRow, IsHoverRow, IsItemRow, IsMarkRow, IsResult, number_of}
use Rattle.machine.specs.FoundTags.{BeginsWith, FoundTag, IsTag, line_cmp, name_cmp}
use Rattle.machine.specs.Projects.{IsProject, ProjectValue, project_cmp}
use Rattle.machine.specs.State.{State}
use Rattle.machine.specs.declared.selections.FoundBearer.{FoundBearer}
use Rattle.machine.specs.declared.selections.Covering.{Covering}
use Rattle.machine.specs.declared.selections.Covering.TheVariants.{NoDump, NoDocument, Ranges}
use Rattle.machine.specs.declared.selections.FoundRange.{FoundRange}
use Rattle.machine.specs.declared.selections.FoundItem.{FoundItem}
use Rattle.machine.specs.declared.selections.FoundMark.{FoundMark}

-- ---- projects

-- the projects with a part, each once
abbrev pub FindsProjects : State → List ProjectValue → Type 0
FindsProjects m = IsListing project_cmp (IsProject m)

-- ---- hovers

-- the hover result of this number, in the project's dump, has these contents
abbrev pub HasHover : State → List ℕ → ℕ → List ℕ → Type 0
HasHover m project result contents =
    (dump : DumpValue) × (m.dump project ≡ Some dump) × IsHoverRow dump.elements (record { result = result; contents = contents })

-- the contents of the hover result, or none where there is no such result
abbrev pub FindsHover : State → List ℕ → ℕ → Option (List ℕ) → Type 0
FindsHover m project result (Some contents) = HasHover m project result contents
FindsHover m project result None = (contents : List ℕ) → HasHover m project result contents → ⊥

-- ---- marks

-- the kind of a moniker, and the text of its key
pub record MarkText : Type 0 where
  pub kind : MonikerKind
  pub key : List ℕ

abbrev pub mark_found : FoundMark → MarkText
mark_found mark = record { kind = mark.kind; key = string_bytes mark.key }

-- the range at this line of the project's dump has the mark
abbrev pub HasMark : State → List ℕ → ℕ → MarkText → Type 0
HasMark m project line mark =
    (dump : DumpValue) × (m.dump project ≡ Some dump) × IsMarkRow dump.elements (record { range = line; kind = mark.kind; key = mark.key })

-- the marks of the range, and no other
abbrev pub FindsMarks : State → List ℕ → ℕ → List MarkText → Type 0
FindsMarks m project line found = (mark : MarkText) → Contains found mark ↔ HasMark m project line mark

-- ---- items

abbrev pub item_found : FoundItem → PlaceValue
item_found item = record { uri = rc_str_bytes item.uri; span = item.span }

-- the result of this number, in the project's dump, has the place in the role
abbrev pub HasItem : State → List ℕ → ℕ → Role → PlaceValue → Type 0
HasItem m project result role place =
    (dump : DumpValue) × (m.dump project ≡ Some dump) × IsItemRow dump.elements (record { result = result; role = role; place = place })

-- the places of the result in the role, and no other
abbrev pub FindsItems : State → List ℕ → ℕ → Role → List PlaceValue → Type 0
FindsItems m project result role found = (place : PlaceValue) → Contains found place ↔ HasItem m project result role place

-- ---- covering

-- a range that is found: its number, its span and its first result for the request
pub record RangeFound : Type 0 where
  pub line : ℕ
  pub span : SpanValue
  pub result : Option ℕ

abbrev pub range_found : FoundRange → RangeFound
range_found r = record { line = r.line; span = r.span; result = r.result }

-- the range of the dump is found with its number, its span and its first result for the request
pub record IsRangeFound (request : RequestKind) (elements : List ElementValue) (r : RangeValue) (found : RangeFound) : Type 0 where
  pub at_line : number_of elements r.id ≡ Some found.line
  pub span : r.span ≡ found.span
  pub result : IsResult elements request r.id found.result

-- the ranges of the document of this uri that cover the position, the smallest first, with their
-- results for the request
abbrev pub FindsCover : RequestKind → List ElementValue → List ℕ → PositionValue → List RangeFound → Type 0
FindsCover request elements uri position found =
    (ranges : List RangeValue) × Cover elements uri position ranges × AllZip (IsRangeFound request elements) ranges found

-- the project has no dump, or its dump no document of this uri, or these ranges of it cover the
-- position
abbrev pub FindsCovering : State → RequestKind → List ℕ → List ℕ → PositionValue → Covering → Type 0
FindsCovering m request project uri position NoDump = m.dump project ≡ None
FindsCovering m request project uri position NoDocument = (dump : DumpValue) × (m.dump project ≡ Some dump) × (HasDocument dump.elements uri → ⊥)
FindsCovering m request project uri position (Ranges found) =
    (dump : DumpValue) × (m.dump project ≡ Some dump) × HasDocument dump.elements uri
    × FindsCover request dump.elements uri position (map range_found found.items)

-- ---- bearers

-- a vertex of a project's dump that has a mark itself: its line, the kind of the mark, and its
-- first results
pub record BearerFound : Type 0 where
  pub project : List ℕ
  pub line : ℕ
  pub kind : MonikerKind
  pub results : ResultsValue

abbrev pub bearer_found : FoundBearer → BearerFound
bearer_found b = record {
  project = string_bytes b.project;
  line = b.line;
  kind = b.kind;
  results = results_value b.results;
}

-- its row, of a mark with this key
abbrev pub bearer_row : List ℕ → BearerFound → BearerRowValue
bearer_row key b = record { line = b.line; key = key; kind = b.kind; results = b.results }

-- the vertex has a mark with this key, in its project's dump
abbrev pub Bears : State → List ℕ → BearerFound → Type 0
Bears m key b = (dump : DumpValue) × (m.dump b.project ≡ Some dump) × IsBearerRow dump.elements (bearer_row key b)

-- the bearers of the key in all projects, and no other
abbrev pub FindsBearers : State → List ℕ → List BearerFound → Type 0
FindsBearers m key found = (b : BearerFound) → Contains found b ↔ Bears m key b

-- ---- tags

-- the tags of this name: of the project that is asked for, where one is, and else of all
abbrev pub FindsNamed : State → Option (List ℕ) → List ℕ → List FoundTag → Type 0
FindsNamed m asked name = IsListing line_cmp (λ (f : FoundTag). IsTag m asked f × (f.tag.name ≡ name))

-- those whose names begin with the text
abbrev pub FindsPrefixed : State → Option (List ℕ) → List ℕ → List FoundTag → Type 0
FindsPrefixed m asked prefix = IsListing name_cmp (λ (f : FoundTag). IsTag m asked f × BeginsWith f.tag.name prefix)
