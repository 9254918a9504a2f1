-- What selections in memory find in the rows of a dump.
use Rattle.std.specs.Prelude.{◌≡◌, ◌⊎◌, ◌↔◌, ◌&&◌, ◌==◌, ℕ, List, Option, Some, None, String, Contains, bytes_eq, string_bytes, if◌then◌else◌}
use Rattle.std.specs.declared.cmp.Ordering.{Ordering}
use Rattle.positions.specs.Position.{PositionValue}
use Rattle.positions.specs.Span.{covers}
use Rattle.lsif.specs.Element.{ElementValue}
use Rattle.lsif.specs.declared.request_kind.RequestKind.{RequestKind}
use Rattle.dump.specs.contracts.role.RolePartialEq.TheImpl as role_eq
use Rattle.dump.specs.declared.role.Role.{Role}
use Rattle.dump.specs.Places.{PlaceValue}
use Rattle.dump.specs.Progress.{DumpValue}
use Rattle.flatten.specs.Flat.{RangeRowValue, ItemRowValue, HoverRowValue, MarkRowValue, BearerRowValue, IsItemRow, IsHoverRow, IsMarkRow, IsBearerRow}
use Rattle.flatten.specs.Rows.{range_value}
use Rattle.flatten.specs.declared.rows.RangeRow.{RangeRow}
use Rattle.machine.specs.Selections.{MarkText, RangeFound, BearerFound, bearer_row}
use Rattle.tables.specs.Steps.Climbs.{row_found}
use Rattle.desk.specs.declared.project.Project.{Project}
use Rattle.machine.specs.Steps.Covers.{inner_order}

-- ---- items

abbrev pub item_row : ℕ → Role → PlaceValue → ItemRowValue
item_row result role place = record { result = result; role = role; place = place }

abbrev pub item_wanted : ℕ → Role → ItemRowValue → Option PlaceValue
item_wanted result role row = if row.result == result && role_eq.ghosts.eq row.role role then Some row.place else None

-- the result of this number has the place in the role
abbrev pub IsItemOf : List ElementValue → ℕ → Role → PlaceValue → Type 0
IsItemOf elements result role place = IsItemRow elements (item_row result role place)

-- ---- marks

abbrev pub mark_row : ℕ → MarkText → MarkRowValue
mark_row line mark = record { range = line; kind = mark.kind; key = mark.key }

abbrev pub mark_wanted : ℕ → MarkRowValue → Option MarkText
mark_wanted line row = if row.range == line then Some (record { kind = row.kind; key = row.key }) else None

-- the range at this line has the mark
abbrev pub IsMarkOf : List ElementValue → ℕ → MarkText → Type 0
IsMarkOf elements line mark = IsMarkRow elements (mark_row line mark)

-- ---- hovers

abbrev pub hover_row : ℕ → List ℕ → HoverRowValue
hover_row result contents = record { result = result; contents = contents }

abbrev pub hover_wanted : ℕ → HoverRowValue → Option (List ℕ)
hover_wanted result row = if row.result == result then Some row.contents else None

-- the hover result of this number has the contents, or there is none
abbrev pub IsHoverOf : List ElementValue → ℕ → Option (List ℕ) → Type 0
IsHoverOf elements result (Some contents) = IsHoverRow elements (hover_row result contents)
IsHoverOf elements result None = (contents : List ℕ) → IsHoverRow elements (hover_row result contents) → ⊥

-- ---- bearers

abbrev pub bearer_wanted : List ℕ → List ℕ → BearerRowValue → Option BearerFound
bearer_wanted project key row =
    if bytes_eq row.key key then Some (record { project = project; line = row.line; kind = row.kind; results = row.results }) else None

-- a bearer of the key in the project's dump
abbrev pub IsBearerOf : List ElementValue → List ℕ → List ℕ → BearerFound → Type 0
IsBearerOf elements project key b = (b.project ≡ project) × IsBearerRow elements (bearer_row key b)

-- ---- ranges

abbrev pub range_wanted : List ℕ → PositionValue → RangeRowValue → Option RangeRowValue
range_wanted uri at row = if bytes_eq row.place.uri uri && covers row.place.span at then Some row else None

abbrev pub by_span : RangeRow → RangeRow → Ordering
by_span a b = inner_order a.span.now b.span.now

abbrev pub range_found_of : RequestKind → RangeRow → RangeFound
range_found_of request r = row_found request (range_value r)

-- ---- bearers in all projects

-- a bearer of the key in the dump of the project of this name, where it has one
abbrev pub IsBearerHere : List ℕ → List ℕ → Option DumpValue → BearerFound → Type 0
IsBearerHere key name kept b = (dump : DumpValue) × (kept ≡ Some dump) × IsBearerOf dump.elements name key b

-- in the dump of one of these projects
abbrev pub IsBearerAmong : {Y : Type 0} → List ℕ → List (String Y × Project) → BearerFound → Type 0
IsBearerAmong {Y} key entries b = (e : String Y × Project) × Contains entries e × IsBearerHere key (string_bytes e.0) e.1.dump b

-- those of the projects before the rest were found: with those of the rest they're those of all
abbrev pub FoundSoFar : {Y : Type 0} → List ℕ → List (String Y × Project) → List (String Y × Project) → List BearerFound → Type 0
FoundSoFar key all rest found = (b : BearerFound) → (Contains found b ⊎ IsBearerAmong key rest b) ↔ IsBearerAmong key all b
