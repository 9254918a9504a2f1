-- What answers queries at a position, by rows that selections give.
use Rattle.std.specs.Prelude.{◌≡◌, ◌≢◌, ◌↔◌, ◌⊎◌, ℕ, true, List, Option, Some, None, Contains, is_some, string_bytes}
use Rattle.std.specs.declared.cmp.Ordering.{Ordering}
use Rattle.std.specs.Ordering.{nat_cmp, ordering_then}
use Rattle.lsif.specs.Element.{range, ElementValue}
use Rattle.lsif.specs.declared.request_kind.RequestKind.{RequestKind}
use Rattle.dump.specs.declared.role.Role.{Role}
use Rattle.dump.specs.Graph.{vertex_at}
use Rattle.dump.specs.Places.{HasDocument, PlaceValue}
use Rattle.dump.specs.Progress.{DumpValue}
use Rattle.lsif.specs.RequestKinds.{follows, finds}
use Rattle.dump.specs.Requests.{Pick, RangeValue}
use Rattle.positions.specs.Position.{PositionValue}
use Rattle.machine.specs.State.{State}
use Rattle.machine.specs.Projects.{text_cmp}
use Rattle.machine.specs.Selections.{BearerFound, Bears, HasItem, HasMark, IsRangeFound, MarkText, RangeFound, range_found}
use Rattle.machine.specs.Reply.{FoundPlace}
use Rattle.desk.specs.declared.rows.ranges.Picked.{Picked}
use Rattle.desk.specs.declared.rows.ranges.Picked.TheVariants as picks
use Rattle.desk.specs.declared.rows.bearers.JoinedBearer.{JoinedBearer}
use Rattle.desk.specs.declared.rows.results.ProjectResult.{ProjectResult}

-- the list has exactly the values of which this holds
abbrev pub AreThose : {A : Type 0} → (A → Type 0) → List A → Type 0
AreThose {A = A} P xs = (x : A) → Contains xs x ↔ P x

-- those that the old list has, and those of which this holds
abbrev pub Adds : {A : Type 0} → List A → List A → (A → Type 0) → Type 0
Adds old new P = AreThose (λ x. Contains old x ⊎ P x) new

-- ---- the range that is picked

-- the text of the key of a mark of the range at this line, by which the request goes on to other
-- projects
abbrev pub IsRowKey : State → RequestKind → List ℕ → ℕ → List ℕ → Type 0
IsRowKey m request project line text = (mark : MarkText) × HasMark m project line mark × (follows request mark.kind ≡ true) × (mark.key ≡ text)

-- the range has a result, or such a key
abbrev pub RowSpeaks : State → RequestKind → List ℕ → RangeFound → Type 0
RowSpeaks m request project row = (is_some row.result ≡ true) ⊎ ((text : List ℕ) × IsRowKey m request project row.line text)

-- the range of the dump has this row
abbrev pub HasRow : RequestKind → List ElementValue → RangeValue → RangeFound → Type 0
HasRow request elements r row = (vertex_at elements r.id ≡ Some (range r.span)) × IsRangeFound request elements r row

-- the range of this row answers a request at the position, or none does
abbrev pub PicksRow : DumpValue → RequestKind → List ℕ → PositionValue → Option RangeFound → Type 0
PicksRow dump request uri at None = Pick request dump.elements uri at None
PicksRow dump request uri at (Some row) = (r : RangeValue) × Pick request dump.elements uri at (Some r) × HasRow request dump.elements r row

-- the texts are those of the keys of these marks by which the request goes on to other projects
abbrev pub AreFollowed : RequestKind → List MarkText → List (List ℕ) → Type 0
AreFollowed request marks = AreThose (λ text. (mark : MarkText) × Contains marks mark × ((follows request mark.kind ≡ true) × (mark.key ≡ text)))

-- the texts are those of the keys of the range at this line
abbrev pub AreKeys : State → RequestKind → List ℕ → ℕ → List (List ℕ) → Type 0
AreKeys m request project line = AreThose (IsRowKey m request project line)

-- in a document of the project's dump the range of this row answers a request at the position, or
-- none does
abbrev pub PicksIn : State → RequestKind → List ℕ → List ℕ → PositionValue → Option RangeFound → Type 0
PicksIn m request project uri at row = (dump : DumpValue) × (m.dump project ≡ Some dump) × HasDocument dump.elements uri × PicksRow dump request uri at row

-- what is picked
abbrev pub Picks : State → RequestKind → List ℕ → List ℕ → PositionValue → Picked → Type 0
Picks m request project uri at picks.NoDump = m.dump project ≡ None
Picks m request project uri at picks.NoDocument = (dump : DumpValue) × (m.dump project ≡ Some dump) × (HasDocument dump.elements uri → ⊥)
Picks m request project uri at picks.NoRange = PicksIn m request project uri at None
Picks m request project uri at (picks.Range row) = PicksIn m request project uri at (Some (range_found row))

-- ---- what is joined

-- a vertex of another project that is joined: its project, its line, counted from 1, and the number
-- of its first result
pub record JoinedValue : Type 0 where
  pub project : List ℕ
  pub line : ℕ
  pub number : ℕ

abbrev pub joined_value : JoinedBearer → JoinedValue
joined_value j = record { project = string_bytes j.project; line = j.line; number = j.number }

-- a bearer in another project, of a mark that the request looks for there, which has a first result
pub record OfBearer (request : RequestKind) (own : List ℕ) (bearer : BearerFound) (j : JoinedValue) : Type 0 where
  pub elsewhere : bearer.project ≢ own
  pub finds : finds request bearer.kind ≡ true
  pub its_project : bearer.project ≡ j.project
  pub its_line : bearer.line ≡ j.line
  pub its_result : bearer.results request ≡ Some j.number

-- one that has a mark with the key of this text
abbrev pub IsKeyJoined : State → RequestKind → List ℕ → List ℕ → JoinedValue → Type 0
IsKeyJoined m request own text j = (bearer : BearerFound) × Bears m text bearer × OfBearer request own bearer j

-- one that has a mark with one of these keys
abbrev pub AreJoined : State → RequestKind → List ℕ → List (List ℕ) → JoinedValue → Type 0
AreJoined m request own texts j = (text : List ℕ) × Contains texts text × IsKeyJoined m request own text j

-- one that has a mark with a key of the range of this row
abbrev pub IsRowJoined : State → RequestKind → List ℕ → RangeFound → JoinedValue → Type 0
IsRowJoined m request own row j = (text : List ℕ) × IsRowKey m request own row.line text × IsKeyJoined m request own text j

-- ---- results

-- a result, by its number in the dump of a project
pub record ProjectResultValue : Type 0 where
  pub project : List ℕ
  pub number : ℕ

abbrev pub project_result_value : ProjectResult → ProjectResultValue
project_result_value t = record { project = string_bytes t.project; number = t.number }

-- by project, then by number
abbrev pub project_result_cmp : ProjectResultValue → ProjectResultValue → Ordering
project_result_cmp a b = ordering_then (text_cmp a.project b.project) (nat_cmp a.number b.number)

abbrev pub result_of_joined : JoinedValue → ProjectResultValue
result_of_joined j = record { project = j.project; number = j.number }

-- the range's own first result
abbrev pub IsOwnResult : List ℕ → RangeFound → ProjectResultValue → Type 0
IsOwnResult own row t = (t.project ≡ own) × (row.result ≡ Some t.number)

-- the first result of the range, or of a vertex that is joined to it
abbrev pub IsAnsweringResult : State → RequestKind → List ℕ → RangeFound → ProjectResultValue → Type 0
IsAnsweringResult m request own row t = IsOwnResult own row t ⊎ ((j : JoinedValue) × IsRowJoined m request own row j × (result_of_joined j ≡ t))

-- a place of the result in this role, in the result's project
abbrev pub IsRolePlace : State → Role → ProjectResultValue → FoundPlace → Type 0
IsRolePlace m role t found = (t.project ≡ found.project) × HasItem m t.project t.number role found.place

-- a place of the result, in one of these roles
abbrev pub IsResultPlace : State → List Role → ProjectResultValue → PlaceValue → Type 0
IsResultPlace m in_roles t place = (role : Role) × Contains in_roles role × HasItem m t.project t.number role place

-- the same, in the result's project
abbrev pub IsPlaceOf : State → List Role → ProjectResultValue → FoundPlace → Type 0
IsPlaceOf m in_roles t found = (t.project ≡ found.project) × IsResultPlace m in_roles t found.place

-- a place of one of these results
abbrev pub IsPlaceOfOne : State → List Role → (ProjectResultValue → Type 0) → FoundPlace → Type 0
IsPlaceOfOne m in_roles IsOne found = (t : ProjectResultValue) × IsOne t × IsPlaceOf m in_roles t found
