-- What answers a query, from a state of the machine.
use Rattle.std.specs.Prelude.{◌≡◌, ◌≢◌, ◌⊎◌, ℕ, Bool, true, false, List, [], ◌∷◌, Option, Some, None, slice_get, if◌then◌else◌}
use Rattle.std.specs.declared.cmp.Ordering.{Ordering}
use Rattle.std.specs.declared.cmp.Ordering.TheVariants.{Greater}
use Rattle.std.specs.Ordering.{nat_cmp, ordering_then}
use Rattle.lsif.specs.Element.{IdValue, VertexValue, hover_result, vertex}
use Rattle.lsif.specs.RequestKinds.{gives_places}
use Rattle.lsif.specs.declared.request_kind.RequestKind.{RequestKind}
use Rattle.lsif.specs.declared.request_kind.RequestKind.TheVariants as requests
use Rattle.dump.specs.declared.role.Role.{Role}
use Rattle.dump.specs.declared.role.Role.TheVariants as roles
use Rattle.dump.specs.Graph.{vertex_at}
use Rattle.dump.specs.Places.{PlaceValue, HasDocument, IsListing, Places, place_cmp}
use Rattle.dump.specs.Progress.{DumpValue}
use Rattle.dump.specs.Requests.{First, Pick, RangeValue, roles_of}
use Rattle.machine.specs.declared.code.Code.TheVariants.{D01, D02}
use Rattle.machine.specs.Joins.{IsJoined}
use Rattle.machine.specs.State.{State}
use Rattle.machine.specs.Reply.{ReplyValue, FoundPlace, refused, places_found, hover_found, tags_found, projects_found, profile_found}
use Rattle.machine.specs.FoundTags.{FoundTag, IsTag, BeginsWith, line_cmp, name_cmp}
use Rattle.machine.specs.Projects.{ProjectValue, IsProject, project_cmp, text_cmp}
use Rattle.machine.specs.Requests.{DocumentPositionValue, QueryValue, position_query, references, names, prefix, projects, profile}

-- ---- places

-- a place of the vertex's first result, in one of these roles
abbrev pub HasPlace : RequestKind → List Role → DumpValue → IdValue → PlaceValue → Type 0
HasPlace request in_roles dump x place =
    (result : IdValue) × First request dump.elements x (Some result) × Places in_roles dump.elements result place

-- a place of the range's own, or of a vertex that is joined to it
abbrev pub IsFound : State → RequestKind → List Role → List ℕ → DumpValue → IdValue → FoundPlace → Type 0
IsFound m request in_roles project dump r found =
    ((found.project ≡ project) × HasPlace request in_roles dump r found.place)
    ⊎ ((second : DumpValue) × (y : IdValue) × IsJoined m request project dump r found.project second y × HasPlace request in_roles second y found.place)

-- by project, then by place; names are ordered by their bytes
abbrev pub found_cmp : FoundPlace → FoundPlace → Ordering
found_cmp a b = ordering_then (text_cmp a.project b.project) (place_cmp a.place b.place)

-- the places that answer the request: those of the range that is picked, and none where none is
pub data AnswersPlaces (m : State) (request : RequestKind) (in_roles : List Role) (target : DocumentPositionValue) (dump : DumpValue)
    : ReplyValue → Type 0 where
  picked : {places : List FoundPlace} (r : RangeValue) → Pick request dump.elements target.uri target.position (Some r)
      → IsListing found_cmp (IsFound m request in_roles target.project dump r.id) places → AnswersPlaces m request in_roles target dump (places_found places)
  unpicked : Pick request dump.elements target.uri target.position None → AnswersPlaces m request in_roles target dump (places_found [])

-- ---- hover

-- the contents of the vertex's first hover result
abbrev pub HasContents : DumpValue → IdValue → List ℕ → Type 0
HasContents dump x contents =
    (result : IdValue) × First requests.Hover dump.elements x (Some result) × (vertex_at dump.elements result ≡ Some (hover_result contents))

-- a vertex that is joined to the range has these contents; its line is counted from 0
abbrev pub HasJoinedContents : State → List ℕ → DumpValue → IdValue → List ℕ → ℕ → List ℕ → Type 0
HasJoinedContents m project dump r other line contents =
    (second : DumpValue) × (y : IdValue) × (v : VertexValue) × IsJoined m requests.Hover project dump r other second y
    × (slice_get second.elements line ≡ Some (vertex y v)) × HasContents second y contents

-- the first line of the first project comes before, or is, the second line of the second
abbrev pub IsAtOrBefore : List ℕ → ℕ → List ℕ → ℕ → Type 0
IsAtOrBefore p line q other = ordering_then (text_cmp p q) (nat_cmp line other) ≢ Greater

-- what answers the request at the range that is picked: its own contents, and where it has none
-- those of the joined vertex of the least project and in it the least line
pub data HoversAt (m : State) (project : List ℕ) (dump : DumpValue) (r : IdValue) : Option (List ℕ) → Type 0 where
  own : {contents : List ℕ} → HasContents dump r contents → HoversAt m project dump r (Some contents)
  joined : {contents : List ℕ} (other : List ℕ) (line : ℕ) → First requests.Hover dump.elements r None → HasJoinedContents m project dump r other line contents
      → ((p : List ℕ) (k : ℕ) (others : List ℕ) → HasJoinedContents m project dump r p k others → IsAtOrBefore other line p k)
      → HoversAt m project dump r (Some contents)
  bare : First requests.Hover dump.elements r None → ((p : List ℕ) (k : ℕ) (contents : List ℕ) → HasJoinedContents m project dump r p k contents → ⊥)
      → HoversAt m project dump r None

pub data AnswersHover (m : State) (target : DocumentPositionValue) (dump : DumpValue) : ReplyValue → Type 0 where
  picked_hover : {contents : Option (List ℕ)} (r : RangeValue) → Pick requests.Hover dump.elements target.uri target.position (Some r)
      → HoversAt m target.project dump r.id contents → AnswersHover m target dump (hover_found contents)
  unpicked_hover : Pick requests.Hover dump.elements target.uri target.position None → AnswersHover m target dump (hover_found None)

-- ---- positions

-- D01 and D02 come before what the project's dump answers
pub data AnswersAt (m : State) (target : DocumentPositionValue) (Answers : DumpValue → ReplyValue → Type 0) : ReplyValue → Type 0 where
  no_dump : m.dump target.project ≡ None → AnswersAt m target Answers (refused D01)
  no_such_document : (dump : DumpValue) → m.dump target.project ≡ Some dump → (HasDocument dump.elements target.uri → ⊥)
      → AnswersAt m target Answers (refused D02)
  answered : {r : ReplyValue} (dump : DumpValue) → m.dump target.project ≡ Some dump → HasDocument dump.elements target.uri → Answers dump r
      → AnswersAt m target Answers r

-- ---- queries

-- what answers it at a position of a dump, where it's answered by places, or by a text
abbrev pub AnswersSo : Bool → State → RequestKind → DocumentPositionValue → DumpValue → ReplyValue → Type 0
AnswersSo true m kind target = AnswersPlaces m kind (roles_of kind) target
AnswersSo false m kind target = AnswersHover m target

abbrev pub AnswersKind : State → RequestKind → DocumentPositionValue → DumpValue → ReplyValue → Type 0
AnswersKind m kind target = AnswersSo (gives_places kind) m kind target

-- references with the declaration ask for definitions, too
abbrev pub reference_roles : Bool → List Role
reference_roles declared = if declared then roles_of requests.References else roles.References ∷ []

-- the profile of the project's dump
abbrev pub profile_reply : Option DumpValue → ReplyValue
profile_reply None = refused D01
profile_reply (Some dump) = profile_found dump.profile

-- the reply to a query
abbrev pub Answers : State → QueryValue → ReplyValue → Type 0
Answers m (position_query kind target) r = AnswersAt m target (AnswersKind m kind target) r
Answers m (references target declared) r = AnswersAt m target (AnswersPlaces m requests.References (reference_roles declared) target) r
Answers m (names name asked) r =
    (found : List FoundTag) × IsListing line_cmp (λ (f : FoundTag). IsTag m asked f × (f.tag.name ≡ name)) found × (r ≡ tags_found found)
Answers m (prefix start asked) r =
    (found : List FoundTag) × IsListing name_cmp (λ (f : FoundTag). IsTag m asked f × BeginsWith f.tag.name start) found × (r ≡ tags_found found)
Answers m projects r = (found : List ProjectValue) × IsListing project_cmp (IsProject m) found × (r ≡ projects_found found)
Answers m (profile project) r = r ≡ profile_reply (m.dump project)
