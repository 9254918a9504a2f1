-- The kinds of requests, and in what they differ (LSIF 0.6.0, "Requests"; "Multiple Projects":
-- import and export monikers).
use Rattle.std.specs.Prelude.{ℕ, ◌&&◌, ◌||◌, not, Bool, true, false, nat_eq, nat_le, List, [], ◌∷◌, codes, bytes_eq, Option, find}
use Rattle.lsif.specs.declared.element.MonikerKind.{MonikerKind}
use Rattle.lsif.specs.declared.element.MonikerKind.TheVariants.{Import, Export, Local}
use Rattle.lsif.specs.declared.profile.Profile.{Profile}
use Rattle.lsif.specs.declared.profile.Profile.TheVariants.{One, Two}
use Rattle.lsif.specs.Profiles.{profile_number}
use Rattle.lsif.specs.declared.request_kind.RequestKind.{RequestKind}
use Rattle.lsif.specs.declared.request_kind.RequestKind.TheVariants.{Definition, References, Hover, Declaration, Implementation}
use Rattle.lsif.specs.declared.request_kind.Spelling.{Spelling}

-- ---- how a dump spells them

-- the label of the edges that name a request's results, that of its results, and the least profile
-- that reads both
pub record SpellingValue : Type 0 where
  pub edge : List ℕ
  pub result : List ℕ
  pub profile : Profile

abbrev pub spelling_of : RequestKind → SpellingValue
spelling_of Definition = record { edge = codes "textDocument/definition"; result = codes "definitionResult"; profile = One }
spelling_of References = record { edge = codes "textDocument/references"; result = codes "referenceResult"; profile = One }
spelling_of Hover = record { edge = codes "textDocument/hover"; result = codes "hoverResult"; profile = One }
spelling_of Declaration = record { edge = codes "textDocument/declaration"; result = codes "declarationResult"; profile = Two }
spelling_of Implementation = record { edge = codes "textDocument/implementation"; result = codes "implementationResult"; profile = Two }

-- all kinds
abbrev pub kinds : List RequestKind
kinds = Definition ∷ References ∷ Hover ∷ Declaration ∷ Implementation ∷ []

-- the number of a kind, from 0
abbrev pub kind_number : RequestKind → ℕ
kind_number Definition = 0
kind_number References = 1
kind_number Hover = 2
kind_number Declaration = 3
kind_number Implementation = 4

abbrev pub same_kind : RequestKind → RequestKind → Bool
same_kind j k = nat_eq (kind_number j) (kind_number k)

-- a profile reads the labels of the kinds that have it, or one before it, as their least
abbrev pub is_read : Profile → RequestKind → Bool
is_read profile kind = nat_le (profile_number (spelling_of kind).profile) (profile_number profile)

-- the kind of which edges with this label name results, in a profile
abbrev pub named_by_edge : Profile → List ℕ → Option RequestKind
named_by_edge profile label = find (λ kind. is_read profile kind && bytes_eq label (spelling_of kind).edge) kinds

-- the kind of which vertices with this label are results, in a profile
abbrev pub named_by_vertex : Profile → List ℕ → Option RequestKind
named_by_vertex profile label = find (λ kind. is_read profile kind && bytes_eq label (spelling_of kind).result) kinds

-- ---- what they are answered by

-- the request is answered by places; one for hovers is by a text
abbrev pub gives_places : RequestKind → Bool
gives_places kind = not (same_kind kind Hover)

-- the request asks for each use of a symbol, and not for its definitions alone
abbrev pub asks_for_uses : RequestKind → Bool
asks_for_uses kind = same_kind kind References

-- ---- how they join dumps

abbrev pub is_import : MonikerKind → Bool
is_import Import = true
is_import Export = false
is_import Local = false

abbrev pub is_export : MonikerKind → Bool
is_export Import = false
is_export Export = true
is_export Local = false

-- the kinds of marks by which a request goes on to other projects
abbrev pub follows : RequestKind → MonikerKind → Bool
follows References kind = is_import kind || is_export kind
follows request kind = is_import kind

-- the kinds of marks that it looks for there
abbrev pub finds : RequestKind → MonikerKind → Bool
finds References kind = is_import kind || is_export kind
finds request kind = is_export kind

-- ---- the same of the program's values

abbrev pub spelling_value : Spelling → SpellingValue
spelling_value s = record { edge = s.edge.now; result = s.result.now; profile = s.profile }
