-- What a request at a vertex or at a position is answered by (LSIF 0.6.0, "Request": a range or
-- result set names a result by an edge of the request's label, or forwards the request along
-- `next`).
use Rattle.std.specs.Prelude.{◌≡◌, ◌≢◌, ◌↔◌, ◌⊎◌, ℕ, true, List, [], ◌∷◌, Option, Some, None, Contains}
use Rattle.std.specs.List.{AllPairs}
use Rattle.positions.specs.Position.{PositionValue}
use Rattle.positions.specs.Span.{SpanValue, Nests}
use Rattle.lsif.specs.Element.{IdValue, ElementValue}
use Rattle.lsif.specs.RequestKinds.{follows}
use Rattle.lsif.specs.declared.request_kind.RequestKind.{RequestKind}
use Rattle.lsif.specs.declared.request_kind.RequestKind.TheVariants as requests
use Rattle.dump.specs.declared.role.Role.{Role}
use Rattle.dump.specs.declared.role.Role.TheVariants as roles
use Rattle.dump.specs.declared.single.SingleLabel.TheVariants.{Request}
use Rattle.dump.specs.Monikers.{MarkValue, Marks}
use Rattle.dump.specs.Places.{IsCovering}
use Rattle.dump.specs.Walks.{IsChain, first_of_list, single_pairs, next_pairs}

-- ---- at a vertex

-- the first result of the vertex: that of the first member of its chain that has one
abbrev pub First : RequestKind → List ElementValue → IdValue → Option IdValue → Type 0
First request elements x result =
    (xs : List IdValue) × IsChain (next_pairs elements) x xs × (result ≡ first_of_list (single_pairs (Request request) elements) xs)

-- the roles of the places that it asks for
abbrev pub roles_of : RequestKind → List Role
roles_of requests.References = roles.Definitions ∷ roles.References ∷ []
roles_of request = roles.Definitions ∷ []

-- the vertex has a result for the request, or a mark by which it goes on to other projects
abbrev pub Speaks : RequestKind → List ElementValue → IdValue → Type 0
Speaks request elements x =
    ((result : IdValue) × First request elements x (Some result))
    ⊎ ((mark : MarkValue) × Marks elements x mark × (follows request mark.kind ≡ true))

-- ---- at a position

-- a range and its span
pub record RangeValue : Type 0 where
  pub id : IdValue
  pub span : SpanValue

-- the first span lies in the second and isn't equal to it
abbrev pub IsWithin : SpanValue → SpanValue → Type 0
IsWithin s t = Nests s t × (s ≢ t)

-- the ranges of the document of this uri that cover the position, the smallest first
pub record Cover (elements : List ElementValue) (uri : List ℕ) (position : PositionValue) (ranges : List RangeValue) : Type 0 where
  pub rises : AllPairs (λ (r s : RangeValue). IsWithin r.span s.span) ranges
  pub each : (r : RangeValue) → Contains ranges r ↔ IsCovering elements uri position r.id r.span

-- the first member of a list that has a property, where one has it
pub data IsFirst {X : Type 0} (P : X → Type 0) : List X → Option X → Type 0 where
  nobody : IsFirst P [] None
  here : {x : X} {xs : List X} → P x → IsFirst P (x ∷ xs) (Some x)
  later : {x : X} {xs : List X} {found : Option X} → (P x → ⊥) → IsFirst P xs found → IsFirst P (x ∷ xs) found

-- the range that answers the request: the smallest that covers the position and has an answer
abbrev pub Pick : RequestKind → List ElementValue → List ℕ → PositionValue → Option RangeValue → Type 0
Pick request elements uri position picked =
    (ranges : List RangeValue) × Cover elements uri position ranges × IsFirst (λ (r : RangeValue). Speaks request elements r.id) ranges picked
