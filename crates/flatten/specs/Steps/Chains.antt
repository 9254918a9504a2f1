-- What vertices have along their chains, as the walk finds it.
use Rattle.std.specs.Prelude.{◌≡◌, ◌==◌, ℕ, Bool, false, List, [], ◌∷◌, Option, Some, None, map, option_and_then, option_map, if◌then◌else◌, reverse, Contains}
use Rattle.std.specs.List.{list_any}
use Rattle.std.specs.Option.{option_or}
use Rattle.std.specs.List.Sorted.{IsNonDecreasingBy}
use Rattle.lsif.specs.Element.{IdValue, id_value, ElementValue}
use Rattle.dump.specs.declared.single.SingleLabel.TheVariants.{Request}
use Rattle.lsif.specs.declared.request_kind.RequestKind.{RequestKind}
use Rattle.dump.specs.Walks.{IsChain, first_to, next_pairs, single_pairs}
use Rattle.flatten.specs.Flat.{ResultsValue, number_of}
use Rattle.flatten.specs.Rows.{results_value}
use Rattle.flatten.specs.declared.chains.Along.{Along}
use Rattle.flatten.specs.declared.chains.Chains.{Chains}
use Rattle.flatten.specs.declared.chains.VertexAlong.{VertexAlong}

pub record AlongValue : Type 0 where
  pub results : ResultsValue
  pub bearer : Option IdValue

abbrev pub along_value : Along → AlongValue
along_value a = record {
  results = results_value a.results;
  bearer = option_map (λ i. id_value i.now) a.bearer;
}

abbrev pub nothing : AlongValue
nothing = record { results = λ kind. None; bearer = None }

abbrev pub or_later : AlongValue → AlongValue → AlongValue
or_later a b = record {
  results = λ kind. option_or (a.results kind) (b.results kind);
  bearer = option_or a.bearer b.bearer;
}

-- a pair of these has the number as its source
abbrev pub is_source : List (ℕ × ℕ) → Option ℕ → Bool
is_source pairs (Some n) = list_any (λ p. p.0 == n) pairs
is_source pairs None = false

-- the vertex is the source of a pair of these
abbrev pub is_bearing : List ElementValue → List (ℕ × ℕ) → IdValue → Bool
is_bearing elements borne x = is_source borne (number_of elements x)

abbrev pub own_result : List ElementValue → RequestKind → IdValue → Option IdValue
own_result elements request x = first_to (single_pairs (Request request) elements) x

-- the number of the request's result of the vertex itself
abbrev pub own_number : List ElementValue → RequestKind → IdValue → Option ℕ
own_number elements request x = option_and_then (number_of elements) (own_result elements request x)

abbrev pub own_bearer : List ElementValue → List (ℕ × ℕ) → IdValue → Option IdValue
own_bearer elements borne x = if is_bearing elements borne x then Some x else None

-- what the vertex itself has
abbrev pub own_of : List ElementValue → List (ℕ × ℕ) → IdValue → AlongValue
own_of elements borne x = record {
  results = λ kind. own_number elements kind x;
  bearer = own_bearer elements borne x;
}

-- what the first member of a list that has something has
abbrev pub first_by : {X : Type 0} → (IdValue → Option X) → List IdValue → Option X
first_by own [] = None
first_by own (x ∷ xs) = option_or (own x) (first_by own xs)

abbrev pub firsts_by : List ElementValue → List (ℕ × ℕ) → List IdValue → AlongValue
firsts_by elements borne xs = record {
  results = λ kind. first_by (own_number elements kind) xs;
  bearer = first_by (own_bearer elements borne) xs;
}

-- what the vertex has along its chain
abbrev pub AreAlong : List ElementValue → List (ℕ × ℕ) → IdValue → AlongValue → Type 0
AreAlong elements borne x along = (xs : List IdValue) × IsChain (next_pairs elements) x xs × (along ≡ firsts_by elements borne xs)

-- ---- what is found

-- the number of a vertex, and what it has along its chain
pub record VertexAlongValue : Type 0 where
  pub vertex : ℕ
  pub along : AlongValue

abbrev pub vertex_along_value : VertexAlong → VertexAlongValue
vertex_along_value v = record { vertex = v.vertex; along = along_value v.along }

-- what is found is so
abbrev pub AreFound : List ElementValue → List (ℕ × ℕ) → List VertexAlongValue → Type 0
AreFound elements borne found =
    (v : VertexAlongValue) (x : IdValue) → Contains found v → number_of elements x ≡ Some v.vertex → AreAlong elements borne x v.along

-- the pairs are in the order of their sources, and what is found is so
pub record AreChains (chains : Chains) : Type 0 where
  pub sorted : IsNonDecreasingBy (λ p. p.0) chains.borne.items
  pub found : AreFound chains.dump.now.elements chains.borne.items (map vertex_along_value chains.found.items)

-- ---- a walk

-- what follows the vertex in its chain has this
abbrev pub IsAfter : List ElementValue → List (ℕ × ℕ) → Option IdValue → AlongValue → Type 0
IsAfter elements borne (Some y) along = AreAlong elements borne y along
IsAfter elements borne None along = along ≡ nothing

-- `next` edges lead along these, of which the last comes first, from the first vertex to this one
abbrev pub Leads : List ElementValue → IdValue → IdValue → List IdValue → Type 0
Leads elements from at [] = at ≡ from
Leads elements from at (x ∷ path) = (first_to (next_pairs elements) x ≡ Some at) × Leads elements from x path

-- what those after the path have, of which the last comes first
abbrev pub IsWalkBack : List ElementValue → List (ℕ × ℕ) → IdValue → List IdValue → AlongValue → Type 0
IsWalkBack elements borne from [] along = AreAlong elements borne from along
IsWalkBack elements borne from (x ∷ path) along = IsAfter elements borne (first_to (next_pairs elements) x) along × Leads elements from x path

-- a walk from the vertex over these, and what those after them have
abbrev pub IsWalk : List ElementValue → List (ℕ × ℕ) → IdValue → List IdValue → AlongValue → Type 0
IsWalk elements borne from path along = IsWalkBack elements borne from (reverse path) along
