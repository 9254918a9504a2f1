-- What a vertex is known by across projects (LSIF 0.6.0, "Multiple Projects": "moniker", "attach",
-- "packageInformation").
use Rattle.std.specs.Prelude.{◌≡◌, ℕ, List, [], ◌∷◌, Option, Some, None, Contains, option_and_then}
use Rattle.std.specs.List.{flat_map}
use Rattle.lsif.specs.declared.element.MonikerKind.{MonikerKind}
use Rattle.lsif.specs.Element.{IdValue, PackageValue, VertexValue, moniker, package_information, moniker_edge, attach, ElementValue, vertex, edge}
use Rattle.dump.specs.Graph.{vertex_at}
use Rattle.dump.specs.Walks.{Pair, Path, IsChain, first_to, single_pairs, next_pairs}
use Rattle.dump.specs.declared.single.SingleLabel.TheVariants.{PackageInformation}

-- what monikers are compared by: the scheme, the identifier and the package, where there is one.
-- The kind isn't part of it
pub record MonikerKey : Type 0 where
  pub scheme : List ℕ
  pub identifier : List ℕ
  pub «package» : Option PackageValue

-- the kind and the key of a moniker
pub record MarkValue : Type 0 where
  pub kind : MonikerKind
  pub key : MonikerKey

-- ---- the mark of a moniker

abbrev pub package_in : Option VertexValue → Option PackageValue
package_in (Some (package_information p)) = Some p
package_in (Some v) = None
package_in None = None

-- the package that the moniker's `packageInformation` edge names
abbrev pub package_of : List ElementValue → IdValue → Option PackageValue
package_of elements m = option_and_then (λ p. package_in (vertex_at elements p)) (first_to (single_pairs PackageInformation elements) m)

abbrev pub mark_with : Option PackageValue → Option VertexValue → Option MarkValue
mark_with p (Some (moniker m)) = Some (record { kind = m.kind; key = record { scheme = m.scheme; identifier = m.identifier; «package» = p } })
mark_with p (Some v) = None
mark_with p None = None

-- the mark of the moniker of this id
abbrev pub mark_of : List ElementValue → IdValue → Option MarkValue
mark_of elements m = mark_with (package_of elements m) (vertex_at elements m)

-- ---- the marks of a vertex

abbrev pub moniker_pairs_of : ElementValue → List Pair
moniker_pairs_of (edge i (moniker_edge from to)) = (from, to) ∷ []
moniker_pairs_of (edge i e) = []
moniker_pairs_of (vertex i v) = []

-- the ranges and result sets with their monikers
abbrev pub moniker_pairs : List ElementValue → List Pair
moniker_pairs elements = flat_map moniker_pairs_of elements

abbrev pub attach_pairs_of : ElementValue → List Pair
attach_pairs_of (edge i (attach from to)) = (from, to) ∷ (to, from) ∷ []
attach_pairs_of (edge i e) = []
attach_pairs_of (vertex i v) = []

-- the monikers that `attach` edges join, each edge read both ways
abbrev pub attach_pairs : List ElementValue → List Pair
attach_pairs elements = flat_map attach_pairs_of elements

-- `attach` edges lead from one moniker to the other
abbrev pub Near : List ElementValue → IdValue → IdValue → Type 0
Near elements m n = Path (attach_pairs elements) m n

-- a `moniker` edge out of the vertex itself leads to a moniker near one with this mark
abbrev pub Bears : List ElementValue → IdValue → MarkValue → Type 0
Bears elements x mark = (m : IdValue) × (n : IdValue) × Contains (moniker_pairs elements) (x, m) × Near elements m n × (mark_of elements n ≡ Some mark)

-- the vertex, or another member of its chain, has the mark
abbrev pub Marks : List ElementValue → IdValue → MarkValue → Type 0
Marks elements x mark = (xs : List IdValue) × (y : IdValue) × IsChain (next_pairs elements) x xs × Contains xs y × Bears elements y mark
