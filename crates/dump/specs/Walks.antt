-- Paths and chains over the pairs of vertices that edges of one label join (LSIF 0.6.0, "next": a
-- request that a range or a result set doesn't answer is forwarded along the `next` edge).
use Rattle.std.specs.Prelude.{◌≡◌, Bool, true, false, List, [], ◌∷◌, if◌then◌else◌, ◌||◌, ◌&&◌, Option, Some, None, Contains}
use Rattle.std.specs.List.{flat_map}
use Rattle.lsif.specs.Element.{IdValue, same_id, next, request_edge, package_edge, ElementValue, vertex, edge}
use Rattle.lsif.specs.RequestKinds.{same_kind}
use Rattle.dump.specs.declared.single.SingleLabel.{SingleLabel}
use Rattle.dump.specs.declared.single.SingleLabel.TheVariants.{Next, PackageInformation, Request}

abbrev pub Pair : Type 0
Pair = IdValue × IdValue

abbrev pub same_label : SingleLabel → SingleLabel → Bool
same_label Next Next = true
same_label PackageInformation PackageInformation = true
same_label (Request j) (Request k) = same_kind j k
same_label a b = false

-- an edge of a label that leaves a vertex once at most: the label, and the source with the target
abbrev pub single_of : ElementValue → Option (SingleLabel × Pair)
single_of (edge i (next from to)) = Some (Next, (from, to))
single_of (edge i (request_edge kind from to)) = Some (Request kind, (from, to))
single_of (edge i (package_edge from to)) = Some (PackageInformation, (from, to))
single_of (edge i e) = None
single_of (vertex i v) = None

-- the source and the target of an edge of this label
abbrev pub single_in : SingleLabel → ElementValue → List Pair
single_in label x = elim (single_of x) as (λ _. List Pair) [ Some e ↦ if same_label e.0 label then e.1 ∷ [] else [] | None ↦ [] ]

-- the sources and the targets of the edges of this label
abbrev pub single_pairs : SingleLabel → List ElementValue → List Pair
single_pairs label elements = flat_map (single_in label) elements

abbrev pub next_pairs : List ElementValue → List Pair
next_pairs elements = single_pairs Next elements

-- what a vertex is joined to by the first pair out of it
abbrev pub first_to : List Pair → IdValue → Option IdValue
first_to [] x = None
first_to (p ∷ ps) x = if same_id p.0 x then Some p.1 else first_to ps x

-- a path of these pairs, of no step or more
pub data Path {X : Type 0} (pairs : List (X × X)) (from : X) : X → Type 0 where
  stays : Path pairs from from
  goes : {y : X} (z : X) → Path pairs from y → Contains pairs (y, z) → Path pairs from z

-- there is a path: one without the first pair, or one up to it and one on from it
abbrev pub reaches : List Pair → IdValue → IdValue → Bool
reaches [] x y = same_id x y
reaches (p ∷ ps) x y = reaches ps x y || (reaches ps x p.0 && reaches ps p.1 y)

-- the vertex, and then what the pairs lead to, one after the other
pub data IsChain (pairs : List Pair) : IdValue → List IdValue → Type 0 where
  ends : {x : IdValue} → first_to pairs x ≡ None → IsChain pairs x (x ∷ [])
  links : {x y : IdValue} {ys : List IdValue} → first_to pairs x ≡ Some y → IsChain pairs y ys → IsChain pairs x (x ∷ ys)

abbrev pub HasChain : List Pair → IdValue → Type 0
HasChain pairs x = (xs : List IdValue) × IsChain pairs x xs

-- what the first member of a list that has one is joined to
abbrev pub first_of_list : List Pair → List IdValue → Option IdValue
first_of_list pairs [] = None
first_of_list pairs (x ∷ xs) = elim (first_to pairs x) as (λ _. Option IdValue) [ Some r ↦ Some r | None ↦ first_of_list pairs xs ]
