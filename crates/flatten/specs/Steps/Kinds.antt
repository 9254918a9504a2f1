-- The elements of a dump, kind by kind, and what they say by numbers.
use Rattle.std.specs.Borrow.{Bor}
use Rattle.std.specs.Prelude.{◌≡◌, ◌++◌, Bool, true, false, List, [], ◌∷◌, map, filter, Ok}
use Rattle.lsif.specs.declared.element.Element.{Element}
use Rattle.lsif.specs.Element.{document, range, moniker_edge, attach, ElementValue, vertex, edge, element_value}
use Rattle.dump.specs.Fault.{IsFaultless}
use Rattle.dump.specs.Places.{result_pairs_of}
use Rattle.dump.specs.declared.role.Role.TheVariants.{Definitions, References}
use Rattle.std.specs.List.{flat_map}
use Rattle.flatten.specs.Steps.Items.{numbers_in, placed_by, placed_in}
use Rattle.flatten.specs.Steps.Numbers.{pairs_in, pairs_of}
use Rattle.flatten.specs.Steps.Places.{placed_values}
use Rattle.flatten.specs.declared.kinds.Gathered.{Gathered}
use Rattle.flatten.specs.declared.kinds.Kinds.{Kinds}

abbrev pub said : Bor Element → ElementValue
said e = element_value e.now

abbrev pub is_document : ElementValue → Bool
is_document (vertex i (document uri)) = true
is_document (vertex i v) = false
is_document (edge i e) = false

abbrev pub is_range : ElementValue → Bool
is_range (vertex i (range span)) = true
is_range (vertex i v) = false
is_range (edge i e) = false

-- an edge `moniker` or `attach`
abbrev pub is_moniker_edge : ElementValue → Bool
is_moniker_edge (edge i (moniker_edge from to)) = true
is_moniker_edge (edge i (attach from to)) = true
is_moniker_edge (edge i e) = false
is_moniker_edge (vertex i v) = false

abbrev pub kept : Bool → ElementValue → List ElementValue
kept true x = x ∷ []
kept false x = []

-- the list has the elements that pass, in their order
abbrev pub AreThose : (ElementValue → Bool) → List ElementValue → List (Bor Element) → Type 0
AreThose is elements list = map said list ≡ filter is elements

-- each list has the elements of its kind, and the dump has no fault
pub record AreKinds (kinds : Kinds) : Type 0 where
  pub faultless : IsFaultless (map Ok kinds.dump.now.elements)
  pub documents : AreThose is_document kinds.dump.now.elements kinds.documents.items
  pub ranges : AreThose is_range kinds.dump.now.elements kinds.ranges.items
  pub results : kinds.results.items ≡ flat_map (numbers_in kinds.dump.now.elements) kinds.dump.now.elements
  pub moniker_edges : AreThose is_moniker_edge kinds.dump.now.elements kinds.moniker_edges.items
  pub result_pairs : kinds.result_pairs.items ≡ pairs_of result_pairs_of kinds.dump.now.elements
  pub definitions : map placed_values kinds.definitions.items ≡ placed_by Definitions kinds.dump.now.elements
  pub references : map placed_values kinds.references.items ≡ placed_by References kinds.dump.now.elements

-- the element was added to the list of its kind, and what it says by numbers
pub record Takes (old : Kinds) (x : ElementValue) (new : Kinds) : Type 0 where
  pub documents : map said new.documents.items ≡ map said old.documents.items ++ kept (is_document x) x
  pub ranges : map said new.ranges.items ≡ map said old.ranges.items ++ kept (is_range x) x
  pub results : new.results.items ≡ old.results.items ++ numbers_in old.dump.now.elements x
  pub moniker_edges : map said new.moniker_edges.items ≡ map said old.moniker_edges.items ++ kept (is_moniker_edge x) x
  pub result_pairs : new.result_pairs.items ≡ old.result_pairs.items ++ pairs_in result_pairs_of old.dump.now.elements x
  pub definitions : map placed_values new.definitions.items ≡ map placed_values old.definitions.items ++ placed_in Definitions old.dump.now.elements x
  pub references : map placed_values new.references.items ≡ map placed_values old.references.items ++ placed_in References old.dump.now.elements x

-- the lists before the first element
pub record HasNone (gathered : Gathered) : Type 0 where
  pub documents : gathered.kinds.documents.items ≡ []
  pub kept_ranges : gathered.kinds.ranges.items ≡ []
  pub results : gathered.kinds.results.items ≡ []
  pub moniker_edges : gathered.kinds.moniker_edges.items ≡ []
  pub result_pairs : gathered.kinds.result_pairs.items ≡ []
  pub definitions : gathered.kinds.definitions.items ≡ []
  pub references : gathered.kinds.references.items ≡ []
  pub hovers : gathered.hovers.items ≡ []
  pub ranges : gathered.ranges.items ≡ []
  pub intervals : gathered.intervals.items ≡ []
