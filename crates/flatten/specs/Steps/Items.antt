-- The places of results, as the walk by numbers gathers them.
use Rattle.std.specs.Prelude.{◌≡◌, ◌↔◌, ◌==◌, ◌++◌, ℕ, Bool, true, false, List, [], map, filter, Option, Some, None, Contains, IsPermutation, if◌then◌else◌, option_map}
use Rattle.std.specs.List.{All, flat_map}
use Rattle.std.specs.List.Sorted.{IsNonDecreasingBy}
use Rattle.lsif.specs.declared.element.Property.{Property}
use Rattle.lsif.specs.Element.{item, ElementValue, vertex, edge}
use Rattle.dump.specs.Places.{IsListing, PlaceValue, result_pairs_of, role_of}
use Rattle.dump.specs.Walks.{Pair, Path}
use Rattle.dump.specs.declared.role.Role.{Role}
use Rattle.dump.specs.declared.role.Role.TheVariants.{Definitions, References}
use Rattle.flatten.specs.Flat.{ItemRowValue, is_result, item_cmp, number_of}
use Rattle.flatten.specs.Steps.Numbers.{one_or_none, pairs_of}
use Rattle.flatten.specs.Steps.Places.{IsNumbered, by_numbers, place_value, placed_value, twice}
use Rattle.flatten.specs.Steps.Tables.{place_of}
use Rattle.flatten.specs.declared.places.Place.{Place}
use Rattle.flatten.specs.declared.items.FoundItem.{FoundItem}
use Rattle.flatten.specs.declared.items.Items.{Items}

-- the number, where it's asked for
abbrev pub number_if : Bool → Option ℕ → Option ℕ
number_if true number = number
number_if false number = None

-- the number of a result that `item` edges leave
abbrev pub result_number : List ElementValue → ElementValue → Option ℕ
result_number elements (vertex i v) = number_if (is_result (Some v)) (number_of elements i)
result_number elements (edge i e) = None

abbrev pub numbers_in : List ElementValue → ElementValue → List ℕ
numbers_in elements x = one_or_none (result_number elements x)

abbrev pub same_role : Role → Role → Bool
same_role Definitions Definitions = true
same_role References References = true
same_role a b = false

abbrev pub has_role : Role → Option Role → Bool
has_role role (Some r) = same_role r role
has_role role None = false

-- an `item` edge of this property has ranges of the role
abbrev pub is_role : Role → Option Property → Bool
is_role role property = has_role role (role_of property)

-- the results and the ranges that an `item` edge of the role joins
abbrev pub item_pairs_of : Role → ElementValue → List Pair
item_pairs_of role (edge i (item e)) = if is_role role e.property then map (λ to. (e.source, to)) e.targets else []
item_pairs_of role (edge i e) = []
item_pairs_of role (vertex i v) = []

-- both, where each is known
abbrev pub with_places : Option ℕ → Option (PlaceValue × PlaceValue) → Option (ℕ × (PlaceValue × PlaceValue))
with_places (Some number) (Some places) = Some (number, places)
with_places (Some number) None = None
with_places None places = None

-- the number of the first with the place of the second, by its span and by its numbers, where each
-- has one
abbrev pub placed_of_pair : List ElementValue → Pair → List (ℕ × (PlaceValue × PlaceValue))
placed_of_pair elements p = one_or_none (with_places (number_of elements p.0) (option_map twice (place_of elements p.1)))

-- the numbers of results, and the places of ranges, that an `item` edge of the role joins
abbrev pub placed_in : Role → List ElementValue → ElementValue → List (ℕ × (PlaceValue × PlaceValue))
placed_in role elements x = flat_map (placed_of_pair elements) (item_pairs_of role x)

abbrev pub placed_by : Role → List ElementValue → List (ℕ × (PlaceValue × PlaceValue))
placed_by role elements = flat_map (placed_in role elements) elements

abbrev pub items_by : Role → Items → List (ℕ × Place)
items_by Definitions items = items.definitions.now
items_by References items = items.references.now

-- the results and the items are in the order of the results
pub record AreSorted (items : Items) : Type 0 where
  pub results : IsNonDecreasingBy (λ p. p.0) items.results.now
  pub each : (role : Role) → IsNonDecreasingBy (λ p. p.0) (items_by role items)

-- each place has the numbers of its span
abbrev pub AreNumbered : Items → Type 0
AreNumbered items = (role : Role) → All (λ p. IsNumbered p.1) (items_by role items)

-- they are those of the dump's `item` edges
pub record AreItems (elements : List ElementValue) (items : Items) : Type 0 where
  pub sorted : AreSorted items
  pub numbered : AreNumbered items
  pub results : IsPermutation (pairs_of result_pairs_of elements) items.results.now
  pub each : (role : Role) (p : ℕ × PlaceValue) → Contains (map placed_value (items_by role items)) p ↔ Contains (placed_by role elements) (p.0, twice p.1)

-- ---- the rows that are found

abbrev pub found_value : FoundItem → ItemRowValue
found_value f = record { result = f.result; role = f.role; place = place_value f.place }

-- the row that the numbers of the place say
abbrev pub numbers_value : FoundItem → ItemRowValue
numbers_value f = record { result = f.result; role = f.role; place = by_numbers f.place }

-- the place of each row has the numbers of its span
abbrev pub AreNumberedRows : List FoundItem → Type 0
AreNumberedRows rows = All (λ f. IsNumbered f.place) rows

-- the row of a result of this number for an item
abbrev pub row_of : ℕ → Role → ℕ × Place → ItemRowValue
row_of number role p = record { result = number; role = role; place = place_value p.1 }

-- the rows of a result for the items of another one in a role
abbrev pub rows_of_role : ℕ → Role → Items → ℕ → List ItemRowValue
rows_of_role number role items other = map (row_of number role) (filter (λ p. p.0 == other) (items_by role items))

-- the row of the result of this number for an item of one that it leads to
pub record IsReachedRow (number : ℕ) (items : Items) (row : ItemRowValue) : Type 0 where
  pub other : ℕ
  pub is_number : row.result ≡ number
  pub reached : Path items.results.now number other
  pub joined : Contains (map placed_value (items_by row.role items)) (other, row.place)

-- the listing of the rows with the property was added
pub record AddsListing (P : ItemRowValue → Type 0) (old new : List ItemRowValue) : Type 0 where
  pub more : List ItemRowValue
  pub listed : IsListing item_cmp P more
  pub grown : new ≡ old ++ more
