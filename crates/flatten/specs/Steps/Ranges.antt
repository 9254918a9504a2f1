-- The ranges that documents contain, as the pass over the elements finds them.
use Rattle.std.specs.Prelude.{◌≡◌, ℕ, List, [], ◌∷◌, map, Option, Some, None}
use Rattle.std.specs.List.{All, flat_map}
use Rattle.lsif.specs.Element.{IdValue, range, ElementValue, vertex, edge}
use Rattle.dump.specs.Places.{IsAt}
use Rattle.flatten.specs.Flat.{AreResults, RangeRowValue, number_of}
use Rattle.flatten.specs.Steps.Tables.{container_uri}

abbrev pub line_with : Option ℕ → Option (List ℕ) → List ℕ
line_with (Some n) (Some uri) = n ∷ []
line_with (Some n) None = []
line_with None uri = []

-- where the element is a range that a document contains: its line
abbrev pub range_lines : List ElementValue → ElementValue → List ℕ
range_lines elements (vertex i (range span)) = line_with (number_of elements i) (container_uri elements i)
range_lines elements (vertex i v) = []
range_lines elements (edge i e) = []

-- the row of a range that a document contains, whatever its parent is
pub record IsFoundRange (elements : List ElementValue) (row : RangeRowValue) : Type 0 where
  pub range : IdValue
  pub at_line : number_of elements range ≡ Some row.line
  pub is_at : IsAt elements range row.place
  pub are_results : AreResults elements range row.results

-- they are those of the dump, in the order of its elements
pub record AreFoundRanges (elements : List ElementValue) (rows : List RangeRowValue) : Type 0 where
  pub lines : map (λ r. r.line) rows ≡ flat_map (range_lines elements) elements
  pub each : All (IsFoundRange elements) rows
