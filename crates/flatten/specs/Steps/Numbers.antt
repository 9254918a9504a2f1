-- Pairs of vertices by their numbers, as the walks of dumps gather them.
use Rattle.std.specs.Prelude.{ℕ, List, [], ◌∷◌, Option, Some, None}
use Rattle.std.specs.List.{flat_map}
use Rattle.lsif.specs.Element.{ElementValue}
use Rattle.dump.specs.Walks.{Pair}
use Rattle.flatten.specs.Flat.{number_of}

-- both numbers, where each is known
abbrev pub both_numbers : Option ℕ → Option ℕ → Option (ℕ × ℕ)
both_numbers (Some i) (Some j) = Some (i, j)
both_numbers (Some i) None = None
both_numbers None j = None

abbrev pub one_or_none : {X : Type 0} → Option X → List X
one_or_none (Some x) = x ∷ []
one_or_none None = []

-- the numbers of a pair of ids, where each has one
abbrev pub numbers_of_pair : List ElementValue → Pair → List (ℕ × ℕ)
numbers_of_pair elements p = one_or_none (both_numbers (number_of elements p.0) (number_of elements p.1))

-- the numbers of the pairs of ids that an element says
abbrev pub pairs_in : (ElementValue → List Pair) → List ElementValue → ElementValue → List (ℕ × ℕ)
pairs_in pairs elements x = flat_map (numbers_of_pair elements) (pairs x)

abbrev pub pairs_of : (ElementValue → List Pair) → List ElementValue → List (ℕ × ℕ)
pairs_of pairs elements = flat_map (pairs_in pairs elements) elements
