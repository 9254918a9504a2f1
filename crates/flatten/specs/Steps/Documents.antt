-- The rows of documents and hover results, as the loop over the elements gathers them.
use Rattle.std.specs.Prelude.{ℕ, List, [], ◌∷◌, Option, Some, None}
use Rattle.lsif.specs.Element.{document, hover_result, ElementValue, vertex, edge}
use Rattle.flatten.specs.Flat.{HoverRowValue, number_of}

abbrev pub documents_in : ElementValue → List (List ℕ)
documents_in (vertex i (document uri)) = uri ∷ []
documents_in (vertex i v) = []
documents_in (edge i e) = []

abbrev pub hover_with : List ℕ → Option ℕ → List HoverRowValue
hover_with contents (Some number) = record { result = number; contents = contents } ∷ []
hover_with contents None = []

abbrev pub hovers_in : List ElementValue → ElementValue → List HoverRowValue
hovers_in elements (vertex i (hover_result contents)) = hover_with contents (number_of elements i)
hovers_in elements (vertex i v) = []
hovers_in elements (edge i e) = []
