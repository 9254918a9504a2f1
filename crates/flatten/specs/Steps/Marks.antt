-- The marks of ranges and of bearers, as the walks by numbers gather them.
use Rattle.std.specs.Prelude.{◌≡◌, ◌↔◌, ℕ, List, [], ◌∷◌, Option, Some, None, Contains, get_or}
use Rattle.std.specs.List.{flat_map}
use Rattle.lsif.specs.Element.{IdValue, range as range_vertex, ElementValue, vertex, edge}
use Rattle.dump.specs.Monikers.{MarkValue, Bears}
use Rattle.dump.specs.Walks.{IsChain, first_to, next_pairs}
use Rattle.flatten.specs.Flat.{BearerRowValue, MarkRowValue, number_of}
use Rattle.flatten.specs.KeyTexts.{key_text}
use Rattle.flatten.specs.Steps.Borne.{IsBorne, MarkText, mark_text}
use Rattle.flatten.specs.Steps.Chains.{first_by, own_bearer}
use Rattle.flatten.specs.Steps.Tables.{table_of}

-- the row of the number for the mark, where there is one
abbrev pub mark_of : ℕ → Option MarkText → List MarkRowValue
mark_of number (Some m) = record { range = number; kind = m.kind; key = m.key } ∷ []
mark_of number None = []

abbrev pub marks_of : ℕ → List (Option MarkText) → List (ℕ × ℕ) → List MarkRowValue
marks_of number marks pairs = flat_map (λ p. mark_of number (get_or marks p.1 None)) pairs

-- the row of the number for a mark that the vertex has, by its number
abbrev pub IsMarkOfNumber : List (ℕ × ℕ) → List (Option MarkText) → ℕ → ℕ → MarkRowValue → Type 0
IsMarkOfNumber borne marks number bearer row = (moniker : ℕ) × Contains borne (bearer, moniker) × Contains (mark_of number (get_or marks moniker None)) row

abbrev pub IsMarkOfVertex : List ElementValue → List (ℕ × ℕ) → List (Option MarkText) → ℕ → IdValue → MarkRowValue → Type 0
IsMarkOfVertex elements borne marks number x row = (bearer : ℕ) × (number_of elements x ≡ Some bearer) × IsMarkOfNumber borne marks number bearer row

-- of one of these vertices
abbrev pub IsMarkOfOne : List ElementValue → List (ℕ × ℕ) → List (Option MarkText) → ℕ → List IdValue → MarkRowValue → Type 0
IsMarkOfOne elements borne marks number xs row = (x : IdValue) × Contains xs x × IsMarkOfVertex elements borne marks number x row

-- of a member of the vertex's chain
abbrev pub IsMarkAlong : List ElementValue → List (ℕ × ℕ) → List (Option MarkText) → ℕ → IdValue → MarkRowValue → Type 0
IsMarkAlong elements borne marks number x row = (xs : List IdValue) × IsChain (next_pairs elements) x xs × IsMarkOfOne elements borne marks number xs row

-- of the range that the element is
abbrev pub IsMarkOfRange : List ElementValue → List (ℕ × ℕ) → List (Option MarkText) → ElementValue → MarkRowValue → Type 0
IsMarkOfRange elements borne marks (vertex i (range_vertex span)) row =
    (number : ℕ) × (number_of elements i ≡ Some number) × IsMarkAlong elements borne marks number i row
IsMarkOfRange elements borne marks (vertex i v) row = ⊥
IsMarkOfRange elements borne marks (edge i e) row = ⊥

abbrev pub IsBearerFrom : List ElementValue → List (ℕ × ℕ) → Option IdValue → Option IdValue → Type 0
IsBearerFrom elements borne (Some y) bearer = (xs : List IdValue) × IsChain (next_pairs elements) y xs × (bearer ≡ first_by (own_bearer elements borne) xs)
IsBearerFrom elements borne None bearer = bearer ≡ None

-- the first that has marks, from what follows the vertex in its chain on
abbrev pub IsNextBearer : List ElementValue → List (ℕ × ℕ) → IdValue → Option IdValue → Type 0
IsNextBearer elements borne x bearer = IsBearerFrom elements borne (first_to (next_pairs elements) x) bearer

-- the pairs are those of the vertices with the monikers that they have
abbrev pub AreBorne : List ElementValue → List (ℕ × ℕ) → Type 0
AreBorne elements borne = (p : ℕ × ℕ) → Contains borne p ↔ IsBorne elements p

-- the marks of monikers at their numbers
abbrev pub marks_in : List ElementValue → List (Option MarkText)
marks_in elements = table_of (mark_text elements) elements

-- the row of the first number of a pair for the mark at the second
abbrev pub IsBorneMark : List (ℕ × ℕ) → List (Option MarkText) → MarkRowValue → Type 0
IsBorneMark borne marks row = (p : ℕ × ℕ) × Contains borne p × Contains (mark_of p.0 (get_or marks p.1 None)) row

abbrev pub bearer_mark : BearerRowValue → MarkRowValue
bearer_mark r = record { range = r.line; kind = r.kind; key = r.key }

-- the row is of a mark that its vertex has
pub record IsBorneRow (elements : List ElementValue) (row : MarkRowValue) : Type 0 where
  pub vertex : IdValue
  pub mark : MarkValue
  pub at_line : number_of elements vertex ≡ Some row.range
  pub bears : Bears elements vertex mark
  pub is_kind : mark.kind ≡ row.kind
  pub is_key : key_text mark.key ≡ row.key
