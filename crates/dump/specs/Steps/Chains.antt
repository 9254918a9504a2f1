-- Shortcuts along chains of `next` edges.
use Rattle.std.specs.Prelude.{◌≡◌, ℕ, List, [], ◌∷◌, Option, Some, None, length, get_or}
use Rattle.std.specs.List.{position}
use Rattle.lsif.specs.Element.{IdValue, ElementValue}
use Rattle.dump.specs.declared.single.SingleLabel.TheVariants.{Next}
use Rattle.dump.specs.Steps.Tables.{has_id}
use Rattle.dump.specs.Walks.{Pair, Path, first_to, single_in}

-- the index of the element of an id
abbrev pub index_in : List ElementValue → IdValue → Option ℕ
index_in d i = position (has_id i) d

-- there is an element at this index, and it's the first of its id
abbrev pub IsIndexIn : List ElementValue → ℕ → Type 0
IsIndexIn d k = (i : IdValue) × (index_in d i ≡ Some k)

-- a shortcut from a vertex leads to one that a path goes to from what the vertex is joined to;
-- there is none where it's joined to nothing
abbrev pub Shortens : List Pair → List ElementValue → IdValue → Option ℕ → Type 0
Shortens pairs d i None = first_to pairs i ≡ None
Shortens pairs d i (Some s) = (y z : IdValue) × (first_to pairs i ≡ Some y) × Path pairs y z × (index_in d z ≡ Some s)

-- each element has its shortcut, or has none
pub record HasShortcuts (pairs : List Pair) (d : List ElementValue) (shortcuts : List (Option ℕ)) : Type 0 where
  pub length : length shortcuts ≡ length d
  pub each : (i : IdValue) (k : ℕ) → index_in d i ≡ Some k → Shortens pairs d i (get_or shortcuts k None)

-- a path goes from the vertex at an index to that at the end, which no edge leaves
pub record IsEnd (pairs : List Pair) (d : List ElementValue) (k end_index : ℕ) : Type 0 where
  pub start : IdValue
  pub last : IdValue
  pub is_start : index_in d start ≡ Some k
  pub is_last : index_in d last ≡ Some end_index
  pub path : Path pairs start last
  pub none : first_to pairs last ≡ None

-- an edge from the vertex at an index, which none leaves, to that at another
pub record CanJoin (pairs : List Pair) (d : List ElementValue) (from to : ℕ) : Type 0 where
  pub source : IdValue
  pub target : IdValue
  pub is_source : index_in d source ≡ Some from
  pub is_target : index_in d target ≡ Some to
  pub none : first_to pairs source ≡ None

-- the indices of the source and the target of a `next` edge
abbrev pub JoinsIndices : List ElementValue → ElementValue → Option (ℕ × ℕ) → Type 0
JoinsIndices d x (Some p) = (a b : IdValue) × (single_in Next x ≡ (a, b) ∷ []) × (index_in d a ≡ Some p.0) × (index_in d b ≡ Some p.1)
JoinsIndices d x None = single_in Next x ≡ []
