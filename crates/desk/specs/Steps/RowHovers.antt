-- What answers a hover query, by rows that selections give.
use Rattle.std.specs.Prelude.{◌≡◌, ◌≢◌, ◌⊎◌, ℕ, List, Option, Some, None}
use Rattle.std.specs.declared.cmp.Ordering.{Ordering}
use Rattle.std.specs.declared.cmp.Ordering.TheVariants.{Greater}
use Rattle.std.specs.Ordering.{nat_cmp, ordering_then}
use Rattle.lsif.specs.declared.request_kind.RequestKind.TheVariants.{Hover}
use Rattle.machine.specs.State.{State}
use Rattle.machine.specs.Projects.{text_cmp}
use Rattle.machine.specs.Selections.{FindsHover, RangeFound}
use Rattle.desk.specs.Steps.Rows.{IsRowJoined, JoinedValue}

-- by project, then by line, then by number
abbrev pub joined_cmp : JoinedValue → JoinedValue → Ordering
joined_cmp a b = ordering_then (text_cmp a.project b.project) (ordering_then (nat_cmp a.line b.line) (nat_cmp a.number b.number))

-- the first of those of which this holds, in this order, where there is one
abbrev pub IsLeast : (JoinedValue → Type 0) → Option JoinedValue → Type 0
IsLeast P None = (j : JoinedValue) → P j → ⊥
IsLeast P (Some j) = P j × ((k : JoinedValue) → P k → joined_cmp j k ≢ Greater)

-- the contents of the result of the vertex that is joined, where there is one
abbrev pub HasContentsOf : State → Option JoinedValue → Option (List ℕ) → Type 0
HasContentsOf m None contents = contents ≡ None
HasContentsOf m (Some j) contents = FindsHover m j.project j.number contents

-- the contents of the range's own first result; and where it has none, of that of the first vertex
-- that is joined
abbrev pub RowHovers : State → List ℕ → RangeFound → Option (List ℕ) → Type 0
RowHovers m own row contents =
    ((n : ℕ) × (row.result ≡ Some n) × FindsHover m own n contents)
    ⊎ ((row.result ≡ None) × ((least : Option JoinedValue) × IsLeast (IsRowJoined m Hover own row) least × HasContentsOf m least contents))
