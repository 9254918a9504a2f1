-- Tables from ids to values.
use Rattle.std.specs.Prelude.{◌≡◌, ◌<◌, ℕ, Bool, List, Option, Some, None, nat_lt, get_or, if◌then◌else◌}
use Rattle.std.specs.List.{position}
use Rattle.std.specs.BTreeMap.{get, get_by_text}
use Rattle.std.specs.Ordering.{nat_cmp}
use Rattle.lsif.specs.Element.{IdValue, number, text}
use Rattle.dump.specs.declared.ids.IdMap.{IdMap}
use Rattle.dump.specs.declared.index_map.IndexMap.{IndexMap}

-- what the table has at an id
abbrev pub value_at : {V : Type 0} → IdMap V → IdValue → Option V
value_at table (number n) = get nat_cmp table.numbers n
value_at table (text s) = get_by_text table.texts s

-- the index that the table has at an id: numbers below the bound have a slot each
abbrev pub index_at : IndexMap → IdValue → Option ℕ
index_at table (number n) = if nat_lt n table.bound then get_or table.slots.items n None else value_at table.others (number n)
index_at table (text s) = value_at table.others (text s)

-- the table leads from an id to the index of the first element that passes the id's test, and to
-- none where no element does
abbrev pub IsTable : {X : Type 0} → (IdValue → Option ℕ) → (IdValue → X → Bool) → List X → Type 0
IsTable table test elements = (i : IdValue) → table i ≡ position (test i) elements

-- what a table has at an id after a value was entered there, or wasn't: the first value that was
-- entered stays
abbrev pub entered : {V : Type 0} → Bool → V → Option V → Option V
entered here new (Some old) = Some old
entered here new None = if here then Some new else None

-- the indices are below a bound, and no two ids have the same
pub record HasRows (table : IndexMap) (bound : ℕ) : Type 0 where
  pub below : (i : IdValue) (k : ℕ) → index_at table i ≡ Some k → k < bound
  pub apart : (i j : IdValue) (k : ℕ) → index_at table i ≡ Some k → index_at table j ≡ Some k → i ≡ j
