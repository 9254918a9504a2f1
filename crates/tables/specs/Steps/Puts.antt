-- What the statements of a transaction change.
use Rattle.std.specs.Prelude.{◌≡◌, ◌≢◌, ◌⊎◌, ◌↔◌, ℕ, ℤ, IsTrue, List, ◌∷◌}
use Rattle.std.specs.List.{AllByRecursion}
use Rattle.sqlite_value.specs.Order.{Row}
use Rattle.sqlite_value.specs.declared.value.Value.TheVariants.{Int}
use Rattle.sqlite_trees.specs.Tree.{Trees}
use Rattle.sqlite_rules.specs.Lists.{Has}
use Rattle.sqlite.specs.State.{State}
use Rattle.tables.specs.Schema.{schema_two}
use Rattle.tables.specs.Databases.{Holds, AllOrdered}

-- the transaction goes on, and the tables are those of format 2
pub record GoesOn (old new : State) : Type 0 where
  pub schema : new.now.schema ≡ schema_two
  pub inside : IsTrue new.in_transaction
  pub committed : new.committed ≡ old.committed

-- the row is there beside those that were there, and the other tables are as they were
pub record Puts (tree : ℕ) (id : ℤ) (values : Row) (old new : Trees) : Type 0 where
  pub rows : (row : Row) → Has (new tree) row ↔ ((row ≡ Int id ∷ values) ⊎ Has (old tree) row)
  pub others : AllByRecursion (λ t. t.tree ≢ tree → new t.tree ≡ old t.tree) schema_two.tables
  pub ordered : AllOrdered schema_two old → AllOrdered schema_two new

-- the rows of the list are there beside those that were there, and the other tables are as they
-- were
pub record PutsAll (tree : ℕ) (list : List Row) (old new : Trees) : Type 0 where
  pub rows : (row : Row) → Holds new tree row ↔ (Has list row ⊎ Holds old tree row)
  pub others : AllByRecursion (λ t. t.tree ≢ tree → new t.tree ≡ old t.tree) schema_two.tables
  pub ordered : AllOrdered schema_two old → AllOrdered schema_two new

-- inside a transaction, the tables go from the ones to the others by this step
abbrev pub Steps : (Trees → Trees → Type 0) → State → State → Type 0
Steps R old new = GoesOn old new × R old.now.trees new.now.trees

-- one step and then another
abbrev pub Then : (Trees → Trees → Type 0) → (Trees → Trees → Type 0) → Trees → Trees → Type 0
Then First Second old new = (mid : Trees) × First old mid × Second mid new
