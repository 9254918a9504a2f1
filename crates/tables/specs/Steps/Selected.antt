-- What a statement selects, and how its rows are read.
use Rattle.std.specs.Prelude.{◌≡◌, ⊤, ℕ, suc, ℤ, IsTrue, List, [], ◌∷◌, map, Option, Some, None, Result, Ok, Err}
use Rattle.std.specs.List.{AllByRecursion}
use Rattle.sqlite_value.specs.declared.value.Value.{Value}
use Rattle.sqlite_value.specs.declared.value.Value.TheVariants.{Int}
use Rattle.sqlite_value.specs.Order.{Row, column}
use Rattle.sqlite_sql.specs.Term.{Term, col}
use Rattle.sqlite_trees.specs.Tree.{Trees}
use Rattle.sqlite_rules.specs.Lists.{Has}
use Rattle.sqlite_schema.specs.declared.schema.Schema.{Schema}
use Rattle.sqlite_resolve.specs.declared.compiled.Compiled.{Compiled}
use Rattle.sqlite_resolve.specs.declared.error.CompileError.{CompileError}
use Rattle.sqlite.specs.Given.{IsPlain}
use Rattle.sqlite.specs.Listing.{understood}
use Rattle.sqlite.specs.State.{State, HasCleanDisk, Survives}
use Rattle.tables.specs.Stands.{IsAsBefore}
use Rattle.tables.specs.Databases.{Holds}
use Rattle.tables.specs.Schema.{schema_two}
use Rattle.tables.specs.Steps.Queries.{same}

-- ---- the text of a selection

-- what the text is understood as has no RETURNING
abbrev pub IsSilent : Result Compiled CompileError → Type 0
IsSilent (Ok c) = c.returning ≡ None
IsSilent (Err e) = ⊤

-- the text is a query of these tables that doesn't read the time; and whatever the tables, it
-- writes nothing
pub record IsQuery (sql : List ℕ) : Type 0 where
  pub plain : IsPlain (understood schema_two sql)
  pub silent : (schema : Schema) → IsSilent (understood schema sql)

-- ---- what a selection leaves

-- Nothing was written, whether rows were found or the store refused: nothing more may be left than
-- before, and where what is committed was shown, it still is.
pub record Looks (old new : State) : Type 0 where
  pub survives : Survives old new (λ _. ⊥)
  pub kept : HasCleanDisk new → IsTrue new.is_open → old.committed ≡ old.now → IsAsBefore old new

-- ---- rows that are read

-- the row has these values from a column on
abbrev pub AreColumns : ℕ → List Value → Row → Type 0
AreColumns at [] row = Unit {0}
AreColumns at (v ∷ vs) row = (column row at ≡ v) × AreColumns (suc at) vs row

-- each value is what one row reads as, in order
abbrev pub AreRead : {X : Type 0} → (X → List Value) → List Row → List X → Type 0
AreRead columns [] [] = Unit {0}
AreRead columns [] (x ∷ xs) = ⊥
AreRead columns (r ∷ rows) [] = ⊥
AreRead columns (r ∷ rows) (x ∷ xs) = AreColumns 0 (columns x) r × AreRead columns rows xs

-- the value is what the first row reads as, where there is a row
abbrev pub IsFirstRead : {X : Type 0} → (X → List Value) → List Row → Option X → Type 0
IsFirstRead columns [] None = Unit {0}
IsFirstRead columns [] (Some x) = ⊥
IsFirstRead columns (r ∷ rows) None = ⊥
IsFirstRead columns (r ∷ rows) (Some x) = AreColumns 0 (columns x) r

-- ---- rows that are selected

-- `column = ?parameter AND ..`, for these pairs of a column and a parameter
abbrev pub equals : List (ℕ × ℕ) → List Term
equals pairs = map (λ p. same (col 1 p.0) (col 0 p.1)) pairs

-- each row of the table has the values of an entry, after its number
abbrev pub AreTyped : {E : Type 0} → (E → Row) → List Row → Type 0
AreTyped {E} values rows = (row : Row) → Has rows row → (id : ℤ) × (e : E) × (row ≡ Int id ∷ values e)

-- the entry is one of the table, and wanted
abbrev pub IsWanted : {E : Type 0} → (E → Row) → (ℤ → E → Type 0) → Trees → ℕ → E → Type 0
IsWanted values Wanted db tree e = (held : Holds db tree (values e)) × Wanted held.0 e

-- the answer is exactly what is shown of the wanted entries of the table, by their numbers
pub record Selects {E : Type 0} (values : E → Row) (shown : ℤ → E → Row) (Wanted : ℤ → E → Type 0) (db : Trees) (tree : ℕ) (rows : List Row) : Type 0 where
  pub each : AllByRecursion (λ r. (e : E) × (it : IsWanted values Wanted db tree e) × (r ≡ shown it.0.0 e)) rows
  pub all : (e : E) (it : IsWanted values Wanted db tree e) → Has rows (shown it.0.0 e)

-- the value shows a wanted entry; or there is none
abbrev pub ShowsOne : {E X : Type 0} → (E → Row) → (ℤ → E → Row) → (ℤ → E → Type 0) → (X → List Value) → Trees → ℕ → Option X → Type 0
ShowsOne {E} values shown Wanted columns db tree None = (e : E) → IsWanted values Wanted db tree e → ⊥
ShowsOne {E} values shown Wanted columns db tree (Some x) = (e : E) × (it : IsWanted values Wanted db tree e) × (columns x ≡ shown it.0.0 e)
