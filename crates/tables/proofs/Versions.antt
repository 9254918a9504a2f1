-- The version of the tables, read under either format.
use Rattle.std.proofs.Common.{◌≡◌, ◌⊎◌, inl, inr, refl, sym, ap, subst, ◌∙◌, ℕ, List, [], ◌∷◌, true, pos, codes, Some, IsPermutation, Ok, Err, Result, OnErr, IsTrue}
use Rattle.sqlite.specs.Listing.{understood}
use Rattle.sqlite.specs.Clock.{timed}
use Rattle.sqlite.specs.declared.error.Error.{Error}
use Rattle.sqlite.proofs.Callers.{IsPlain, one_permutation}
use Rattle.sqlite.specs.State.{State, Shown, ShowsRows, IsUnchanged, CommitsShowing, Survives, FailsToQuery, IsNotRun, FailsToShow}
use Rattle.sqlite_tied.specs.Compute.{everything}
use Rattle.sqlite_trees.specs.Tree.{Trees}
use Rattle.sqlite_value.specs.declared.value.Value.TheVariants.{Int}
use Rattle.sqlite_value.specs.Order.{Row}
use Rattle.sqlite_sql.specs.Term.{col}
use Rattle.sqlite_schema.specs.Names.{same_name, table_named, column_named}
use Rattle.sqlite_schema.specs.declared.schema.Index.{Index}
use Rattle.sqlite_schema.specs.declared.schema.Schema.{Schema}
use Rattle.sqlite_catalog.specs.Change.{is_used}
use Rattle.tables.specs.Steps.Texts.{select_version}
use Rattle.tables.specs.Schema.{with_indexes, schema_two, format}
use Rattle.tables.specs.Databases.{chosen, version_row}
use Rattle.tables.specs.TableTrees.{format_tree}
use Rattle.tables.specs.Steps.Selected.{IsSilent}
use Rattle.tables.proofs.Select.{IsSelect, one_table, selects}
use Rattle.tables.proofs.Silent.{silent, never_commits}

-- the text asks for the version, over this schema
abbrev Asks : Schema → Type 0
Asks schema = IsSelect schema select_version (one_table 0 [] (col 1 0 ∷ [])) (codes "version" ∷ [])

pub one_is : (more : List Index) → Asks (with_indexes more)
unfolding understood everything
one_is more = record { is = refl; plain = (refl, refl); unlisted = refl; silent = λ schema base. refl }

pub two_is : Asks schema_two
unfolding understood everything
two_is = record { is = refl; plain = (refl, refl); unlisted = refl; silent = λ schema base. refl }

-- a plain query changes nothing
pub unchanged : (schema : Schema) (sql : List ℕ) (params : Row) (old new : State) (rows : List Row) → old.now.schema ≡ schema → IsPlain (understood schema sql) → Shown sql params old new rows → IsUnchanged old new
unfolding Shown
unchanged schema sql params old new rows has plain h =
    let none = (subst IsPlain (sym (sym h.1.is ∙ ap (λ s. understood s sql) has)) plain).0 in
    (subst (ShowsRows old new sql h.0 (timed params h.0.formats h.1.now) rows) none h.2).3

pub version_is : (schema : Schema) (n : ℕ) → Asks schema → (old new : State) (rows : List Row) → old.now.schema ≡ schema → old.now.trees format_tree ≡ version_row n → Shown select_version [] old new rows
    → (rows ≡ (Int (pos n) ∷ []) ∷ []) × IsUnchanged old new
version_is schema n is old new rows has was h =
    let got = selects schema select_version [] 0 [] (col 1 0 ∷ []) (codes "version" ∷ []) is (λ db. refl) old new rows has h in
    (one_permutation (Int (pos n) ∷ []) rows (subst (λ xs. IsPermutation (chosen [] (col 1 0 ∷ []) [] xs) rows) was got), unchanged schema select_version [] old new rows has is.plain h)

pub used_one : (more : List Index) → is_used (with_indexes more) (codes "format") ≡ true
unfolding same_name
used_one more = refl

pub used_two : is_used schema_two (codes "format") ≡ true
unfolding same_name
used_two = refl

pub at_one : (more : List Index) → table_named (with_indexes more) (codes "format") ≡ Some 0
unfolding same_name
at_one more = refl

pub at_two : table_named schema_two (codes "format") ≡ Some 0
unfolding same_name
at_two = refl

pub version_at : column_named format (codes "version") ≡ Some 0
unfolding same_name
version_at = refl

asks_only : (schema : Schema) → IsSilent (understood schema select_version)
asks_only = silent select_version two_is.silent

-- where it fails, the state is as it was or rolled back
pub failed : (sql : List ℕ) (params : Row) (old new : State) (e : Error) → IsSilent (understood old.now.schema sql) → IsTrue new.is_open → FailsToQuery sql params old new e
    → (new.committed ≡ old.committed) × ((new.now ≡ old.now) ⊎ (new.now ≡ old.committed))
unfolding FailsToQuery IsNotRun
failed sql params old new e silent up (inl (inl same)) = (same.1.0.committed_is, inl same.1.0.now_is)
failed sql params old new e silent up (inl (inr h)) = ((h.3.undone up).1, inr (h.3.undone up).0)
failed sql params old new e silent up (inr h) =
    let quiet = subst IsSilent h.1.is silent in
    let same = (subst (FailsToShow old new sql h.0 (timed params h.0.formats h.1.now) e) quiet h.2).3 in
    (same.0.committed_is, inl same.0.now_is)

pub failed_ok : (old new : State) (r : Result (Rattle.std.specs.Prelude.Vec Row Rattle.std.specs.declared.alloc.Global.Global) Error) → IsTrue new.is_open → Rattle.std.specs.Prelude.IfErr r (FailsToQuery select_version [] old new)
    → OnErr r ((new.committed ≡ old.committed) × ((new.now ≡ old.now) ⊎ (new.now ≡ old.committed)))
failed_ok old new (Ok rows) up h = tt
failed_ok old new (Err e) up h = failed select_version [] old new e (asks_only old.now.schema) up h

pub quieter : (a b : State) (P : Trees → Type 0) → ((db : Trees) → P db → ⊥) → Survives a b P → Survives a b (λ _. ⊥)
quieter a b P never s = record { clean = s.clean; shield = s.shield; counts = s.counts; limit = s.limit; closes = s.closes; crash = λ good db left. elim (s.crash good db left) [ inl was ↦ inl was | inr p ↦ absurd (never db p) ] }

pub survives : (old new : State) → Survives old new (CommitsShowing select_version [] old) → Survives old new (λ _. ⊥)
survives old new = quieter old new _ (λ db. never_commits select_version [] old db (asks_only old.now.schema))
