-- From the rows of an answer to the values that they are read as.
use Rattle.std.proofs.Common.{◌≡◌, inl, inr, ℕ, ℤ, true, List, [], ◌∷◌, ◌++◌, length, map, Option, Some, None, refl, sym, ap, subst, ◌∙◌, arith}
use Rattle.std.specs.List.{list_all, AllByRecursion}
use Rattle.std.specs.List.Sorted.{IsPermutation}
use Rattle.std.proofs.lemmas.List.Sorted.{IsPermutation-sym}
use Rattle.sqlite_value.specs.declared.value.Value.TheVariants.{Int}
use Rattle.sqlite_value.specs.Order.{Row}
use Rattle.sqlite_trees.specs.Tree.{Trees}
use Rattle.sqlite_sql.specs.Term.{Term, Env, eval_all, holds}
use Rattle.sqlite_sql.specs.Program.{overlay}
use Rattle.sqlite_rules.specs.Lists.{Has}
use Rattle.sqlite_rules.proofs.ListLemmas.{has_filtered, has_kept}
use Rattle.sqlite.specs.State.{State, Shown}
use Rattle.tables.specs.Databases.{chosen}
use Rattle.tables.specs.Schema.{schema_two}
use Rattle.tables.specs.Steps.Selected.{AreRead, IsFirstRead, AreTyped, IsWanted, Selects, ShowsOne, equals}
use Rattle.tables.proofs.Select.{IsSelect, one_table, selects}
use Rattle.tables.proofs.Keeping.{from_map, to_map}
use Rattle.tables.proofs.PartRemoved.{has_permuted}
use Rattle.tables.proofs.Reading.{rows_are, columns_are}
use Rattle.tables.proofs.Equalities.{AllAlike, Agree, agree_if, if_agree}

pub all_of : {X : Type 0} (P : X → Type 0) (xs : List X) → ((x : X) → Has xs x → P x) → AllByRecursion P xs
all_of P [] h = tt
all_of P (x ∷ xs) h = (h x (inl refl), all_of P xs (λ y there. h y (inr there)))

pub of_all : {X : Type 0} (P : X → Type 0) (xs : List X) (x : X) → AllByRecursion P xs → Has xs x → P x
of_all P [] x all h = absurd h
of_all P (y ∷ xs) x all (inl e) = subst P (sym e) all.0
of_all P (y ∷ xs) x all (inr h) = of_all P xs x all.1 h

pub all_last : {X : Type 0} (P : X → Type 0) (xs : List X) (x : X) → AllByRecursion P xs → P x → AllByRecursion P (xs ++ x ∷ [])
all_last P [] x h p = (p, tt)
all_last P (y ∷ xs) x h p = (h.0, all_last P xs x h.1 p)

width : (terms : List Term) (env : Env) → length (eval_all terms env) ≡ length terms
width [] env = refl
width (t ∷ ts) env = let h = width ts env in omega arith

abbrev pub show : List Term → Row → Row → Row
show terms params row = eval_all terms (params ∷ row ∷ [])

module _ (tests terms : List Term) (params : Row) (table rows : List Row) (same : IsPermutation (chosen tests terms params table) rows) where
  pub from_table : (r : Row) → Has rows r → (row : Row) × Has table row × (list_all (holds (params ∷ row ∷ [])) tests ≡ true) × (r ≡ show terms params row)
  from_table r there =
      let it = from_map (show terms params) _ r (has_permuted _ rows r same there) in
      let was = has_filtered _ table it.0 it.1 in
      (it.0, was.0, was.1, it.2)

  pub into_answer : (row : Row) → Has table row → list_all (holds (params ∷ row ∷ [])) tests ≡ true → Has rows (show terms params row)
  into_answer row there ok = has_permuted rows _ _ (IsPermutation-sym _ rows same) (to_map (show terms params) _ row (has_kept _ table row there ok))

  pub wide_as : (r : Row) → Has rows r → length r ≡ length terms
  wide_as r there = let it = from_table r there in ap length it.3 ∙ width terms _

-- The statement is a SELECT of the wanted entries of a table: its tests are that columns equal
-- parameters.
pub record IsSelection {E : Type 0} (values : E → Row) (shown : ℤ → E → Row) (Wanted : ℤ → E → Type 0) (sql : List ℕ) (params : Row) (t : ℕ) : Type 0 where
  pub pairs : List (ℕ × ℕ)
  pub terms : List Term
  pub names : List (List ℕ)
  pub is : IsSelect schema_two sql (one_table t (equals pairs) terms) names
  pub own : (db : Trees) → overlay db [] t ≡ db t
  pub shows : (id : ℤ) (e : E) → show terms params (Int id ∷ values e) ≡ shown id e
  pub alike : (id : ℤ) (e : E) → AllAlike pairs params (Int id ∷ values e)
  pub wants : (id : ℤ) (e : E) → Agree pairs params (Int id ∷ values e) → Wanted id e
  pub wanted : (id : ℤ) (e : E) → Wanted id e → Agree pairs params (Int id ∷ values e)

module _ {E X : Type 0} (values : E → Row) (shown : ℤ → E → Row) (Wanted : ℤ → E → Type 0) (columns : X → Row) (sql : List ℕ) (params : Row) (t : ℕ) (it : IsSelection values shown Wanted sql params t) (wide : (x : X) → length (columns x) ≡ length it.terms)
    (old new : State) (rows : List Row) (has : old.now.schema ≡ schema_two) (typed : AreTyped values (old.now.trees t)) (h : Shown sql params old new rows) where
  abbrev db : Trees
  db = old.now.trees

  same : IsPermutation (chosen (equals it.pairs) it.terms params (db t)) rows
  same = selects schema_two sql params t (equals it.pairs) it.terms it.names it.is it.own old new rows has h

  each_row : (r : Row) → Has rows r → (e : E) × (it : IsWanted values Wanted db t e) × (r ≡ shown it.0.0 e)
  each_row r there =
      let was = from_table (equals it.pairs) it.terms params (db t) rows same r there in
      let e = typed was.0 was.1 in
      let ok = subst (λ row. list_all (holds (params ∷ row ∷ [])) (equals it.pairs) ≡ true) e.2 was.2 in
      (e.1, ((e.0, subst (Has (db t)) e.2 was.1), it.wants e.0 e.1 (agree_if it.pairs params _ (it.alike e.0 e.1) ok)), was.3 ∙ (ap (show it.terms params) e.2 ∙ it.shows e.0 e.1))

  all_rows : (e : E) (w : IsWanted values Wanted db t e) → Has rows (shown w.0.0 e)
  all_rows e h =
      let id = h.0.0 in
      subst (Has rows) (it.shows id e)
      (into_answer (equals it.pairs) it.terms params (db t) rows same (Int id ∷ values e) h.0.1 (if_agree it.pairs params _ (it.alike id e) (it.wanted id e h.1)))

  -- all rows are the wanted ones
  pub selects_typed : (xs : List X) → AreRead columns rows xs → Selects values shown Wanted db t (map columns xs)
  selects_typed xs read =
      let all = rows_are columns (length it.terms) wide rows xs (wide_as (equals it.pairs) it.terms params (db t) rows same) read in
      subst (Selects values shown Wanted db t) all (record { each = all_of _ rows each_row; all = all_rows })

  -- the first of them is a wanted one
  pub shows_one : (o : Option X) → IsFirstRead columns rows o → ShowsOne values shown Wanted columns db t o
  shows_one o read = one rows o read each_row all_rows (wide_as (equals it.pairs) it.terms params (db t) rows same)
    where
      one : (rs : List Row) (o : Option X) → IsFirstRead columns rs o → ((r : Row) → Has rs r → (e : E) × (it : IsWanted values Wanted db t e) × (r ≡ shown it.0.0 e)) → ((e : E) (w : IsWanted values Wanted db t e) → Has rs (shown w.0.0 e))
          → ((r : Row) → Has rs r → length r ≡ length it.terms) → ShowsOne values shown Wanted columns db t o
      one [] None read each all width = λ e w. all e w
      one [] (Some x) read each all width = absurd read
      one (r ∷ rs) None read each all width = absurd read
      one (r ∷ rs) (Some x) read each all width =
          let e = each r (inl refl) in
          (e.0, e.1, sym (columns_are (columns x) r (width r (inl refl) ∙ sym (wide x)) read) ∙ e.2)
