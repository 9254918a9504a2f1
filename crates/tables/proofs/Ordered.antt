-- What a SELECT over one table with ORDER BY gives.
use Rattle.std.proofs.Common.{◌≡◌, inl, inr, ◌<◌, ℕ, ℤ, zero, suc, pos, List, [], ◌∷◌, ◌++◌, length, get_or, map, flat_map, if◌then◌else◌, Bool, true, false, None, refl, sym, ap, subst, ◌∙◌, arith, IsPermutation, IsSorted}
use Rattle.std.specs.List.{list_all}
use Rattle.sqlite_value.specs.declared.value.Value.TheVariants.{Null, Int}
use Rattle.sqlite_value.specs.declared.keys.Key.{Key}
use Rattle.sqlite_value.specs.Order.{Row}
use Rattle.sqlite_trees.specs.Tree.{Trees}
use Rattle.sqlite_trees.proofs.ListLemmas.{map-map, pull_back}
use Rattle.sqlite_sql.specs.Term.{Term, Env, lit, holds}
use Rattle.sqlite_sql.specs.Query.{Query, inner, end, IsAnswer, output, output_cmp, Output, page, sort_cmp}
use Rattle.sqlite_sql.specs.Program.{overlay}
use Rattle.sqlite_exec.proofs.PartitionLemmas.{IsSorted-from_map}
use Rattle.sqlite_rules.specs.Lists.{Has}
use Rattle.sqlite_schema.specs.declared.schema.Schema.{Schema}
use Rattle.sqlite.specs.State.{State, Shown}
use Rattle.sqlite.proofs.Callers.{reads_as}
use Rattle.tables.proofs.Select.{IsSelect, passing}
use Rattle.tables.proofs.Selecting.{show}

-- the rows that pass, in an order that ORDER BY allows
pub record IsInOrder (tests : List Term) (order : List (Term × Key)) (params : Row) (rows ordered : List Row) : Type 0 where
  pub same : IsPermutation (passing tests params rows) ordered
  pub sorted : IsSorted (λ a b. sort_cmp order (params ∷ a ∷ []) (params ∷ b ∷ [])) ordered

-- a negative limit is none
abbrev pub in_order : ℕ → List Term → List Term → List (Term × Key) → ℤ → Query
in_order t tests shown order limit = record { from = inner t end; filter = tests; group = None; project = shown; distinct = false; collations = []; order = order; limit = lit (Int limit); offset = lit (Int (pos 0)) }

module _ {X : Type 0} (f : Env → X) (tests : List Term) (params : Row) where
  one : (b : Bool) (r : Row) (rest : List Env) (kept : List Row) → map f rest ≡ map (λ x. f (params ∷ x ∷ [])) kept
      → map f ((if b then (params ∷ r ∷ []) ∷ [] else []) ++ rest) ≡ map (λ x. f (params ∷ x ∷ [])) (if b then r ∷ kept else kept)
  one true r rest kept h = ap (λ l. f (params ∷ r ∷ []) ∷ l) h
  one false r rest kept h = h

  outs : (rows : List Row) → map f (flat_map (λ r. if list_all (holds (params ∷ r ∷ [])) tests then (params ∷ r ∷ []) ∷ [] else []) rows) ≡ map (λ x. f (params ∷ x ∷ [])) (passing tests params rows)
  outs [] = refl
  outs (r ∷ rows) = one (list_all (holds (params ∷ r ∷ [])) tests) r _ (passing tests params rows) (outs rows)

-- the answer is a page of what is shown of the rows that pass, in order
ordered_answer : (t : ℕ) (tests shown : List Term) (order : List (Term × Key)) (limit : ℤ) (params : Row) (db : Trees) (rows : List Row) → IsAnswer (in_order t tests shown order limit) db params rows
    → (ordered : List Row) × IsInOrder tests order params (db t) ordered × (rows ≡ page (in_order t tests shown order limit) params (map (show shown params) ordered))
ordered_answer t tests shown order limit params db rows a =
    let q = in_order t tests shown order limit in
    let f : Row → Output = λ r. output q (params ∷ r ∷ []) in
    let kept : a.kept ≡ map f (passing tests params (db t)) = a.distinct ∙ ap (map (output q)) a.grouped ∙ outs (output q) tests params (db t) in
    let back = pull_back f a.kept a.ordered a.same (passing tests params (db t)) kept in (
      back.0,
      record {
        same = back.1;
        sorted = IsSorted-from_map (output_cmp q) f back.0 (subst (IsSorted (output_cmp q)) back.2 a.sorted);
      },
      a.shown ∙ ap (λ xs. page q params (map (λ (o : Output). o.1) xs)) back.2 ∙ ap (page q params) (map-map (λ (o : Output). o.1) f back.0),
    )

-- a row of a list has a place in it
pub at_place : (xs : List Row) (row d : Row) → Has xs row → (i : ℕ) × (i < length xs) × (get_or xs i d ≡ row)
at_place [] row d none = absurd none
at_place (x ∷ xs) row d (inl e) = (zero, omega arith, sym e)
at_place (x ∷ xs) row d (inr more) = let it = at_place xs row d more in (suc it.0, omega arith, it.2)

module _ (schema : Schema) (sql : List ℕ) (params : Row) (t : ℕ) (tests shown : List Term) (order : List (Term × Key)) (limit : ℤ) (names : List (List ℕ))
    (it : IsSelect schema sql (in_order t tests shown order limit) names) (own : (db : Trees) → overlay db [] t ≡ db t) where
  abbrev paged : List Row → List Row
  paged ordered = page (in_order t tests shown order limit) params (map (show shown params) ordered)

  pub selects_in_order : (old new : State) (rows : List Row) → old.now.schema ≡ schema → Shown sql params old new rows
      → (ordered : List Row) × IsInOrder tests order params (old.now.trees t) ordered × (rows ≡ paged ordered)
  selects_in_order old new rows has h =
      let got = (reads_as sql params old new schema has _ it.is it.plain it.unlisted rows h).answer Null in
      subst (λ xs. (ordered : List Row) × IsInOrder tests order params xs ordered × (rows ≡ paged ordered)) (own old.now.trees)
      (ordered_answer t tests shown order limit params (overlay old.now.trees []) rows got)
