-- What a SELECT over one table gives.
use Rattle.std.proofs.Common.{◌≡◌, ℕ, pos, negsuc, List, [], ◌∷◌, ◌++◌, map, filter, flat_map, if◌then◌else◌, Bool, true, false, None, refl, sym, ap, subst, ◌∙◌}
use Rattle.std.specs.List.{list_all}
use Rattle.std.specs.List.Sorted.{IsPermutation}
use Rattle.std.proofs.lemmas.List.Sorted.{IsPermutation-map}
use Rattle.sqlite_value.specs.declared.value.Value.TheVariants.{Null, Int}
use Rattle.sqlite_value.specs.Order.{Row}
use Rattle.sqlite_value.specs.declared.keys.Collation.{Collation}
use Rattle.sqlite_trees.specs.Tree.{Trees}
use Rattle.sqlite_sql.specs.Term.{Term, Env, lit, eval_all, holds}
use Rattle.sqlite_sql.specs.Query.{Query, inner, end, IsAnswer, output, Output, matches}
use Rattle.sqlite_sql.specs.Program.{overlay}
use Rattle.sqlite_schema.specs.declared.schema.Schema.{Schema}
use Rattle.sqlite_schema.specs.declared.command.Command.TheVariants.{Select}
use Rattle.sqlite.specs.Listing.{understood, reads_listing}
use Rattle.sqlite.specs.State.{State, Shown}
use Rattle.tables.specs.Databases.{chosen}
use Rattle.tables.specs.Schema.{schema_two}
use Rattle.tables.specs.Steps.Selected.{IsQuery}
use Rattle.tables.proofs.Silent.{ReturnsNothing, silent}
use Rattle.sqlite.proofs.Callers.{IsPlain, command_of, reads_as}

abbrev pub collated_table : List Collation → ℕ → List Term → List Term → Query
collated_table cs t tests shown = record { from = inner t end; filter = tests; group = None; project = shown; distinct = false; collations = cs; order = []; limit = lit (Int (negsuc 0)); offset = lit (Int (pos 0)) }

abbrev pub one_table : ℕ → List Term → List Term → Query
one_table = collated_table []

-- over this schema the text is this query, and doesn't read the time; and whatever the schema, it
-- has no RETURNING
pub record IsSelect (schema : Schema) (sql : List ℕ) (query : Query) (names : List (List ℕ)) : Type 0 where
  pub is : command_of (understood schema sql) ≡ Select (record { lets = []; body = query }) names
  pub plain : IsPlain (understood schema sql)
  pub unlisted : reads_listing schema sql ≡ false
  pub silent : ReturnsNothing sql

pub reads : {sql : List ℕ} {query : Query} {names : List (List ℕ)} → IsSelect schema_two sql query names → IsQuery sql
reads {sql} it = record { plain = it.plain; silent = silent sql it.silent }

-- the rows that pass, and what is shown of each
abbrev pub passing : List Term → Row → List Row → List Row
passing tests params = filter (λ r. list_all (holds (params ∷ r ∷ [])) tests)

step : (b : Bool) (params r : Row) (shown : List Term) (q : Query) → (rest : List Env) (outs : List Row) → (is : q.project ≡ shown) → map (λ (o : Output). o.1) (map (output q) rest) ≡ outs
    → map (λ (o : Output). o.1) (map (output q) ((if b then (params ∷ r ∷ []) ∷ [] else []) ++ rest)) ≡ (if b then eval_all shown (params ∷ r ∷ []) ∷ outs else outs)
step true params r shown q rest outs is h = ap (λ s. eval_all s (params ∷ r ∷ []) ∷ map (λ (o : Output). o.1) (map (output q) rest)) is ∙ ap (λ x. eval_all shown (params ∷ r ∷ []) ∷ x) h
step false params r shown q rest outs is h = h

mapped : (b : Bool) (f : Row → Row) (r : Row) (rest : List Row) → map f (if b then r ∷ rest else rest) ≡ (if b then f r ∷ map f rest else map f rest)
mapped true f r rest = refl
mapped false f r rest = refl

outputs : (cs : List Collation) (t : ℕ) (tests shown : List Term) (params : Row) (rows : List Row)
    → map (λ (o : Output). o.1) (map (output (collated_table cs t tests shown)) (flat_map (λ r. if list_all (holds (params ∷ r ∷ [])) tests then (params ∷ r ∷ []) ∷ [] else []) rows)) ≡ chosen tests shown params rows
outputs cs t tests shown params [] = refl
outputs cs t tests shown params (r ∷ rows) =
    step (list_all (holds (params ∷ r ∷ [])) tests) params r shown (collated_table cs t tests shown) _ _ refl (outputs cs t tests shown params rows)
    ∙ sym (mapped (list_all (holds (params ∷ r ∷ [])) tests) (λ x. eval_all shown (params ∷ x ∷ [])) r (passing tests params rows))

pub answers : (cs : List Collation) (t : ℕ) (tests shown : List Term) (params : Row) (db : Trees) (rows : List Row) → IsAnswer (collated_table cs t tests shown) db params rows → IsPermutation (chosen tests shown params (db t)) rows
answers cs t tests shown params db rows a =
    let q = collated_table cs t tests shown in
    let kept : a.kept ≡ map (output q) (matches db tests (inner t end) (params ∷ [])) = a.distinct ∙ ap (map (output q)) a.grouped in
    let all : map (λ (o : Output). o.1) a.kept ≡ chosen tests shown params (db t) = ap (map (λ (o : Output). o.1)) kept ∙ outputs cs t tests shown params (db t) in
    let moved = IsPermutation-map (λ (o : Output). o.1) a.kept a.ordered a.same in
    subst (λ xs. IsPermutation xs rows) all (subst (IsPermutation (map (λ (o : Output). o.1) a.kept)) (sym a.shown) moved)

module _ (schema : Schema) (sql : List ℕ) (params : Row) (t : ℕ) (tests shown : List Term) (names : List (List ℕ)) (it : IsSelect schema sql (one_table t tests shown) names) (own : (db : Trees) → overlay db [] t ≡ db t) where
  pub selects : (old new : State) (rows : List Row) → old.now.schema ≡ schema → Shown sql params old new rows → IsPermutation (chosen tests shown params (old.now.trees t)) rows
  selects old new rows has h =
      let got = (reads_as sql params old new schema has _ it.is it.plain it.unlisted rows h).answer Null in
      subst (λ xs. IsPermutation (chosen tests shown params xs) rows) (own old.now.trees) (answers [] t tests shown params (overlay old.now.trees []) rows got)
