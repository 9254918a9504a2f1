-- What the SELECT of the bearers of a key gives: their rows, each with the row of its slot and with
-- that of its line in `more`, where these are there.
use Rattle.std.proofs.Common.{◌≡◌, refl, sym, ap, subst, ◌∙◌, pos, negsuc, List, [], ◌∷◌, map, filter, flat_map, true, false, None, codes, if◌then◌else◌}
use Rattle.std.specs.List.{list_all}
use Rattle.std.specs.List.Sorted.{IsPermutation}
use Rattle.std.proofs.lemmas.List.Sorted.{IsPermutation-map, IsPermutation-sym}
use Rattle.sqlite_tied.specs.Compute.{everything}
use Rattle.sqlite_value.specs.declared.value.Value.TheVariants.{Int, Null}
use Rattle.sqlite_value.specs.Order.{Row}
use Rattle.sqlite_sql.specs.Term.{Term, Env, col, lit, eval_all, holds}
use Rattle.sqlite_sql.specs.Query.{Query, inner, left, end, IsAnswer, Output, output, or_nulls}
use Rattle.sqlite_sql.specs.Program.{overlay}
use Rattle.sqlite_trees.specs.Tree.{Trees}
use Rattle.sqlite_trees.proofs.ListLemmas.{map-map}
use Rattle.sqlite_rules.specs.Lists.{Has}
use Rattle.sqlite.specs.Listing.{understood}
use Rattle.sqlite.specs.State.{State, Shown}
use Rattle.sqlite.proofs.Callers.{reads_as}
use Rattle.tables.proofs.Select.{IsSelect}
use Rattle.tables.specs.Kinds.{more_names}
use Rattle.tables.specs.Schema.{schema_two}
use Rattle.tables.specs.Steps.Queries.{same}
use Rattle.tables.specs.declared.bearers.TheConstants.{SELECT_BEARERS_OF_KEY}
use Rattle.tables.proofs.Keeping.{from_map, to_map}
use Rattle.tables.proofs.LineResults.{more_terms}
use Rattle.tables.proofs.Puts.{flat_has, from_flat, where_true, true_there}
use Rattle.tables.proofs.PartRemoved.{has_permuted}

-- `more.slot = bearer.slot AND more.line = bearer.line`
abbrev pub of_line : List Term
of_line = same (col 3 1) (col 1 1) ∷ same (col 3 2) (col 1 2) ∷ []

-- `slot.id = bearer.slot`
abbrev pub of_slot : List Term
of_slot = same (col 2 0) (col 1 1) ∷ []

-- `bearer.keytext = ?1`
abbrev pub of_key : List Term
of_key = same (col 1 3) (col 0 0) ∷ []

abbrev pub bearer_terms : List Term
bearer_terms = col 2 2 ∷ col 1 2 ∷ col 1 4 ∷ col 1 5 ∷ col 1 6 ∷ col 1 7 ∷ more_terms 3

abbrev pub joined : Query
joined = record {
  from = inner 15 (left 1 of_slot (left 24 of_line end));
  filter = of_key;
  group = None;
  project = bearer_terms;
  distinct = false;
  collations = [];
  order = [];
  limit = lit (Int (negsuc 0));
  offset = lit (Int (pos 0));
}

pub joined_is : IsSelect schema_two SELECT_BEARERS_OF_KEY.now joined (codes "project" ∷ codes "line" ∷ codes "kind" ∷ codes "def" ∷ codes "refs" ∷ codes "hover" ∷ more_names)
unfolding understood everything
joined_is = record { is = refl; plain = (refl, refl); unlisted = refl; silent = λ schema base. refl }

-- ---- the answer

module _ (params : Row) (db : Trees) where
  -- the rows of `slot` for a bearer
  abbrev pub slots : Row → List Row
  slots b = filter (λ s. list_all (holds (params ∷ b ∷ s ∷ [])) of_slot) (db 1)

  -- the rows of `more` for the line of a bearer
  abbrev pub mores : Row → Row → List Row
  mores b s = filter (λ r. list_all (holds (params ∷ b ∷ s ∷ r ∷ [])) of_line) (db 24)

  -- a row of a bearer of the key, that of its slot or none, and one of its line or none
  pub record Joins (b s r : Row) : Type 0 where
    pub bearer : Has (db 15) b
    pub slot : Has (or_nulls (slots b)) s
    pub more : Has (or_nulls (mores b s)) r
    pub passes : list_all (holds (params ∷ b ∷ s ∷ r ∷ [])) of_key ≡ true

  abbrev pub shows : Row → Row → Row → Row
  shows b s r = eval_all bearer_terms (params ∷ b ∷ s ∷ r ∷ [])

  abbrev with_more : Row → Row → Row → List Env
  with_more b s r = if list_all (holds (params ∷ b ∷ s ∷ r ∷ [])) of_key then (params ∷ b ∷ s ∷ r ∷ []) ∷ [] else []

  abbrev with_slot : Row → Row → List Env
  with_slot b s = flat_map (with_more b s) (or_nulls (mores b s))

  abbrev with_bearer : Row → List Env
  with_bearer b = flat_map (with_slot b) (or_nulls (slots b))

  module _ (rows : List Row) (a : IsAnswer joined db params rows) where
    abbrev all_matches : List Env
    all_matches = flat_map with_bearer (db 15)

    same_rows : IsPermutation (map (eval_all bearer_terms) all_matches) rows
    same_rows =
        let kept : a.kept ≡ map (output joined) all_matches = a.distinct ∙ ap (map (output joined)) a.grouped in
        let all : map (λ (o : Output). o.1) a.kept ≡ map (eval_all bearer_terms) all_matches = ap (map (λ (o : Output). o.1)) kept ∙ map-map (λ (o : Output). o.1) (output joined) all_matches in
        let moved = IsPermutation-map (λ (o : Output). o.1) a.kept a.ordered a.same in
        subst (λ xs. IsPermutation xs rows) all (subst (IsPermutation (map (λ (o : Output). o.1) a.kept)) (sym a.shown) moved)

    pub each_joins : (row : Row) → Has rows row → (b s r : Row) × Joins b s r × (row ≡ shows b s r)
    each_joins row h =
        let e = from_map (eval_all bearer_terms) all_matches row (has_permuted _ rows row same_rows h) in
        let b = from_flat with_bearer (db 15) e.0 e.1 in
        let s = from_flat (with_slot b.0) (or_nulls (slots b.0)) e.0 b.2 in
        let r = from_flat (with_more b.0 s.0) (or_nulls (mores b.0 s.0)) e.0 s.2 in
        let one = where_true _ _ e.0 r.2 in
        (b.0, s.0, r.0, record { bearer = b.1; slot = s.1; more = r.1; passes = one.0 }, e.2 ∙ ap (eval_all bearer_terms) one.1)

    pub all_joins : (b s r : Row) → Joins b s r → Has rows (shows b s r)
    all_joins b s r j =
        let env = params ∷ b ∷ s ∷ r ∷ [] in
        let one : Has (with_more b s r) env = true_there _ env j.passes in
        let there : Has all_matches env = flat_has with_bearer (db 15) b env j.bearer (flat_has (with_slot b) (or_nulls (slots b)) s env j.slot (flat_has (with_more b s) (or_nulls (mores b s)) r env j.more one)) in
        has_permuted rows _ _ (IsPermutation-sym _ rows same_rows) (to_map (eval_all bearer_terms) all_matches env there)

pub answer_of : (params : Row) (old new : State) (rows : List Row) → old.now.schema ≡ schema_two → Shown SELECT_BEARERS_OF_KEY.now params old new rows → IsAnswer joined (overlay old.now.trees []) params rows
answer_of params old new rows has h = (reads_as SELECT_BEARERS_OF_KEY.now params old new schema_two has _ joined_is.is joined_is.plain joined_is.unlisted rows h).answer Null
