-- What the last two statements of the migration do.
use Rattle.std.proofs.Common.{◌≡◌, ◌≢◌, inl, inr, ◌↔◌, ℕ, ℤ, pos, List, [], ◌∷◌, ◌++◌, map, drop, length, true, None, Ok, Option, refl, sym, ap, subst, ◌∙◌}
use Rattle.std.proofs.Math.Dec.{eqb-suc-zero}
use Rattle.std.specs.List.Sorted.{IsPermutation}
use Rattle.std.proofs.lemmas.List.Sorted.{IsPermutation-sym, Contains-permutation}
use Rattle.sqlite_value.specs.Order.{Row, value_cmp}
use Rattle.sqlite_value.specs.declared.value.Value.TheVariants.{Null, Int}
use Rattle.sqlite_value.specs.declared.keys.Collation.{Collation}
use Rattle.sqlite_value.specs.declared.keys.Collation.TheVariants.{Binary}
use Rattle.sqlite_sql.specs.Term.{Term, lit, col, eval_all}
use Rattle.sqlite_sql.specs.Program.{overlay}
use Rattle.sqlite_schema.specs.Names.{same_name}
use Rattle.sqlite_schema.specs.declared.program.Program.{Program}
use Rattle.sqlite_schema.specs.declared.schema.Keys.TheVariants.{Enforced}
use Rattle.sqlite_schema.specs.declared.command.Source.TheVariants.{Query}
use Rattle.sqlite_schema.specs.declared.command.Command.TheVariants.{Insert, Update}
use Rattle.sqlite_trees.specs.Tree.{Trees, put_row, rowid}
use Rattle.sqlite_rules.specs.Lists.{Has}
use Rattle.sqlite_rules.specs.Cast.{cast_row}
use Rattle.sqlite_rules.specs.Edit.{Edit, edit_of, edited, numbered, with_rowid, Applies, taken_by}
use Rattle.sqlite_rules.specs.Action.{works}
use Rattle.sqlite_rules.specs.Calls.{ids_of}
use Rattle.sqlite_rules.specs.declared.error.Rowids.TheVariants.{Chosen, Given}
use Rattle.sqlite_rules.proofs.ListLemmas.{has_contained, contains_had, has_filtered}
use Rattle.sqlite_rules.proofs.TableLemmas.{put_all_has, put_all_adds}
use Rattle.sqlite_tied.specs.Compute.{everything}
use Rattle.sqlite.specs.Effect.{Database, IsDatabase}
use Rattle.sqlite.specs.Does.{Tally, Does, OnRows}
use Rattle.sqlite.specs.Listing.{understood, listing_schema}
use Rattle.sqlite.specs.Rows.{Written, Task, Inserts, Updates}
use Rattle.sqlite.specs.State.{State, ExecutesIn}
use Rattle.sqlite.proofs.Callers.{IsPlain, command_of, statement_of, runs_as, one_step, one_permutation}
use Rattle.tables.specs.Steps.Texts.{fill_profiles, set_version, semicolon}
use Rattle.tables.specs.Schema.{schema_two, part_profile, format}
use Rattle.tables.specs.Databases.{chosen, dump_tests, profile_shown, version_row, Holds, AreNumbered, IsOrdered}
use Rattle.tables.specs.TableTrees.{format_tree, part_profile_tree, slot_tree}
use Rattle.tables.proofs.Inserts.{cast_null, cast_int}
use Rattle.tables.proofs.Insert.{went, same_value, concluded, plain_mode, no_action}
use Rattle.tables.proofs.Puts.{ordered_all}
use Rattle.tables.proofs.Select.{one_table, collated_table, answers, passing}
use Rattle.tables.proofs.Batches.{IsSilent, from_batch}

abbrev pub fill_text : List ℕ
fill_text = fill_profiles ++ semicolon

abbrev fill_shown : List Term
fill_shown = lit Null ∷ profile_shown

abbrev three : List Collation
three = Binary ∷ Binary ∷ Binary ∷ []

abbrev fill : Program
fill = record { lets = []; body = collated_table three 1 dump_tests fill_shown }

fill_is : command_of (understood schema_two fill_text) ≡ Insert 10 (Query fill)
unfolding understood everything
fill_is = refl

fill_quiet : IsPlain (understood schema_two fill_text) × IsSilent (understood schema_two fill_text)
unfolding understood everything listing_schema
fill_quiet = ((refl, refl), (refl, refl))

abbrev rise : Program
rise = record { lets = []; body = one_table 0 [] (col 1 0 ∷ lit (Int (pos 2)) ∷ lit Null ∷ []) }

rise_is : command_of (understood schema_two set_version) ≡ Update 0 rise
unfolding understood everything
rise_is = refl

rise_quiet : IsPlain (understood schema_two set_version) × IsSilent (understood schema_two set_version)
unfolding understood everything listing_schema
rise_quiet = ((refl, refl), (refl, refl))

-- nothing refers to the table
unreferred_format : (olds news : List Row) → works schema_two Enforced 0 0 olds news ≡ []
unfolding same_name everything
unreferred_format olds [] = refl
unreferred_format olds (r ∷ rs) = rw (eqb-suc-zero (length rs)) refl

-- ---- INSERT .. SELECT

pub record Filled (old new : Database) : Type 0 where
  pub schema_is : new.schema ≡ schema_two
  pub sources : List Row
  pub same : IsPermutation (chosen dump_tests fill_shown [] (old.trees slot_tree)) sources
  pub applies : Applies schema_two Enforced old.trees (edit_of old.trees part_profile [] Chosen 0 sources) new.trees

abbrev Fills : Trees → Trees → Type 0
Fills db next = (sources : List Row) × IsPermutation (chosen dump_tests fill_shown [] (db slot_tree)) sources × Applies schema_two Enforced db (edit_of db part_profile [] Chosen 0 sources) next

abbrev news_of : Trees → List Row → List Row
news_of db sources = numbered Chosen (db part_profile_tree) (map (λ s. cast_row part_profile (drop 0 s)) sources)

filled_by : (limit : Option ℕ) (db : Trees) (w : Written) → Inserts (record { limit = limit; keys = Enforced; schema = schema_two; table = part_profile; params = [] }) (Query fill) db (Ok w) → Fills db w.trees
filled_by limit db w h =
    let given = went h in
    let chose = answers three 1 dump_tests fill_shown [] (overlay db []) given.0 (given.1.answer Null) in
    let rest = went given.2 in
    let counter = same_value rest.1 in
    let written = went rest.2 in
    let counted = went written.2 in
    let applies = one_step schema_two Enforced db written.0 (edit_of db part_profile [] Chosen 0 given.0) (no_action schema_two Enforced 0 part_profile_tree (news_of db given.0)) written.1 in
    let trees : w.trees ≡ written.0 = ap (λ (it : Written). it.trees) (same_value counted.2) ∙ same_value counted.1 in
    (given.0, chose, subst (Applies schema_two Enforced db (edit_of db part_profile [] Chosen 0 given.0)) (sym trees) applies)

fill_rows : (limit : Option ℕ) (db : Database) (tally : Tally) (after : Database)
    → OnRows (record { limit = limit; keys = Enforced; schema = schema_two; table = part_profile; params = [] }) plain_mode None (Insert 10 (Query fill)) db.trees (Ok (tally, after)) → (after.schema ≡ schema_two) × Fills db.trees after.trees
fill_rows limit db tally after h =
    let done = went h in
    let task : Task = record { limit = limit; keys = Enforced; schema = schema_two; table = part_profile; params = [] } in
    let end = concluded task plain_mode done.0 tally after done.2 in
    (ap (λ (d : Database). d.schema) end.0, subst (Fills db.trees) (sym (ap (λ (d : Database). d.trees) end.0)) (filled_by limit db.trees done.0 done.1))

fill_does : (limit : Option ℕ) (db : Database) (text : List ℕ) (tally : Tally) (after : Database) → db.schema ≡ schema_two → Does limit plain_mode [] db text None (Insert 10 (Query fill)) (Ok (tally, after))
    → (after.schema ≡ schema_two) × Fills db.trees after.trees
fill_does limit db text tally after has h = fill_rows limit db tally after (subst (λ s. Does limit plain_mode [] (record db { schema = s }) text None (Insert 10 (Query fill)) (Ok (tally, after))) has h)

pub fills : (old new : State) (count : ℕ) → old.now.schema ≡ schema_two → ExecutesIn true fill_text [] old new (Ok count) → Filled old.now new.now
fills old new count has h =
    let w = runs_as fill_text [] old new schema_two has (Insert 10 (Query fill)) fill_is fill_quiet.0 count (from_batch fill_text [] old new schema_two count has fill_quiet.1 h) in
    let did = fill_does old.step_limit old.now (statement_of fill_text (understood schema_two fill_text)) w.tally new.now has w.changed in
    record { schema_is = did.0; sources = did.1.0; same = did.1.1; applies = did.1.2 }

-- ---- the rows that it puts

abbrev AllNull : List Row → Type 0
AllNull list = (s : Row) → Has list s → (v : Row) × (s ≡ Null ∷ v)

numbered_from : (rows list : List Row) (row : Row) → AllNull list → Has (numbered Chosen rows list) row → (v : Row) × Has list (Null ∷ v) × (id : ℤ) × (row ≡ Int id ∷ v)
numbered_from rows [] row all h = absurd h
numbered_from rows (s ∷ list) row all (inl same) = let is = all s (inl refl) in (is.0, inl (sym is.1), _, rw is.1 at same)
numbered_from rows (s ∷ list) row all (inr later) = let it = numbered_from (put_row (with_rowid Chosen rows s) rows) list row (λ x has. all x (inr has)) later in (it.0, inr it.1, it.2, it.3)

numbered_has : (rows list : List Row) (v : Row) → Has list (Null ∷ v) → (id : ℤ) × Has (numbered Chosen rows list) (Int id ∷ v)
numbered_has rows [] v h = absurd h
numbered_has rows (s ∷ list) v (inl same) = rw (← same) (_, inl refl)
numbered_has rows (s ∷ list) v (inr later) = let it = numbered_has (put_row (with_rowid Chosen rows s) rows) list v later in (it.0, inr it.1)

map_from : (f : Row → Row) (xs : List Row) (y : Row) → Has (map f xs) y → (x : Row) × Has xs x × (y ≡ f x)
map_from f [] y h = absurd h
map_from f (x ∷ xs) y (inl same) = (x, inl refl, same)
map_from f (x ∷ xs) y (inr later) = let it = map_from f xs y later in (it.0, inr it.1, it.2)

map_has : (f : Row → Row) (xs : List Row) (x : Row) → Has xs x → Has (map f xs) (f x)
map_has f [] x h = absurd h
map_has f (y ∷ xs) x (inl same) = inl (ap f same)
map_has f (y ∷ xs) x (inr later) = inr (map_has f xs x later)

-- each source is a slot's id and profile 1
from_slot : (db : Trees) (sources : List Row) → IsPermutation (chosen dump_tests fill_shown [] (db slot_tree)) sources → AreNumbered (db slot_tree) → (s : Row) → Has sources s
    → (id : ℤ) × (s ≡ Null ∷ Int id ∷ Int (pos 1) ∷ []) × Has (chosen dump_tests profile_shown [] (db slot_tree)) (Int id ∷ Int (pos 1) ∷ [])
from_slot db sources same ids s has =
    let there = has_contained (chosen dump_tests fill_shown [] (db slot_tree)) s (Contains-permutation sources (chosen dump_tests fill_shown [] (db slot_tree)) s (IsPermutation-sym _ _ same) (contains_had sources s has)) in
    let at = map_from (λ r. eval_all fill_shown ([] ∷ r ∷ [])) (passing dump_tests [] (db slot_tree)) s there in
    let slot = has_filtered _ (db slot_tree) at.0 at.1 in
    let id = ids at.0 slot.0 in
    (id.0, (at.2 ∙ ap (λ v. Null ∷ v ∷ Int (pos 1) ∷ []) id.1), subst (λ v. Has (chosen dump_tests profile_shown [] (db slot_tree)) (v ∷ Int (pos 1) ∷ [])) id.1 (map_has (λ r. eval_all profile_shown ([] ∷ r ∷ [])) (passing dump_tests [] (db slot_tree)) at.0 at.1))

cast_source : (id : ℤ) → cast_row part_profile (Null ∷ Int id ∷ Int (pos 1) ∷ []) ≡ Null ∷ Int id ∷ Int (pos 1) ∷ []
cast_source id = rw (cast_null, cast_int id, cast_int (pos 1)) refl

all_null : (db : Trees) (sources : List Row) → IsPermutation (chosen dump_tests fill_shown [] (db slot_tree)) sources → AreNumbered (db slot_tree) → AllNull (map (λ s. cast_row part_profile (drop 0 s)) sources)
all_null db sources same numbered y has =
    let at = map_from (λ s. cast_row part_profile (drop 0 s)) sources y has in
    let it = from_slot db sources same numbered at.0 at.1 in
    (Int it.0 ∷ Int (pos 1) ∷ [], at.2 ∙ ap (cast_row part_profile) it.1 ∙ cast_source it.0)

-- the table was empty: it holds just those
pub profiles : (old new : Database) → old.trees part_profile_tree ≡ [] → Filled old new → AreNumbered (old.trees slot_tree) → (row : Row) → Holds new.trees part_profile_tree row ↔ Has (chosen dump_tests profile_shown [] (old.trees slot_tree)) row
profiles old new blank it ids row =
    let list = map (λ s. cast_row part_profile (drop 0 s)) it.sources in
    let null = all_null old.trees it.sources it.same ids in (
      (λ held.
          let put : Has (edited old.trees (edit_of old.trees part_profile [] Chosen 0 it.sources)) (Int held.0 ∷ row) = rw it.applies.rows at held.1 in
          elim (put_all_has (numbered Chosen (old.trees part_profile_tree) list) (old.trees part_profile_tree) (Int held.0 ∷ row) put) [
            | inl one ↦
                let from = numbered_from (old.trees part_profile_tree) list (Int held.0 ∷ row) null one in
                let at = map_from (λ s. cast_row part_profile (drop 0 s)) it.sources (Null ∷ from.0) from.1 in
                let slot = from_slot old.trees it.sources it.same ids at.0 at.1 in
                let is : Null ∷ from.0 ≡ Null ∷ Int slot.0 ∷ Int (pos 1) ∷ [] = at.2 ∙ ap (cast_row part_profile) slot.1 ∙ cast_source slot.0 in
                let values : row ≡ Int slot.0 ∷ Int (pos 1) ∷ [] = ap (drop 1) from.3 ∙ ap (drop 1) is in
                rw values slot.2
            | inr none ↦ absurd (subst (λ rows. Has rows (Int held.0 ∷ row)) blank none)
          ]),
      (λ has.
          let at = map_from (λ r. eval_all profile_shown ([] ∷ r ∷ [])) (passing dump_tests [] (old.trees slot_tree)) row has in
          let source : Has it.sources (Null ∷ row) = has_contained it.sources (Null ∷ row) (Contains-permutation (chosen dump_tests fill_shown [] (old.trees slot_tree)) it.sources (Null ∷ row) it.same
          (contains_had (chosen dump_tests fill_shown [] (old.trees slot_tree)) (Null ∷ row) (subst (λ v. Has (chosen dump_tests fill_shown [] (old.trees slot_tree)) (Null ∷ v)) (sym at.2) (map_has (λ r. eval_all fill_shown ([] ∷ r ∷ [])) (passing dump_tests [] (old.trees slot_tree)) at.0 at.1)))) in
          let slot = from_slot old.trees it.sources it.same ids (Null ∷ row) source in
          let cast_is : cast_row part_profile (Null ∷ row) ≡ Null ∷ row = ap (cast_row part_profile) slot.1 ∙ cast_source slot.0 ∙ sym slot.1 in
          let listed : Has list (Null ∷ row) = subst (Has list) cast_is (map_has (λ s. cast_row part_profile (drop 0 s)) it.sources (Null ∷ row) source) in
          let put = numbered_has (old.trees part_profile_tree) list row listed in
          (put.0, rw it.applies.rows (put_all_adds (numbered Chosen (old.trees part_profile_tree) list) (old.trees part_profile_tree) (Int put.0 ∷ row) it.applies.fresh put.1))),
    )

pub profiles_ordered : (old new : Database) → old.trees part_profile_tree ≡ [] → Filled old new → AreNumbered (old.trees slot_tree) → IsOrdered (new.trees part_profile_tree)
profiles_ordered old new blank it ids =
    let list = map (λ s. cast_row part_profile (drop 0 s)) it.sources in
    let null = all_null old.trees it.sources it.same ids in
    subst IsOrdered (sym it.applies.rows) (ordered_all (numbered Chosen (old.trees part_profile_tree) list) (old.trees part_profile_tree)
    (λ row h. let from = numbered_from (old.trees part_profile_tree) list row null h in (from.2, ap rowid from.3))
    (subst IsOrdered (sym blank) (record { rises = tt; numbered = λ row none. absurd none })))

-- ---- UPDATE

abbrev risen_edit : Trees → List Row → Edit
risen_edit db rows = edit_of db format (ids_of rows) Given slot_tree rows

abbrev Rises : Trees → Trees → Type 0
Rises db next = (rows : List Row) × IsPermutation (chosen [] (col 1 0 ∷ lit (Int (pos 2)) ∷ lit Null ∷ []) [] (db format_tree)) rows × Applies schema_two Enforced db (risen_edit db rows) next

risen_by : (limit : Option ℕ) (db : Trees) (w : Written) → Updates (record { limit = limit; keys = Enforced; schema = schema_two; table = format; params = [] }) rise [] db (Ok w) → Rises db w.trees
risen_by limit db w h =
    let given = went h in
    let chose = answers [] 0 [] (col 1 0 ∷ lit (Int (pos 2)) ∷ lit Null ∷ []) [] (overlay db []) given.0 (given.1.answer Null) in
    let written = went given.2 in
    let edit : Edit = risen_edit db given.0 in
    let applies = one_step schema_two Enforced db written.0 (risen_edit db given.0) (unreferred_format (taken_by db edit) edit.news) written.1 in
    (given.0, chose, subst (Applies schema_two Enforced db (risen_edit db given.0)) (sym (ap (λ (it : Written). it.trees) (same_value written.2))) applies)

rise_rows : (limit : Option ℕ) (db : Database) (tally : Tally) (after : Database)
    → OnRows (record { limit = limit; keys = Enforced; schema = schema_two; table = format; params = [] }) plain_mode None (Update 0 rise) db.trees (Ok (tally, after)) → (after.schema ≡ schema_two) × Rises db.trees after.trees
rise_rows limit db tally after h =
    let done = went h in
    let task : Task = record { limit = limit; keys = Enforced; schema = schema_two; table = format; params = [] } in
    let end = concluded task plain_mode done.0 tally after done.2 in
    (ap (λ (d : Database). d.schema) end.0, subst (Rises db.trees) (sym (ap (λ (d : Database). d.trees) end.0)) (risen_by limit db.trees done.0 done.1))

rise_does : (limit : Option ℕ) (db : Database) (text : List ℕ) (tally : Tally) (after : Database) → db.schema ≡ schema_two → Does limit plain_mode [] db text None (Update 0 rise) (Ok (tally, after))
    → (after.schema ≡ schema_two) × Rises db.trees after.trees
rise_does limit db text tally after has h = rise_rows limit db tally after (subst (λ s. Does limit plain_mode [] (record db { schema = s }) text None (Update 0 rise) (Ok (tally, after))) has h)

pub record Risen (old new : Database) : Type 0 where
  pub schema_is : new.schema ≡ schema_two
  pub sound : IsDatabase new
  pub version : new.trees format_tree ≡ version_row 2
  pub others : Rattle.std.specs.List.AllByRecursion (λ t. t.tree ≢ format_tree → new.trees t.tree ≡ old.trees t.tree) schema_two.tables

risen_row : (db : Trees) (rows : List Row) → db format_tree ≡ version_row 1 → rows ≡ (Int (pos 1) ∷ Int (pos 2) ∷ Null ∷ []) ∷ [] → edited db (risen_edit db rows) ≡ version_row 2
unfolding value_cmp everything lib.Ieee.is_nan lib.Ieee.lt
risen_row db rows was is = rw (is, was, cast_null, cast_int (pos 2)) refl

pub rises : (old new : State) (count : ℕ) → old.now.schema ≡ schema_two → old.now.trees format_tree ≡ version_row 1 → ExecutesIn true set_version [] old new (Ok count) → Risen old.now new.now
rises old new count has was h =
    let w = runs_as set_version [] old new schema_two has (Update 0 rise) rise_is rise_quiet.0 count (from_batch set_version [] old new schema_two count has rise_quiet.1 h) in
    let did = rise_does old.step_limit old.now (statement_of set_version (understood schema_two set_version)) w.tally new.now has w.changed in
    let one = one_permutation (Int (pos 1) ∷ Int (pos 2) ∷ Null ∷ []) did.1.0 (subst (λ xs. IsPermutation (chosen [] (col 1 0 ∷ lit (Int (pos 2)) ∷ lit Null ∷ []) [] xs) did.1.0) was did.1.1) in
    record { schema_is = did.0; sound = w.sound; version = did.1.2.rows ∙ risen_row old.now.trees did.1.0 was one; others = did.1.2.tables }
