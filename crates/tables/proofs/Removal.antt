-- What DELETE FROM slot leaves.
use Rattle.std.proofs.Common.{length, unwrap_or, ◌≡◌, ◌≢◌, inl, inr, ℕ, ℤ, List, [], ◌∷◌, ◌++◌, map, Bool, true, false, Some, None, Ok, Option, refl, sym, ap, subst, ◌∙◌, if◌then◌else◌}
use Rattle.std.specs.List.{AllByRecursion, list_any, filter_map, cons_option}
use Rattle.std.proofs.lemmas.List.{length-map}
use Rattle.sqlite_value.specs.Order.{Row}
use Rattle.sqlite_trees.specs.Tree.{Trees, rowid}
use Rattle.sqlite_schema.specs.Names.{same_name}
use Rattle.sqlite_schema.specs.declared.schema.Table.{Table}
use Rattle.sqlite_schema.specs.declared.schema.Keys.TheVariants.{Enforced}
use Rattle.sqlite_rules.specs.declared.action.Deed.TheVariants.{Delete}
use Rattle.sqlite_rules.specs.Lists.{Has}
use Rattle.sqlite_rules.specs.Action.{Writes, pairs, loses, Work, works, work_for}
use Rattle.sqlite_rules.proofs.ListLemmas.{all_has}
use Rattle.sqlite_value.specs.Keys.{plain}
use Rattle.sqlite_tied.specs.Compute.{everything}
use Rattle.tables.specs.Steps.Queries.{by_project_and_part}
use Rattle.tables.specs.Schema.{slot, schema_two, to_slot, document, range_row, item, hover, mark, bearer, tag, part_profile, more}
use Rattle.tables.proofs.Cascade.{IsLeaf, Cut, taken_ordered, cascades}
use Rattle.tables.proofs.Insert.{went, same_value, concluded, counted, plain_mode}
use Rattle.tables.specs.Contents.{owned}
use Rattle.tables.proofs.Keeping.{is_owned}
use Rattle.tables.proofs.Commands.{delete_slot_is}
use Rattle.tables.specs.declared.slots.TheConstants.{DELETE_FROM_SLOT}
use Rattle.sqlite_schema.specs.declared.command.Command.TheVariants.{Delete as Removes}
use Rattle.sqlite.specs.Effect.{Database}
use Rattle.sqlite.specs.Listing.{understood}
use Rattle.sqlite.specs.Does.{Tally, Does, OnRows}
use Rattle.sqlite.specs.State.{State, Executes}
use Rattle.sqlite.proofs.Callers.{statement_of, runs_as}
use Rattle.tables.proofs.Select.{one_table, answers}
use Rattle.tables.specs.Databases.{chosen, AllOrdered}
use Rattle.tables.specs.TableTrees.{format_tree, slot_tree}
use Rattle.std.specs.List.Sorted.{IsPermutation}
use Rattle.sqlite_value.specs.declared.value.Value.TheVariants.{Null, Int, Text as Words}
use Rattle.sqlite_sql.specs.Term.{Term, col}
use Rattle.sqlite_sql.specs.Program.{overlay}
use Rattle.sqlite_schema.specs.declared.program.Program.{Program}
use Rattle.sqlite_rules.specs.Calls.{ids_of}
use Rattle.sqlite_rules.specs.Edit.{id_in, without_all, row_at, edit_of}
use Rattle.sqlite_rules.specs.declared.error.Rowids.TheVariants.{Given}
use Rattle.sqlite.specs.Rows.{Written, Task, Deletes}
use Rattle.tables.proofs.Puts.{from_flat}

-- only slots are referred to
quiet_child : (depth : ℕ) (taken : List Row) → AllByRecursion (λ t. t.tree ≢ slot_tree → works schema_two Enforced depth t.tree taken [] ≡ []) schema_two.tables
unfolding same_name everything
quiet_child depth taken = ((λ _. refl), ((λ no. absurd (no refl)), ((λ _. refl), ((λ _. refl), ((λ _. refl), ((λ _. refl), ((λ _. refl), ((λ _. refl), ((λ _. refl), ((λ _. refl), ((λ _. refl), ((λ _. refl), tt))))))))))))

-- a work on this table, for rows that leave `slot`
pub record IsOn (olds : List Row) (t : Table) (w : Work) : Type 0 where
  pub deletes : w.deed ≡ Delete
  pub child : w.child ≡ t
  pub owns : Has owned t.tree
  pub order : w.order ≡ plain
  pub moves : w.moves ≡ pairs olds []
  pub refers : w.ref ≡ to_slot
  pub places : w.places ≡ 0 ∷ []

hit : (b : Bool) (w0 w : Work) → (olds : List Row) (t : Table) → IsOn olds t w0 → Has (cons_option (if b then Some w0 else None) []) w → IsOn olds t w
hit true w0 w olds t is (inl same) = subst (IsOn olds t) (sym same) is
hit true w0 w olds t is (inr none) = absurd none
hit false w0 w olds t is none = absurd none

abbrev pub at_slot : List Row → Table → Work
at_slot olds t = record { depth = 0; child = t; ref = to_slot; places = 0 ∷ []; order = plain; deed = Delete; moves = pairs olds [] }

child_on : (t : Table) (olds : List Row) → Has owned t.tree → (b : Bool) (w : Work) → Has (cons_option (if b then Some (at_slot olds t) else None) []) w → IsOn olds t w
child_on t olds owns b w h = hit b (at_slot olds t) w olds t (record { deletes = refl; child = refl; owns = owns; order = refl; moves = refl; refers = refl; places = refl }) h

on_each : (olds : List Row) → AllByRecursion (λ t. (w : Work) → Has (filter_map (work_for schema_two Enforced 0 1 olds [] t) t.references) w → IsOn olds t w) schema_two.tables
unfolding same_name everything
on_each olds = ((λ w none. absurd none), ((λ w none. absurd none), ((λ w none. absurd none), (child_on document olds (inl refl) (list_any (loses plain (0 ∷ [])) (pairs olds [])), (child_on range_row olds (inr (inl refl)) (list_any (loses plain (0 ∷ [])) (pairs olds [])), (child_on item olds (inr (inr (inl refl))) (list_any (loses plain (0 ∷ [])) (pairs olds [])), (child_on hover olds (inr (inr (inr (inl refl)))) (list_any (loses plain (0 ∷ [])) (pairs olds [])), (child_on mark olds (inr (inr (inr (inr (inl refl))))) (list_any (loses plain (0 ∷ [])) (pairs olds [])), (child_on bearer olds (inr (inr (inr (inr (inr (inl refl)))))) (list_any (loses plain (0 ∷ [])) (pairs olds [])), (child_on tag olds (inr (inr (inr (inr (inr (inr (inl refl))))))) (list_any (loses plain (0 ∷ [])) (pairs olds [])), (child_on part_profile olds (inr (inr (inr (inr (inr (inr (inr (inl refl)))))))) (list_any (loses plain (0 ∷ [])) (pairs olds [])), (child_on more olds (inr (inr (inr (inr (inr (inr (inr (inr (inl refl))))))))) (list_any (loses plain (0 ∷ [])) (pairs olds [])), tt))))))))))))

-- each work is on a table that belongs to slots
pub each_on : (olds : List Row) (w : Work) → Has (works schema_two Enforced 0 1 olds []) w → (t : Table) × Has schema_two.tables t × IsOn olds t w
each_on olds w h =
    let it = from_flat (λ child. filter_map (work_for schema_two Enforced 0 1 olds [] child) child.references) schema_two.tables w h in
    (it.0, it.1, all_has (λ t. (x : Work) → Has (filter_map (work_for schema_two Enforced 0 1 olds [] t) t.references) x → IsOn olds t x) schema_two.tables it.0 (on_each olds) it.1 w it.2)

all_wanted : (b : Bool) (a c d e f g h i j : Work) → b ≡ true
    → cons_option (if b then Some a else None) [] ++ (cons_option (if b then Some c else None) [] ++ (cons_option (if b then Some d else None) [] ++ (cons_option (if b then Some e else None) [] ++ (cons_option (if b then Some f else None) [] ++ (cons_option (if b then Some g else None) [] ++ (cons_option (if b then Some h else None) [] ++ (cons_option (if b then Some i else None) [] ++ (cons_option (if b then Some j else None) [] ++ []))))))))
    ≡ a ∷ c ∷ d ∷ e ∷ f ∷ g ∷ h ∷ i ∷ j ∷ []
all_wanted true a c d e f g h i j is = refl
all_wanted false a c d e f g h i j is = absurd cc

-- where a slot goes, there is a work on each table that belongs to slots
pub works_are : (olds : List Row) → list_any (loses plain (0 ∷ [])) (pairs olds []) ≡ true
    → works schema_two Enforced 0 1 olds [] ≡ at_slot olds document ∷ at_slot olds range_row ∷ at_slot olds item ∷ at_slot olds hover ∷ at_slot olds mark ∷ at_slot olds bearer ∷ at_slot olds tag ∷ at_slot olds part_profile ∷ at_slot olds more ∷ []
unfolding same_name everything
works_are olds lost = all_wanted (list_any (loses plain (0 ∷ [])) (pairs olds [])) (at_slot olds document) (at_slot olds range_row) (at_slot olds item) (at_slot olds hover) (at_slot olds mark) (at_slot olds bearer) (at_slot olds tag) (at_slot olds part_profile) (at_slot olds more) lost

pub each_leaf : (olds : List Row) (w : Work) → Has (works schema_two Enforced 0 1 olds []) w → IsLeaf schema_two w
each_leaf olds w h =
    let it = from_flat (λ child. filter_map (work_for schema_two Enforced 0 1 olds [] child) child.references) schema_two.tables w h in
    let on = all_has (λ t. (x : Work) → Has (filter_map (work_for schema_two Enforced 0 1 olds [] t) t.references) x → IsOn olds t x) schema_two.tables it.0 (on_each olds) it.1 w it.2 in
    record {
      deletes = on.deletes;
      listed = subst (Has schema_two.tables) (sym on.child) it.1;
      unreferred = λ depth taken. subst (λ (t : Table). works schema_two Enforced depth t.tree taken [] ≡ []) (sym on.child) (all_has (λ t. t.tree ≢ slot_tree → works schema_two Enforced depth t.tree taken [] ≡ []) schema_two.tables it.0 (quiet_child depth taken) it.1 (is_owned it.0.tree on.owns).1.0);
    }

-- rows are taken out of `slot`, and those that refer to them go too
pub record Taken (ids : List ℤ) (old new : Trees) : Type 0 where
  pub mid : Trees
  pub slots : mid 1 ≡ without_all (old 1) ids
  pub others : AllByRecursion (λ t. t.tree ≢ slot_tree → mid t.tree ≡ old t.tree) schema_two.tables
  pub cut : (t : Table) → Has schema_two.tables t → Cut mid new (works schema_two Enforced 0 1 (map (row_at (old 1)) ids) []) t
  pub ordered : AllOrdered schema_two new

took : (db next : Trees) (ids : List ℤ) → Writes schema_two Enforced db (edit_of db slot ids Given format_tree []) (Ok next) → AllOrdered schema_two db → Taken ids db next
took db next ids (inl refused) up = absurd (let e = refused.2 in cc)
took db next ids (inr (inl big)) up = absurd (let e = big.3 in cc)
took db next ids (inr (inr went)) up =
    let mid = went.0 in
    let made : AllOrdered schema_two mid = taken_ordered schema_two db mid 1 ids (up slot (inr (inl refl))) went.1.rows went.1.tables up in
    let all = cascades schema_two went.2.0 mid next (works schema_two Enforced 0 1 (map (row_at (db slot_tree)) ids) []) went.2.1 (each_leaf (map (row_at (db slot_tree)) ids)) made in
    record { mid = mid; slots = went.1.rows; others = went.1.tables; cut = all.1; ordered = all.0 }

-- the rows of `slot` that a DELETE selects are taken out
pub record Removed (params : Row) (tests : List Term) (old new : Trees) : Type 0 where
  pub rows : List Row
  pub selected : IsPermutation (chosen tests (col 1 0 ∷ []) params (old 1)) rows
  pub taken : Taken (ids_of rows) old new

module _ (params : Row) (tests : List Term) (limit : Option ℕ) where
  abbrev removal : Program
  removal = record { lets = []; body = one_table 1 tests (col 1 0 ∷ []) }

  pub deleted : (db : Trees) (w : Written) → Deletes (record { limit = limit; keys = Enforced; schema = schema_two; table = slot; params = params }) removal db (Ok w) → AllOrdered schema_two db
      → (r : Removed params tests db w.trees) × (length w.rows ≡ length r.rows)
  deleted db w h up =
      let given = went h in
      let rows = given.0 in
      let chose = answers [] 1 tests (col 1 0 ∷ []) params (overlay db []) rows (given.1.answer Null) in
      let written = went given.2 in
      let made = same_value written.2 in
      let trees : w.trees ≡ written.0 = ap (λ (it : Written). it.trees) made in (
        record { rows = rows; selected = chose; taken = subst (Taken (ids_of rows) db) (sym trees) (took db written.0 (ids_of rows) written.1 up) },
        ap (λ (it : Written). length it.rows) made ∙ (length-map (ids_of rows) (row_at (db slot_tree)) ∙ length-map rows (λ r. id_in (rowid r))),
      )

-- what a DELETE of one part's slot takes out, and how many rows it answers
abbrev pub Removes-it : Row → Trees → Tally → Database → Type 0
Removes-it params old tally after = (after.schema ≡ schema_two) × ((r : Removed params by_project_and_part old after.trees) × (tally.rows ≡ Some (length r.rows)))

on_rows : (params : Row) (limit : Option ℕ) (db : Database) (tally : Tally) (after : Database)
    → OnRows (record { limit = limit; keys = Enforced; schema = schema_two; table = slot; params = params }) plain_mode None (Removes 1 (removal params by_project_and_part limit)) db.trees (Ok (tally, after)) → AllOrdered schema_two db.trees
    → Removes-it params db.trees tally after
on_rows params limit db tally after h up =
    let done = went h in
    let task : Task = record { limit = limit; keys = Enforced; schema = schema_two; table = slot; params = params } in
    let end = concluded task plain_mode done.0 tally after done.2 in
    let it = deleted params by_project_and_part limit db.trees done.0 done.1 up in
    (ap (λ (d : Database). d.schema) end.0, moved params db.trees done.0.trees after.trees (sym (ap (λ (d : Database). d.trees) end.0)) tally it.0 (counted task plain_mode done.0 tally after done.2 ∙ ap (λ (n : ℕ). Some n) it.1))
  where
    moved : (params : Row) (old a b : Trees) → a ≡ b → (tally : Tally) → (r : Removed params by_project_and_part old a) → tally.rows ≡ Some (length r.rows) → (r : Removed params by_project_and_part old b) × (tally.rows ≡ Some (length r.rows))
    moved params old a b e tally r n = subst (λ x. (r : Removed params by_project_and_part old x) × (tally.rows ≡ Some (length r.rows))) e (r, n)

does : (params : Row) (limit : Option ℕ) (db : Database) (text : List ℕ) (tally : Tally) (after : Database) → db.schema ≡ schema_two
    → Does limit plain_mode params db text None (Removes 1 (removal params by_project_and_part limit)) (Ok (tally, after)) → AllOrdered schema_two db.trees → Removes-it params db.trees tally after
does params limit db text tally after has h up =
    on_rows params limit db tally after (subst (λ s. Does limit plain_mode params (record db { schema = s }) text None (Removes 1 (removal params by_project_and_part limit)) (Ok (tally, after))) has h) up

pub removes : (old new : State) (project : List ℕ) (part : ℤ) (count : ℕ) → old.now.schema ≡ schema_two → AllOrdered schema_two old.now.trees → Executes DELETE_FROM_SLOT.now (Words project ∷ Int part ∷ []) old new (Ok count)
    → (new.now.schema ≡ schema_two) × ((r : Removed (Words project ∷ Int part ∷ []) by_project_and_part old.now.trees new.now.trees) × (count ≡ length r.rows))
removes old new project part count has up h =
    let params = Words project ∷ Int part ∷ [] in
    let w = runs_as DELETE_FROM_SLOT.now params old new schema_two has (Removes 1 (removal params by_project_and_part old.step_limit)) delete_slot_is.is delete_slot_is.plain count h in
    let it = does params old.step_limit old.now (statement_of DELETE_FROM_SLOT.now (understood schema_two DELETE_FROM_SLOT.now)) w.tally new.now has w.changed up in
    (it.0, (it.1.0, w.counted ∙ ap (λ (o : Option ℕ). unwrap_or o 0) it.1.1))
