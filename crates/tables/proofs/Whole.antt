-- The batches: format 2 from nothing, and format 2 from format 1.
use Rattle.std.proofs.Common.{◌≡◌, ◌≢◌, ◌/◌, map, inl, inr, refl, sym, ap, ◌∙◌, subst, ℕ, pos, List, [], ◌∷◌, true, false, length, Some, Ok, Err, Result, OnOk, nat_lt, if◌then◌else◌, true≢false, subst₂, ◌↔◌, ℤ, arith}
use Rattle.std.specs.List.{AllByRecursion}
use Rattle.sqlite_schema.specs.declared.schema.Table.{Table}
use Rattle.sqlite_schema.specs.declared.schema.Index.{Index}
use Rattle.sqlite_schema.specs.declared.command.Command.TheVariants.{Insert}
use Rattle.sqlite_schema.specs.declared.command.Source.TheVariants.{Values}
use Rattle.sqlite_value.specs.Order.{Row}
use Rattle.sqlite_value.specs.declared.value.Value.TheVariants.{Null, Int}
use Rattle.sqlite_sql.specs.Term.{Term, lit}
use Rattle.sqlite_rules.specs.Cast.{cast_row}
use Rattle.sqlite_rules.specs.Lists.{Has}
use Rattle.sqlite_rules.proofs.ListLemmas.{all_has, all_from, has_left}
use Rattle.sqlite_tied.specs.Compute.{everything}
use Rattle.sqlite_trees.specs.Tree.{Trees}
use Rattle.sqlite_trees.specs.declared.store.Store.{Ghosts}
use Rattle.sqlite.specs.declared.error.Error.{Error}
use Rattle.sqlite.specs.Effect.{Database, value_rows}
use Rattle.sqlite.specs.Listing.{understood, listing_schema}
use Rattle.sqlite.specs.Held.{Held, state}
use Rattle.sqlite.specs.State.{State, ExecutesIn}
use Rattle.sqlite.specs.Batch.{ExecutesAllInside}
use Rattle.sqlite.proofs.Callers.{IsPlain, command_of}
use Rattle.tables.specs.Steps.Texts.{version_text, set_version, batch, added_texts, making, filling, upgrading}
use Rattle.tables.specs.Schema.{with_indexes, empty_schema, schema_one, schema_two, format, slot, part_profile, more}
use Rattle.tables.specs.Steps.Kept.{IsKept, no_rows}
use Rattle.tables.specs.Databases.{IsListed, IsMade, IsFormatOne, IsUpgraded, WasUpgraded, AreNumbered, IsOrdered, chosen, dump_tests, profile_shown, version_row}
use Rattle.tables.specs.TableTrees.{format_tree, part_profile_tree, slot_tree}
use Rattle.tables.proofs.Insert.{inserts}
use Rattle.tables.proofs.Inserts.{cast_null, cast_int}
use Rattle.tables.proofs.Batches.{IsSilent, runs, peel, from_batch}
use Rattle.tables.proofs.Creations.{first_tables, first_make, makes_one, additions, additions_make, makes_two, first_cut, added_cut, version_cut, drops_cut, additions_cut, fill_cut, set_cut}
use Rattle.tables.proofs.Drops.{all_dropped}
use Rattle.tables.proofs.Fill.{fill_text, Filled, Risen, fills, profiles, profiles_ordered, rises}

-- ---- from nothing

abbrev version_terms : List Term
version_terms = lit (Int (pos 2)) ∷ lit Null ∷ []

insert_is : command_of (understood schema_two version_text) ≡ Insert 0 (Values version_terms 2)
unfolding understood everything
insert_is = refl

insert_quiet : IsPlain (understood schema_two version_text) × IsSilent (understood schema_two version_text)
unfolding understood everything listing_schema
insert_quiet = ((refl, refl), (refl, refl))

taken : map (cast_row format) (value_rows [] 2 (length version_terms / 2) version_terms) ≡ (Int (pos 2) ∷ Null ∷ []) ∷ []
taken = rw (cast_null, cast_int (pos 2))

filled : (old new : State) (count : ℕ) → IsKept schema_two no_rows old.now → ExecutesIn false version_text [] old new (Ok count) → IsMade new.now
unfolding IsListed
filled old new count bare h =
    let it = inserts schema_two version_text [] 0 format version_terms 2 insert_is insert_quiet.0 refl (Int (pos 2) ∷ Null ∷ []) [] taken old new count bare.schema_is h in
    record {
      schema_is = it.schema_is;
      version = it.applies.rows ∙ rw (bare.rows.0);
      others = still old.now.trees new.now.trees schema_two.tables bare.rows it.applies.tables;
      listed = subst (λ s. IsListed s new.now.trees) it.schema_is it.sound.lists;
    }
  where
    still : (a b : Trees) (tables : List Table) → AllByRecursion (λ t. a t.tree ≡ []) tables → AllByRecursion (λ t. t.tree ≢ format_tree → b t.tree ≡ a t.tree) tables → AllByRecursion (λ t. t.tree ≢ format_tree → b t.tree ≡ []) tables
    still a b [] p q = tt
    still a b (t ∷ ts) p q = (λ other. q.0 other ∙ p.0, still a b ts p.1 q.1)

pub made : {S : Type 0} (g : Ghosts S) (old new : Held S) → (state g old).now.schema ≡ empty_schema → ExecutesAllInside g 0 making old new (Ok tt) → IsMade (state g new).now
unfolding ExecutesAllInside
made g old new blank h =
    let one = runs g (Some 0) no_rows (length making) first_tables (batch added_texts version_text) empty_schema first_cut first_make (refl, (refl, (refl, (refl, (refl, (refl, (refl, (refl, (refl, (refl, tt)))))))))) old new (record { schema_is = blank; rows = tt }) h in
    let two = runs g (Some 0) no_rows one.1 additions version_text schema_one added_cut additions_make (tt, (tt, (tt, (refl, (refl, tt))))) one.0 new (subst (λ s. IsKept s no_rows (state g one.0).now) makes_one one.2) one.3 in
    let last = peel g (Some 0) two.1 version_text version_text [] version_cut two.0 new two.3 in
    let bare = subst (λ s. IsKept s no_rows (state g two.0).now) makes_two two.2 in
    subst (λ x. IsMade (state g x).now) (sym last.4.1) (filled (state g two.0) (state g last.0) last.1 bare (from_batch version_text [] (state g two.0) (state g last.0) schema_two last.1 bare.schema_is insert_quiet.1 last.3.runs))

pub made_ok : {S : Type 0} (g : Ghosts S) (old new : Held S) (r : Result (Unit {0}) Error) → (state g old).now.schema ≡ empty_schema → ExecutesAllInside g 0 making old new r → OnOk r (IsMade (state g new).now)
made_ok g old new (Err e) blank h = tt
made_ok g old new (Ok tt) blank h = made g old new blank h

-- ---- from format 1

-- what the trees hold before the rows of profiles: those of format 1 as they were, and the new ones
-- nothing
abbrev older : Trees → Trees
older db t = if nat_lt t 19 then db t else []

all_old : AllByRecursion (λ t. nat_lt t.tree 19 ≡ true) schema_one.tables
all_old = (refl, (refl, (refl, (refl, (refl, (refl, (refl, (refl, (refl, (refl, tt))))))))))

older_is : (db : Trees) (t : ℕ) → nat_lt t 19 ≡ true → older db t ≡ db t
older_is db t low = rw low refl

as_before : (db : Database) (extra : List Index) → db.schema ≡ with_indexes extra → IsKept (with_indexes extra) (older db.trees) db
as_before db extra has = record { schema_is = has; rows = all_from (λ t. db.trees t.tree ≡ older db.trees t.tree) schema_one.tables (λ t there. sym (older_is db.trees t.tree (all_has (λ t. nat_lt t.tree 19 ≡ true) schema_one.tables t all_old there))) }

in_both : (t : Table) → Has schema_one.tables t → Has schema_two.tables t
in_both t = has_left schema_one.tables (part_profile ∷ more ∷ []) t

is_not : (t n : ℕ) → nat_lt t 19 ≡ true → nat_lt n 19 ≡ false → t ≢ n
is_not t n low high same = true≢false (sym low ∙ ap (λ x. nat_lt x 19) same ∙ high)

after_all : (was mid late end : Database) → IsKept schema_two (older was.trees) mid → Filled mid late → Risen late end → WasUpgraded was.trees end.trees
unfolding IsListed
after_all was mid late end grown put risen =
    let fill = all_has (λ t. t.tree ≢ part_profile_tree → late.trees t.tree ≡ mid.trees t.tree) schema_two.tables in
    let last = all_has (λ t. t.tree ≢ format_tree → end.trees t.tree ≡ late.trees t.tree) schema_two.tables in
    let kept = all_has (λ t. mid.trees t.tree ≡ older was.trees t.tree) schema_two.tables in
    let slots : mid.trees slot_tree ≡ was.trees slot_tree = kept slot grown.rows (inr (inl refl)) in
    let blank : mid.trees part_profile_tree ≡ [] = kept part_profile grown.rows (inr (inr (inr (inr (inr (inr (inr (inr (inr (inr (inl refl))))))))))) in
    let profiles_stay : end.trees part_profile_tree ≡ late.trees part_profile_tree = last part_profile risen.others (inr (inr (inr (inr (inr (inr (inr (inr (inr (inr (inl refl))))))))))) (λ e. is_not 0 22 refl refl (sym e)) in
    let has_more : Has schema_two.tables more = inr (inr (inr (inr (inr (inr (inr (inr (inr (inr (inr (inl refl))))))))))) in
    record {
      version = risen.version;
      others = all_from (λ t. t.tree ≢ format_tree → end.trees t.tree ≡ was.trees t.tree) schema_one.tables (λ t there other.
          let low = all_has (λ t. nat_lt t.tree 19 ≡ true) schema_one.tables t all_old there in
          last t risen.others (in_both t there) other ∙ fill t put.applies.tables (in_both t there) (is_not t.tree part_profile_tree low refl) ∙ kept t grown.rows (in_both t there) ∙ older_is was.trees t.tree low);
      profiles = λ ids row. subst₂ (λ (rows profile : List Row). ((id : ℤ) × Has profile (Int id ∷ row)) ↔ Has (chosen dump_tests profile_shown [] rows) row) slots (sym profiles_stay)
          (profiles mid late blank put (subst AreNumbered (sym slots) ids) row);
      ordered = λ ids. subst IsOrdered (sym profiles_stay) (profiles_ordered mid late blank put (subst AreNumbered (sym slots) ids));
      more = last more risen.others has_more (λ e. is_not 0 24 refl refl (sym e)) ∙ fill more put.applies.tables has_more (λ e. absurd (omega (arith, e))) ∙ kept more grown.rows has_more;
      listed = subst (λ s. IsListed s end.trees) risen.schema_is risen.sound.lists;
    }

pub upgraded : {S : Type 0} (g : Ghosts S) (old new : Held S) → IsFormatOne (state g old).now → ExecutesAllInside g 0 upgrading old new (Ok tt) → IsUpgraded (state g old).now (state g new).now
unfolding ExecutesAllInside
upgraded g old new is h =
    let was = (state g old).now in
    let first = all_dropped g (Some 0) (older was.trees) (length upgrading) (batch added_texts filling) drops_cut is.schema_is.more old new is.schema_is.added (as_before was is.schema_is.more is.schema_is.is) h in
    let tables = runs g (Some 0) (older was.trees) first.1 additions filling schema_one additions_cut additions_make (tt, (tt, (tt, (refl, (refl, tt))))) first.0 new first.2 first.3 in
    let grown = subst (λ s. IsKept s (older was.trees) (state g tables.0).now) makes_two tables.2 in
    let fill = peel g (Some 0) tables.1 filling fill_text set_version fill_cut.0 tables.0 new tables.3 in
    let put = fills (state g tables.0) (state g fill.0) fill.1 grown.schema_is fill.3.runs in
    let last = peel g (Some 0) fill.2 set_version set_version [] set_cut fill.0 new fill.4 in
    let mid = (state g tables.0).now in
    let late = (state g fill.0).now in
    let format_is : late.trees format_tree ≡ version_row 1 = all_has (λ t. t.tree ≢ part_profile_tree → late.trees t.tree ≡ mid.trees t.tree) schema_two.tables format put.applies.tables (inl refl) (is_not 0 22 refl refl) ∙ grown.rows.0 ∙ is.version in
    let risen = rises (state g fill.0) (state g last.0) last.1 put.schema_is format_is last.3.runs in
    subst (λ x. IsUpgraded was (state g x).now) (sym last.4.1) (record {
      schema_is = risen.schema_is;
      rows = after_all was mid late (state g last.0).now grown put risen;
    })

pub upgraded_ok : {S : Type 0} (g : Ghosts S) (old new : Held S) (r : Result (Unit {0}) Error) → IsFormatOne (state g old).now → ExecutesAllInside g 0 upgrading old new r → OnOk r (IsUpgraded (state g old).now (state g new).now)
upgraded_ok g old new (Err e) is h = tt
upgraded_ok g old new (Ok tt) is h = upgraded g old new is h
