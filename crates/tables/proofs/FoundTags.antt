-- Tags, as they are selected.
use Rattle.std.proofs.Common.{◌≡◌, inl, inr, ℕ, ℤ, List, [], ◌∷◌, map, Some, codes, refl, sym, ap, subst, ◌∙◌, Contains}
use Rattle.sqlite.specs.Listing.{understood}
use Rattle.sqlite.specs.State.{State as Store, Shown}
use Rattle.sqlite_tied.specs.Compute.{everything}
use Rattle.sqlite_value.specs.Order.{Row}
use Rattle.sqlite_value.specs.declared.value.Value.TheVariants.{Int, Text}
use Rattle.sqlite_sql.specs.Term.{Term, col}
use Rattle.sqlite_trees.specs.Tree.{Trees}
use Rattle.sqlite_rules.specs.Lists.{Has}
use Rattle.sqlite_rules.proofs.ListLemmas.{has_contained, contains_had}
use Rattle.tags.specs.Values.{TagValue}
use Rattle.tables.specs.declared.slots.Part.TheVariants.{Tags}
use Rattle.tables.specs.declared.slots.Part.{Part}
use Rattle.tables.specs.Columns.{tag_columns}
use Rattle.tables.specs.Contents.{IsOwned, owned, slot_row}
use Rattle.tables.specs.Databases.{Holds}
use Rattle.tables.specs.Schema.{schema_two}
use Rattle.machine.specs.State.{State}
use Rattle.tables.specs.Stands.{StandsFor}
use Rattle.machine.specs.FoundTags.{FoundTag}
use Rattle.tables.specs.declared.found_tags.TagRow.{TagRow}
use Rattle.tables.specs.declared.names.TheConstants.{SELECT_TAGS_OF_NAME}
use Rattle.tables.specs.Steps.Selected.{AreRead, AreTyped, Selects, equals}
use Rattle.tables.specs.Steps.TagRows.{TellsTag, TellNamed, tag_row_columns}
use Rattle.tables.specs.TableTrees.{slot_tree, tag_tree}
use Rattle.tables.proofs.DumpEntries.{dump_of, tags_of, rows_of_tags}
use Rattle.tables.proofs.Entries.{typed_as}
use Rattle.tables.proofs.Keeping.{from_map, to_map, table_of, which_part}
use Rattle.tables.proofs.Select.{IsSelect, one_table}
use Rattle.tables.proofs.Selecting.{IsSelection, selects_typed, all_of, of_all}

abbrev pub tag_terms : List Term
tag_terms = col 1 1 ∷ col 1 2 ∷ col 1 3 ∷ col 1 4 ∷ col 1 5 ∷ col 1 6 ∷ col 1 7 ∷ []

abbrev pub tag_names : List (List ℕ)
tag_names = codes "slot" ∷ codes "line" ∷ codes "name" ∷ codes "file" ∷ codes "address" ∷ codes "kind" ∷ codes "fields" ∷ []

pub select_named_is : IsSelect schema_two SELECT_TAGS_OF_NAME.now (one_table 17 (equals ((3, 0) ∷ [])) tag_terms) tag_names
unfolding understood everything
select_named_is = record { is = refl; plain = (refl, refl); unlisted = refl; silent = λ schema base. refl }

-- ---- the rows of the table

-- a tag under its slot
pub record TagEntry : Type 0 where
  pub slot : ℤ
  pub found : FoundTag

pub record IsEntry (db : Trees) (m : State) (e : TagEntry) : Type 0 where
  pub tags : List TagValue
  pub slot : Has (db slot_tree) (slot_row e.slot e.found.project Tags)
  pub has : m.tags e.found.project ≡ Some tags
  pub listed : Contains tags e.found.tag

abbrev pub TagEntries : Trees → State → Type 0
TagEntries db m = (e : TagEntry) × IsEntry db m e

abbrev pub entry_row : (db : Trees) (m : State) → TagEntries db m → Row
entry_row db m e = Int e.0.slot ∷ tag_columns e.0.found.tag

is_owned : Has owned 17
is_owned = inr (inr (inr (inr (inr (inr (inl refl))))))

module _ (db : Trees) (m : State) (s : StandsFor db m) where
  from_owned : (row : Row) → IsOwned db s.parts 17 row → (e : TagEntries db m) × (row ≡ entry_row db m e)
  from_owned row o = elim (which_part o.part) [
    | inl one ↦
        let d = dump_of db m s o.project o.rows (subst (λ (k : Part). s.parts o.project k ≡ Some o.rows) one o.has) in
        absurd (subst (λ (r : ℕ → List Row). Has (r 17) o.values) d.2.are_rows o.listed)
    | inr two ↦
        let t = tags_of db m s o.project o.rows (subst (λ (k : Part). s.parts o.project k ≡ Some o.rows) two o.has) in
        let it = from_map tag_columns t.0 o.values (subst (λ (r : ℕ → List Row). Has (r 17) o.values) t.2 o.listed) in (
          (
            record { slot = o.id; found = record { project = o.project; tag = it.0 } },
            record { tags = t.0; slot = subst (λ (k : Part). Has (db slot_tree) (slot_row o.id o.project k)) two o.slot; has = t.1; listed = contains_had t.0 it.0 it.1 },
          ),
          o.is ∙ ap (λ (v : Row). Int o.id ∷ v) it.2,
        )
  ]

  pub typed_tags : AreTyped (entry_row db m) (db tag_tree)
  typed_tags =
      let it = table_of 17 is_owned in
      subst (λ (t : ℕ). AreTyped (entry_row db m) (db t)) it.2
      (typed_as (entry_row db m) db s.parts _ s.keeps it.0 it.1 (λ row h. let e = from_owned row ((s.keeps.children 17 is_owned row).0 (subst (λ (t : ℕ). Holds db t row) it.2 h)) in (e.0, e.1)))

  pub held_tag : (e : TagEntries db m) → Holds db tag_tree (entry_row db m e)
  held_tag e =
      let r = rows_of_tags db m s e.0.found.project e.1.tags e.1.has in
      let listed = to_map tag_columns e.1.tags e.0.found.tag (has_contained e.1.tags e.0.found.tag e.1.listed) in
      (s.keeps.children 17 is_owned (entry_row db m e)).1 (record {
        id = e.0.slot;
        project = e.0.found.project;
        part = Tags;
        rows = r.0;
        values = tag_columns e.0.found.tag;
        slot = e.1.slot;
        has = r.1;
        listed = subst (λ (f : ℕ → List Row). Has (f 17) (tag_columns e.0.found.tag)) (sym r.2) listed;
        is = refl;
      })

  -- a row that shows an entry has its tag
  tells : (x : TagRow) (e : TagEntries db m) → tag_row_columns x ≡ entry_row db m e → TellsTag db m x e.0.found
  tells x e h =
      let id : e.0.slot ≡ x.slot = let a = h in cc in
      record { tags = e.1.tags; slot = subst (λ (i : ℤ). Has (db slot_tree) (slot_row i e.0.found.project Tags)) id e.1.slot; has = e.1.has; listed = e.1.listed; is = let a = h in cc }

  module _ (IsNamed : List ℕ → Type 0) where
    abbrev Wanted : ℤ → TagEntries db m → Type 0
    Wanted at e = IsNamed e.0.found.tag.name

    pub told_named : (xs : List TagRow) → Selects (entry_row db m) (λ at e. entry_row db m e) Wanted db 17 (map tag_row_columns xs) → TellNamed db m IsNamed xs
    told_named xs found = record {
      each = all_of _ xs (λ x there.
          let e = of_all _ (map tag_row_columns xs) (tag_row_columns x) found.each (to_map tag_row_columns xs x there) in
          (e.0.0.found, tells x e.0 e.2, e.1.1));
      all = λ v is named.
          let r = rows_of_tags db m s v.project is.0 is.1 in
          let slot = s.keeps.there v.project Tags r.0 r.1 in
          let e : TagEntries db m = (record { slot = slot.0; found = v }, record { tags = is.0; slot = slot.1; has = is.1; listed = is.2 }) in
          let x = from_map tag_row_columns xs (entry_row db m e) (found.all e (held_tag e, named)) in
          (x.0, x.1, tells x.0 e (sym x.2));
    }

module _ (name : List ℕ) where
  module _ (db : Trees) (m : State) where
    abbrev HasName : ℤ → TagEntries db m → Type 0
    HasName at e = e.0.found.tag.name ≡ name

    selection : IsSelection (entry_row db m) (λ at e. entry_row db m e) HasName SELECT_TAGS_OF_NAME.now (Text name ∷ []) 17
    selection = record {
      pairs = (3, 0) ∷ [];
      terms = tag_terms;
      names = tag_names;
      is = select_named_is;
      own = λ db. refl;
      shows = λ at e. refl;
      alike = λ at e. (tt, tt);
      wants = λ at e h. let a = h.0 in cc;
      wanted = λ at e w. (ap Text w, tt);
    }

  pub named_found : (m : State) (old new : Store) (rows : List Row) (xs : List TagRow) → StandsFor old.now.trees m → old.now.schema ≡ schema_two → Shown SELECT_TAGS_OF_NAME.now (Text name ∷ []) old new rows → AreRead tag_row_columns rows xs
      → TellNamed old.now.trees m (λ text. text ≡ name) xs
  unfolding selection
  named_found m old new rows xs s schema shown read =
      let db = old.now.trees in
      told_named db m s (λ text. text ≡ name) xs
      (selects_typed (entry_row db m) (λ at e. entry_row db m e) (HasName db m) tag_row_columns SELECT_TAGS_OF_NAME.now (Text name ∷ []) 17 (selection db m) (λ x. refl) old new rows schema (typed_tags db m s) shown xs read)
