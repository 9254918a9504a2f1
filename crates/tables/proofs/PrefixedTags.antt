-- The tags whose names begin with a text, as they are selected.
use Rattle.std.proofs.Common.{◌≡◌, ℕ, ℤ, Bool, true, nat_cmp, List, [], ◌∷◌, refl, sym, ap, subst, ◌∙◌, ◌&&◌}
use Rattle.std.proofs.Math.Bool.{and-true}
use Rattle.std.proofs.lemmas.Bool.{and_parts}
use Rattle.std.specs.Cmp.Derive.{both_true}
use Rattle.std.specs.List.{list_all}
use Rattle.std.specs.Ordering.{is_ge, is_lt}
use Rattle.std.specs.Cmp.Lexicographic.{slice_cmp}
use Rattle.std.specs.List.Sorted.{IsPermutation}
use Rattle.sqlite.specs.Listing.{understood}
use Rattle.sqlite.specs.State.{State as Store, Shown}
use Rattle.sqlite_tied.specs.Compute.{everything}
use Rattle.sqlite_value.specs.declared.keys.Collation.TheVariants.{Binary}
use Rattle.sqlite_value.specs.declared.value.Value.{Value}
use Rattle.sqlite_value.specs.declared.value.Value.TheVariants.{Null, Int, Real, Text, Blob}
use Rattle.sqlite_value.specs.Order.{Row, value_cmp}
use Rattle.sqlite_value.proofs.OrderLemmas.{value_cmp-Text}
use Rattle.sqlite_sql.specs.declared.ops.BinaryOp.TheVariants.{Compare}
use Rattle.sqlite_sql.specs.declared.ops.CompareOp.TheVariants.{Ge, Lt}
use Rattle.sqlite_sql.specs.Ops.{binary}
use Rattle.sqlite_sql.specs.Term.{Term, col, op2, holds}
use Rattle.sqlite_trees.specs.Tree.{Trees}
use Rattle.sqlite_rules.specs.Lists.{Has}
use Rattle.machine.specs.FoundTags.{BeginsWith}
use Rattle.machine.specs.State.{State}
use Rattle.tables.specs.Databases.{chosen}
use Rattle.tables.specs.Schema.{schema_two}
use Rattle.tables.specs.Stands.{StandsFor}
use Rattle.tables.specs.TableTrees.{tag_tree}
use Rattle.tables.specs.declared.found_tags.TagRow.{TagRow}
use Rattle.tables.specs.declared.names.TheConstants.{SELECT_TAGS_OF_PREFIX}
use Rattle.tables.specs.Steps.Selected.{AreRead, Selects}
use Rattle.tables.specs.Steps.TagRows.{IsBehind, TellNamed, tag_row_columns}
use Rattle.tables.proofs.FoundTags.{TagEntries, entry_row, tag_terms, tag_names, typed_tags, told_named}
use Rattle.tables.proofs.PartRemoved.{truly}
use Rattle.tables.proofs.Prefixes.{not_below, if_begins, before, begins_within}
use Rattle.tables.proofs.Reading.{rows_are}
use Rattle.tables.proofs.Select.{IsSelect, one_table, selects}
use Rattle.tables.proofs.Selecting.{show, all_of, from_table, into_answer, wide_as}

-- `name >= ?1 AND name < ?2`
abbrev within_prefix : List Term
within_prefix = op2 (Compare Ge Binary) (col 1 3) (col 0 0) ∷ op2 (Compare Lt Binary) (col 1 3) (col 0 1) ∷ []

pub select_prefixed_is : IsSelect schema_two SELECT_TAGS_OF_PREFIX.now (one_table 17 within_prefix tag_terms) tag_names
unfolding understood everything
select_prefixed_is = record { is = refl; plain = (refl, refl); unlisted = refl; silent = λ schema base. refl }

module _ (prefix : List ℕ) (behind : Value) (is_behind : IsBehind prefix behind) where
  abbrev params : Row
  params = Text prefix ∷ behind ∷ []

  module _ (db : Trees) (m : State) (s : StandsFor db m) where
    abbrev name_of : TagEntries db m → List ℕ
    name_of e = e.0.found.tag.name

    abbrev is_within : TagEntries db m → Value → Bool
    is_within e v = is_ge (slice_cmp nat_cmp (name_of e) prefix) && is_lt (value_cmp (Text (name_of e)) v)

    test_is : (v : Value) → IsBehind prefix v → (id : ℤ) (e : TagEntries db m) → list_all (holds ((Text prefix ∷ v ∷ []) ∷ (Int id ∷ entry_row db m e) ∷ [])) within_prefix ≡ is_within e v
    unfolding binary
    test_is (Text end) is id e =
        rw (value_cmp-Text (name_of e) prefix, value_cmp-Text (name_of e) end, truly (is_ge (slice_cmp nat_cmp (name_of e) prefix)), truly (is_lt (slice_cmp nat_cmp (name_of e) end)))
        (ap (λ b. is_ge (slice_cmp nat_cmp (name_of e) prefix) && b) (and-true (is_lt (slice_cmp nat_cmp (name_of e) end))))
    test_is (Blob b) is id e =
        rw (value_cmp-Text (name_of e) prefix, truly (is_ge (slice_cmp nat_cmp (name_of e) prefix)), truly (is_lt (value_cmp (Text (name_of e)) (Blob b))))
        (ap (λ t. is_ge (slice_cmp nat_cmp (name_of e) prefix) && t) (and-true (is_lt (value_cmp (Text (name_of e)) (Blob b)))))
    test_is Null none id e = absurd none
    test_is (Int n) none id e = absurd none
    test_is (Real x) none id e = absurd none

    module _ (rows : List Row) (same : IsPermutation (chosen within_prefix tag_terms params (db tag_tree)) rows) where
      all_within : Selects (entry_row db m) (λ at e. entry_row db m e) (λ at e. BeginsWith (name_of e) prefix) db 17 rows
      all_within = record {
        each = all_of _ rows (λ r there.
            let was = from_table within_prefix tag_terms params (db tag_tree) rows same r there in
            let e = typed_tags db m s was.0 was.1 in
            let ok = sym (test_is behind is_behind e.0 e.1) ∙ subst (λ x. list_all (holds (params ∷ x ∷ [])) within_prefix ≡ true) e.2 was.2 in
            let parts = and_parts _ _ ok in
            (e.1, ((e.0, subst (Has (db tag_tree)) e.2 was.1), begins_within prefix (name_of e.1) behind is_behind parts.0 parts.1), was.3 ∙ ap (show tag_terms params) e.2));
        all = λ e w.
            let ok = both_true (not_below prefix (name_of e) (if_begins prefix (name_of e) w.1)) (before prefix (name_of e) behind is_behind w.1) in
            into_answer within_prefix tag_terms params (db tag_tree) rows same (Int w.0.0 ∷ entry_row db m e) w.0.1 (test_is behind is_behind w.0.0 e ∙ ok);
      }

      told : (xs : List TagRow) → AreRead tag_row_columns rows xs → TellNamed db m (λ text. BeginsWith text prefix) xs
      told xs read =
          let is = rows_are tag_row_columns 7 (λ x. refl) rows xs (wide_as within_prefix tag_terms params (db tag_tree) rows same) read in
          told_named db m s (λ text. BeginsWith text prefix) xs (subst (Selects (entry_row db m) (λ at e. entry_row db m e) (λ at e. BeginsWith (name_of e) prefix) db 17) is all_within)

  pub told_prefixed : (m : State) (old new : Store) (rows : List Row) (xs : List TagRow) → StandsFor old.now.trees m → old.now.schema ≡ schema_two → Shown SELECT_TAGS_OF_PREFIX.now params old new rows → AreRead tag_row_columns rows xs
      → TellNamed old.now.trees m (λ text. BeginsWith text prefix) xs
  told_prefixed m old new rows xs s schema shown read =
      told old.now.trees m s rows (selects schema_two SELECT_TAGS_OF_PREFIX.now params 17 within_prefix tag_terms tag_names select_prefixed_is (λ db. refl) old new rows schema shown) xs read
