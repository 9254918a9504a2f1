-- The contents of a hover result, as they are selected.
use Rattle.std.proofs.Common.{◌≡◌, inl, inr, ℕ, ℤ, List, [], ◌∷◌, Option, Some, None, codes, refl, sym, ap, subst, ◌∙◌, option_map, string_bytes, ◌↔◌}
use Rattle.std.specs.declared.string.String.{String}
use Rattle.std.specs.declared.alloc.Global.{Global}
use Rattle.sqlite.specs.Listing.{understood}
use Rattle.sqlite.specs.State.{State as Store, Shown}
use Rattle.sqlite_tied.specs.Compute.{everything}
use Rattle.sqlite_value.specs.Order.{Row}
use Rattle.sqlite_value.specs.declared.value.Value.TheVariants.{Int, Text}
use Rattle.sqlite_sql.specs.Term.{col}
use Rattle.sqlite_trees.specs.Tree.{Trees}
use Rattle.sqlite_rules.specs.Lists.{Has}
use Rattle.dump.specs.Progress.{DumpValue}
use Rattle.flatten.specs.Flat.{RowsValue, IsFlat, HoverRowValue, IsHoverRow}
use Rattle.tables.specs.declared.slots.Part.TheVariants.{Dump}
use Rattle.tables.specs.Schema.{schema_two}
use Rattle.tables.specs.Columns.{number, dump_rows, hover_columns}
use Rattle.tables.specs.Contents.{owned, slot_row}
use Rattle.machine.specs.State.{State}
use Rattle.tables.specs.Stands.{StandsFor}
use Rattle.machine.specs.Selections.{FindsHover}
use Rattle.tables.specs.declared.results.TheConstants.{SELECT_HOVER}
use Rattle.tables.specs.Steps.Selected.{IsFirstRead, equals}
use Rattle.tables.specs.Steps.DumpEntries.{Entries, entry_values, ShowsOneOf}
use Rattle.tables.specs.TableTrees.{slot_tree}
use Rattle.tables.proofs.DumpEntries.{typed, shows_one_of, listed_are, dump_slot}
use Rattle.tables.proofs.Keeping.{same_some}
use Rattle.tables.proofs.Select.{IsSelect, one_table}
use Rattle.tables.proofs.Selecting.{IsSelection, shows_one}

pub select_hover_is : IsSelect schema_two SELECT_HOVER.now (one_table 11 (equals ((1, 0) ∷ (2, 1) ∷ [])) (col 1 3 ∷ [])) (codes "contents" ∷ [])
unfolding understood everything
select_hover_is = record { is = refl; plain = (refl, refl); unlisted = refl; silent = λ schema base. refl }

abbrev IsHover : DumpValue → HoverRowValue → Type 0
IsHover dump row = IsHoverRow dump.elements row

abbrev contents_shown : HoverRowValue → Row
contents_shown h = Text h.contents ∷ []

abbrev text_columns : String Global → Row
text_columns s = Text (string_bytes s) ∷ []

are : (d : DumpValue) (flat : RowsValue) → IsFlat d.elements flat → (row : Row) → Has (dump_rows d.profile flat 11) row ↔ ((h : HoverRowValue) × IsHover d h × (row ≡ hover_columns h))
are d flat is = listed_are (IsHover d) hover_columns flat.hovers is.hovers

is_owned : Has owned 11
is_owned = inr (inr (inr (inl refl)))

module _ (result : ℕ) where
  abbrev HasNumber : HoverRowValue → Type 0
  HasNumber h = h.result ≡ result

  module _ (db : Trees) (m : State) (id : ℤ) where
    abbrev IsWanted : ℤ → Entries IsHover db m → Type 0
    IsWanted at e = (e.0.slot ≡ id) × HasNumber e.0.value

    selection : IsSelection (entry_values hover_columns IsHover db m) (λ at e. contents_shown e.0.value) IsWanted SELECT_HOVER.now (Int id ∷ number result ∷ []) 11
    selection = record {
      pairs = (1, 0) ∷ (2, 1) ∷ [];
      terms = col 1 3 ∷ [];
      names = codes "contents" ∷ [];
      is = select_hover_is;
      own = λ db. refl;
      shows = λ at e. refl;
      alike = λ at e. (tt, (tt, tt));
      wants = λ at e h. ((let a = h.0 in cc), (let a = h.1.0 in cc));
      wanted = λ at e w. (ap Int w.0, (ap number w.1, tt));
    }

  finds : (m : State) (project : List ℕ) (dump : DumpValue) → m.dump project ≡ Some dump → (found : Option (String Global)) → ShowsOneOf contents_shown (IsHover dump) HasNumber text_columns found → FindsHover m project result (option_map string_bytes found)
  finds m project dump has None none =
      λ contents h. none (record { result = result; contents = contents }) (subst (λ (d : DumpValue). IsHover d (record { result = result; contents = contents })) (same_some (sym h.1 ∙ has)) h.2) refl
  finds m project dump has (Some text) one =
      let h = one.0 in
      let same : h.contents ≡ string_bytes text = let a = one.3 in cc in
      (dump, has, subst (λ (x : ℕ × List ℕ). IsHover dump (record { result = x.0; contents = x.1 })) (λ i. (one.2 i, same i)) one.1)

  pub hover_found : (m : State) (id : ℤ) (project : List ℕ) (old new : Store) (rows : List Row) (found : Option (String Global)) → StandsFor old.now.trees m → old.now.schema ≡ schema_two → Has (old.now.trees slot_tree) (slot_row id project Dump)
      → Shown SELECT_HOVER.now (Int id ∷ number result ∷ []) old new rows → IsFirstRead text_columns rows found → FindsHover m project result (option_map string_bytes found)
  unfolding selection
  hover_found m id project old new rows found s schema slot shown read =
      let db = old.now.trees in
      let dump = dump_slot db m s project id slot in
      finds m project dump.0 dump.1 found (shows_one_of db m s IsHover hover_columns 11 is_owned are (λ tags. refl) project dump.0 id slot dump.1 HasNumber contents_shown text_columns found
      (shows_one (entry_values hover_columns IsHover db m) (λ at e. contents_shown e.0.value) (IsWanted db m id) text_columns SELECT_HOVER.now (Int id ∷ number result ∷ []) 11 (selection db m id) (λ x. refl) old new rows schema
      (typed db m s IsHover hover_columns 11 is_owned are (λ tags. refl)) shown found read))
