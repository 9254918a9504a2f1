-- Whether a dump has a document, as it is selected.
use Rattle.std.proofs.Common.{◌≡◌, inl, ℤ, ℕ, List, [], ◌∷◌, Option, Some, None, is_some, codes, refl, ap, subst, ◌∙◌, ◌↔◌, IsTrue}
use Rattle.sqlite.specs.Listing.{understood}
use Rattle.sqlite.specs.State.{State as Store, Shown}
use Rattle.sqlite_tied.specs.Compute.{everything}
use Rattle.sqlite_value.specs.Order.{Row}
use Rattle.sqlite_value.specs.declared.value.Value.TheVariants.{Int, Text}
use Rattle.sqlite_sql.specs.Term.{col}
use Rattle.sqlite_trees.specs.Tree.{Trees}
use Rattle.sqlite_rules.specs.Lists.{Has}
use Rattle.dump.specs.Places.{HasDocument}
use Rattle.dump.specs.Progress.{DumpValue}
use Rattle.flatten.specs.Flat.{RowsValue, IsFlat}
use Rattle.tables.specs.declared.slots.Part.TheVariants.{Dump}
use Rattle.tables.specs.Schema.{schema_two}
use Rattle.tables.specs.Columns.{dump_rows, document_columns}
use Rattle.tables.specs.Contents.{owned, slot_row}
use Rattle.machine.specs.State.{State}
use Rattle.tables.specs.Stands.{StandsFor}
use Rattle.tables.specs.declared.documents.TheConstants.{SELECT_DOCUMENT}
use Rattle.tables.specs.Steps.Selected.{IsFirstRead, ShowsOne, equals}
use Rattle.tables.specs.Steps.DumpEntries.{Entries, entry_values, ShowsOneOf}
use Rattle.tables.specs.TableTrees.{slot_tree}
use Rattle.tables.proofs.DumpEntries.{typed, shows_one_of, listed_are}
use Rattle.tables.proofs.Select.{IsSelect, one_table}
use Rattle.tables.proofs.Selecting.{IsSelection, shows_one}

pub select_document_is : IsSelect schema_two SELECT_DOCUMENT.now (one_table 5 (equals ((1, 0) ∷ (2, 1) ∷ [])) (col 1 1 ∷ [])) (codes "slot" ∷ [])
unfolding understood everything
select_document_is = record { is = refl; plain = (refl, refl); unlisted = refl; silent = λ schema base. refl }

abbrev IsDocument : DumpValue → List ℕ → Type 0
IsDocument dump uri = HasDocument dump.elements uri

abbrev slot_columns : ℤ → Row
slot_columns id = Int id ∷ []

are : (d : DumpValue) (flat : RowsValue) → IsFlat d.elements flat → (row : Row) → Has (dump_rows d.profile flat 5) row ↔ ((uri : List ℕ) × IsDocument d uri × (row ≡ document_columns uri))
are d flat is = listed_are (IsDocument d) document_columns flat.documents is.documents

is_owned : Has owned 5
is_owned = inl refl

module _ (uri : List ℕ) where
  abbrev HasUri : List ℕ → Type 0
  HasUri e = e ≡ uri

  module _ (db : Trees) (m : State) (id : ℤ) where
    abbrev IsWanted : ℤ → Entries IsDocument db m → Type 0
    IsWanted at e = (e.0.slot ≡ id) × HasUri e.0.value

    selection : IsSelection (entry_values document_columns IsDocument db m) (λ at e. slot_columns e.0.slot) IsWanted SELECT_DOCUMENT.now (Int id ∷ Text uri ∷ []) 5
    selection = record {
      pairs = (1, 0) ∷ (2, 1) ∷ [];
      terms = col 1 1 ∷ [];
      names = codes "slot" ∷ [];
      is = select_document_is;
      own = λ db. refl;
      shows = λ at e. refl;
      alike = λ at e. (tt, (tt, tt));
      wants = λ at e h. ((let a = h.0 in cc), (let a = h.1.0 in cc));
      wanted = λ at e w. (ap Int w.0, (ap Text w.1, tt));
    }

    -- the slot that is shown is the one asked for
    shows_slot : (found : Option ℤ) → ShowsOne (entry_values document_columns IsDocument db m) (λ at e. slot_columns e.0.slot) IsWanted slot_columns db 5 found
        → ShowsOne (entry_values document_columns IsDocument db m) (λ at e. slot_columns id) IsWanted slot_columns db 5 found
    shows_slot None none = none
    shows_slot (Some n) one = (one.0, one.1, one.2 ∙ ap slot_columns one.1.1.0)

  says : (d : DumpValue) (id : ℤ) (found : Option ℤ) → ShowsOneOf (λ e. slot_columns id) (IsDocument d) HasUri slot_columns found → IsTrue (is_some found) ↔ HasDocument d.elements uri
  says d id None none = ((λ yes. absurd cc), (λ h. absurd (none uri h refl)))
  says d id (Some n) one = ((λ yes. subst (HasDocument d.elements) one.2 one.1), (λ h. refl))

  pub document_found : (m : State) (id : ℤ) (project : List ℕ) (dump : DumpValue) (old new : Store) (rows : List Row) (found : Option ℤ) → StandsFor old.now.trees m → old.now.schema ≡ schema_two → Has (old.now.trees slot_tree) (slot_row id project Dump)
      → m.dump project ≡ Some dump → Shown SELECT_DOCUMENT.now (Int id ∷ Text uri ∷ []) old new rows → IsFirstRead slot_columns rows found → IsTrue (is_some found) ↔ HasDocument dump.elements uri
  unfolding selection
  document_found m id project dump old new rows found s schema slot has shown read =
      let db = old.now.trees in
      says dump id found (shows_one_of db m s IsDocument document_columns 5 is_owned are (λ tags. refl) project dump id slot has HasUri (λ e. slot_columns id) slot_columns found
      (shows_slot db m id found
      (shows_one (entry_values document_columns IsDocument db m) (λ at e. slot_columns e.0.slot) (IsWanted db m id) slot_columns SELECT_DOCUMENT.now (Int id ∷ Text uri ∷ []) 5 (selection db m id) (λ x. refl) old new rows schema
      (typed db m s IsDocument document_columns 5 is_owned are (λ tags. refl)) shown found read)))
