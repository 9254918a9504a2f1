-- The marks of a range, as they are selected.
use Rattle.std.proofs.Common.{◌≡◌, inl, inr, ℕ, ℤ, List, [], ◌∷◌, map, Some, None, codes, refl, sym, ap, subst, ◌∙◌, string_bytes, ◌↔◌, Contains}
use Rattle.std.specs.List.{AllByRecursion}
use Rattle.sqlite.specs.Listing.{understood}
use Rattle.sqlite.specs.State.{State as Store, Shown}
use Rattle.sqlite_tied.specs.Compute.{everything}
use Rattle.sqlite_value.specs.Order.{Row}
use Rattle.sqlite_value.specs.declared.value.Value.TheVariants.{Int, Text}
use Rattle.sqlite_sql.specs.Term.{col}
use Rattle.sqlite_trees.specs.Tree.{Trees}
use Rattle.sqlite_rules.specs.Lists.{Has}
use Rattle.lsif.specs.declared.element.MonikerKind.{MonikerKind}
use Rattle.lsif.specs.declared.element.MonikerKind.TheVariants.{Import, Export, Local}
use Rattle.dump.specs.Progress.{DumpValue}
use Rattle.flatten.specs.Flat.{RowsValue, IsFlat, MarkRowValue, IsMarkRow, kind_index}
use Rattle.tables.specs.declared.slots.Part.TheVariants.{Dump}
use Rattle.tables.specs.Schema.{schema_two}
use Rattle.tables.specs.Columns.{number, dump_rows, mark_columns}
use Rattle.tables.specs.Contents.{owned, slot_row}
use Rattle.machine.specs.State.{State}
use Rattle.tables.specs.Stands.{StandsFor}
use Rattle.machine.specs.Selections.{MarkText, HasMark, FindsMarks, mark_found}
use Rattle.machine.specs.declared.selections.FoundMark.{FoundMark}
use Rattle.tables.specs.declared.marks.TheConstants.{SELECT_MARKS}
use Rattle.tables.specs.Steps.Selected.{AreRead, equals}
use Rattle.tables.specs.Steps.DumpEntries.{Entries, entry_values, SelectsOf}
use Rattle.tables.specs.TableTrees.{slot_tree}
use Rattle.tables.proofs.DumpEntries.{typed, selects_of, listed_are, dump_slot, are_values, none_are}
use Rattle.tables.proofs.Keeping.{same_some, none_is_some}
use Rattle.tables.proofs.Select.{IsSelect, one_table}
use Rattle.tables.proofs.Selecting.{IsSelection, selects_typed}

pub select_marks_is : IsSelect schema_two SELECT_MARKS.now (one_table 13 (equals ((1, 0) ∷ (2, 1) ∷ [])) (col 1 3 ∷ col 1 4 ∷ [])) (codes "kind" ∷ codes "keytext" ∷ [])
unfolding understood everything
select_marks_is = record { is = refl; plain = (refl, refl); unlisted = refl; silent = λ schema base. refl }

pub one_kind : (j k : MonikerKind) → number (kind_index j) ≡ number (kind_index k) → j ≡ k
one_kind Import Import e = refl
one_kind Import Export e = absurd cc
one_kind Import Local e = absurd cc
one_kind Export Import e = absurd cc
one_kind Export Export e = refl
one_kind Export Local e = absurd cc
one_kind Local Import e = absurd cc
one_kind Local Export e = absurd cc
one_kind Local Local e = refl

-- ---- the selection

abbrev IsMark : DumpValue → MarkRowValue → Type 0
IsMark dump row = IsMarkRow dump.elements row

abbrev mark_shown : MarkRowValue → Row
mark_shown e = number (kind_index e.kind) ∷ Text e.key ∷ []

abbrev found_columns : FoundMark → Row
found_columns x = number (kind_index x.kind) ∷ Text (string_bytes x.key) ∷ []

are : (d : DumpValue) (flat : RowsValue) → IsFlat d.elements flat → (row : Row) → Has (dump_rows d.profile flat 13) row ↔ ((e : MarkRowValue) × IsMark d e × (row ≡ mark_columns e))
are d flat is = listed_are (IsMark d) mark_columns flat.marks is.marks

is_owned : Has owned 13
is_owned = inr (inr (inr (inr (inl refl))))

module _ (line : ℕ) where
  abbrev IsAtLine : MarkRowValue → Type 0
  IsAtLine e = e.range ≡ line

  abbrev entry : MarkText → MarkRowValue
  entry v = record { range = line; kind = v.kind; key = v.key }

  module _ (db : Trees) (m : State) (id : ℤ) where
    abbrev IsWanted : ℤ → Entries IsMark db m → Type 0
    IsWanted at e = (e.0.slot ≡ id) × IsAtLine e.0.value

    selection : IsSelection (entry_values mark_columns IsMark db m) (λ at e. mark_shown e.0.value) IsWanted SELECT_MARKS.now (Int id ∷ number line ∷ []) 13
    selection = record {
      pairs = (1, 0) ∷ (2, 1) ∷ [];
      terms = col 1 3 ∷ col 1 4 ∷ [];
      names = codes "kind" ∷ codes "keytext" ∷ [];
      is = select_marks_is;
      own = λ db. refl;
      shows = λ at e. refl;
      alike = λ at e. (tt, (tt, tt));
      wants = λ at e h. ((let a = h.0 in cc), (let a = h.1.0 in cc));
      wanted = λ at e w. (ap Int w.0, (ap number w.1, tt));
    }

  is_entry : (x : FoundMark) (e : MarkRowValue) → IsAtLine e → found_columns x ≡ mark_shown e → e ≡ entry (mark_found x)
  is_entry x e at same =
      let kind = one_kind e.kind x.kind (let a = same in cc) in
      let key : e.key ≡ string_bytes x.key = let a = same in cc in
      λ i. record { range = at i; kind = kind i; key = key i }

  is_value : (x : FoundMark) (v : MarkText) → found_columns x ≡ mark_shown (entry v) → mark_found x ≡ v
  is_value x v same =
      let kind = one_kind x.kind v.kind (let a = same in cc) in
      let key : string_bytes x.key ≡ v.key = let a = same in cc in
      λ i. record { kind = kind i; key = key i }

  finds : (m : State) (project : List ℕ) (dump : DumpValue) → m.dump project ≡ Some dump → (xs : List FoundMark) → AllByRecursion (λ (x : FoundMark). Unit {0}) xs → SelectsOf mark_shown (IsMark dump) IsAtLine (map found_columns xs) → (v : MarkText)
      → Contains (map mark_found xs) v ↔ HasMark m project line v
  finds m project dump has xs sound found v =
      let it = are_values mark_shown (IsMark dump) IsAtLine found_columns mark_found entry (λ x. Unit {0}) (λ v. refl) (λ x e s o. is_entry x e) (λ x v s o. is_value x v) xs sound found v in (
        (λ at. (dump, has, it.0 at)),
        (λ h. it.1 (subst (λ (d : DumpValue). IsMark d (entry v)) (same_some (sym h.1 ∙ has)) h.2)),
      )

  pub marks_found : (m : State) (id : ℤ) (project : List ℕ) (old new : Store) (rows : List Row) (found : List FoundMark) → StandsFor old.now.trees m → old.now.schema ≡ schema_two → Has (old.now.trees slot_tree) (slot_row id project Dump)
      → Shown SELECT_MARKS.now (Int id ∷ number line ∷ []) old new rows → AreRead found_columns rows found → AllByRecursion (λ (x : FoundMark). Unit {0}) found → FindsMarks m project line (map mark_found found)
  unfolding selection
  marks_found m id project old new rows found s schema slot shown read sound =
      let db = old.now.trees in
      let dump = dump_slot db m s project id slot in
      finds m project dump.0 dump.1 found sound (selects_of db m s IsMark mark_columns 13 is_owned are (λ tags. refl) project dump.0 id slot dump.1 IsAtLine mark_shown (map found_columns found)
      (selects_typed (entry_values mark_columns IsMark db m) (λ at e. mark_shown e.0.value) (IsWanted db m id) found_columns SELECT_MARKS.now (Int id ∷ number line ∷ []) 13 (selection db m id) (λ x. refl) old new rows schema
      (typed db m s IsMark mark_columns 13 is_owned are (λ tags. refl)) shown found read))

pub no_marks : (m : State) (project : List ℕ) (line : ℕ) → m.dump project ≡ None → FindsMarks m project line []
no_marks m project line none = none_are (HasMark m project line) (λ v h. absurd (none_is_some (sym none ∙ h.1)))
