-- The bearers of a key, as they are selected.
use Rattle.std.proofs.Common.{◌≡◌, ◌⊎◌, inl, inr, ℕ, ℤ, true, List, [], ◌∷◌, ◌++◌, ◌+◌, None, length, map, refl, sym, ap, subst, ◌∙◌, ◌↔◌, Contains, string_bytes}
use Rattle.std.specs.List.{list_all, range_with_len}
use Rattle.sqlite.specs.State.{State as Store, Shown}
use Rattle.sqlite_value.specs.Order.{Row, column}
use Rattle.sqlite_value.specs.declared.value.Value.TheVariants.{Int, Text}
use Rattle.sqlite_sql.specs.Term.{holds}
use Rattle.sqlite_sql.specs.Query.{IsAnswer, or_nulls}
use Rattle.sqlite_sql.specs.Program.{overlay}
use Rattle.sqlite_trees.specs.Tree.{Trees}
use Rattle.sqlite_rules.specs.Lists.{Has}
use Rattle.sqlite_rules.proofs.ListLemmas.{has_contained, contains_had, has_filtered, has_kept}
use Rattle.flatten.specs.Rows.{results_value}
use Rattle.lsif.specs.RequestKinds.{kinds}
use Rattle.lsif.proofs.RequestKinds.{listed}
use Rattle.tables.specs.declared.slots.Part.TheVariants.{Dump}
use Rattle.dump.specs.Progress.{DumpValue}
use Rattle.flatten.specs.Flat.{RowsValue, IsFlat, BearerRowValue, IsBearerRow, kind_index}
use Rattle.tables.specs.Schema.{schema_two}
use Rattle.tables.specs.Columns.{number, kind_columns, dump_rows, bearer_columns}
use Rattle.tables.specs.Kinds.{own_kinds, more_kinds}
use Rattle.tables.specs.Contents.{owned, slot_row}
use Rattle.machine.specs.State.{State}
use Rattle.tables.specs.Stands.{StandsFor}
use Rattle.machine.specs.Selections.{BearerFound, Bears, bearer_found, bearer_row}
use Rattle.machine.specs.declared.selections.FoundBearer.{FoundBearer}
use Rattle.tables.specs.declared.bearers.TheConstants.{SELECT_BEARERS_OF_KEY}
use Rattle.tables.specs.Steps.Selected.{AreRead}
use Rattle.tables.specs.Steps.DumpEntries.{Entries, entry_values}
use Rattle.tables.specs.Steps.Known.{IsKnown, IsMore, MoreValue, more_values}
use Rattle.tables.proofs.DumpEntries.{typed, held, in_dump, rows_of, listed_are}
use Rattle.tables.proofs.Equalities.{same_if, if_same}
use Rattle.tables.proofs.FoundMarks.{one_kind}
use Rattle.tables.proofs.FoundSlots.{one_slot}
use Rattle.tables.proofs.Joined.{joined, of_line, of_slot, of_key, mores, slots, shows, each_joins, all_joins, answer_of}
use Rattle.tables.proofs.Keeping.{from_map, to_map, both}
use Rattle.tables.proofs.LineResults.{one_kinds, kinds_columns, of_kind, one_known, nothing, says_none, are as more_are, is_owned as more_owned}
use Rattle.tables.proofs.Reading.{rows_are}

-- what a row of `more`, or none, has in the columns of its kinds
abbrev columns_of : Row → Row
columns_of r = map (column r) (range_with_len 3 (length more_kinds))

abbrev IsBearer : DumpValue → BearerRowValue → Type 0
IsBearer dump row = IsBearerRow dump.elements row

abbrev told_columns : FoundBearer → Row
told_columns b = Text (string_bytes b.project) ∷ number b.line ∷ number (kind_index b.kind) ∷ kind_columns kinds (results_value b.results)

abbrev told : BearerFound → Row
told v = Text v.project ∷ number v.line ∷ number (kind_index v.kind) ∷ kind_columns kinds v.results

are : (d : DumpValue) (flat : RowsValue) → IsFlat d.elements flat → (row : Row) → Has (dump_rows d.profile flat 15) row ↔ ((e : BearerRowValue) × IsBearer d e × (row ≡ bearer_columns e))
are d flat is = listed_are (IsBearer d) bearer_columns flat.bearers is.bearers

is_owned : Has owned 15
is_owned = inr (inr (inr (inr (inr (inl refl)))))

-- what is read is what was shown
is_found : (x : FoundBearer) (v : BearerFound) → told_columns x ≡ told v → bearer_found x ≡ v
is_found x v h =
    let project : string_bytes x.project ≡ v.project = let a = h in cc in
    let line : x.line ≡ v.line = let a = h in cc in
    let kind = one_kind x.kind v.kind (let a = h in cc) in
    let shown : kind_columns kinds (results_value x.results) ≡ kind_columns kinds v.results = let a = h in cc in
    let each = of_kind kinds (results_value x.results) v.results (one_kinds kinds (results_value x.results) v.results shown) in
    λ i. record {
      project = project i;
      line = line i;
      kind = kind i;
      results = λ request. each request (has_contained kinds request (listed request)) i;
    }

some_or_null : (l : List Row) → (r : Row) × Has (or_nulls l) r
some_or_null [] = ([], inl refl)
some_or_null (x ∷ xs) = (x, inl refl)

not_null : (l : List Row) (r : Row) → Has l r → Has (or_nulls l) r
not_null [] r h = absurd h
not_null (x ∷ xs) r h = h

module _ (key : List ℕ) (db : Trees) (m : State) (s : StandsFor db m) where
  abbrev params : Row
  params = Text key ∷ []

  -- the tables as the statement reads them
  abbrev read_from : Trees
  read_from = overlay db []

  abbrev row_of : ℤ → Entries IsBearer db m → Row
  row_of id e = Int id ∷ entry_values bearer_columns IsBearer db m e

  abbrev value_of : Entries IsBearer db m → BearerFound
  value_of e = record { project = e.1.project; line = e.0.value.line; kind = e.0.value.kind; results = e.0.value.results }

  -- the slot of a bearer's dump is there, and so no row of a bearer comes without one
  module _ (e : Entries IsBearer db m) (id : ℤ) where
    abbrev of_dump : List Row
    of_dump = slots params read_from (row_of id e)

    slot_there : Has of_dump (slot_row e.0.slot e.1.project Dump)
    slot_there = has_kept (λ s. list_all (holds (params ∷ row_of id e ∷ s ∷ [])) of_slot) (db 1) (slot_row e.0.slot e.1.project Dump) e.1.slot (rw (if_same (Int e.0.slot) (Int e.0.slot) tt refl) refl)

    slot_of_row : (l : List Row) → of_dump ≡ l → (s : Row) → Has (or_nulls l) s → Has of_dump s
    slot_of_row [] none s h = absurd (subst (λ l. Has l (slot_row e.0.slot e.1.project Dump)) none slot_there)
    slot_of_row (x ∷ xs) is s h = subst (λ l. Has l s) (sym is) h

  module _ (e : Entries IsBearer db m) (id : ℤ) (q : Row) where
    abbrev of_this : List Row
    of_this = mores params read_from (row_of id e) q

    abbrev Tells : Row → Type 0
    Tells r = columns_of r ≡ kind_columns more_kinds e.0.value.results

    -- no row of the line, where there's none of a match
    none_of : of_this ≡ [] → (v : MoreValue) → IsMore e.1.dump v → v.line ≡ e.0.value.line → ⊥
    none_of none v is at =
        let w : Entries IsMore db m = (record { slot = e.0.slot; value = v }, record { project = e.1.project; dump = e.1.dump; slot = e.1.slot; has = e.1.has; is = is }) in
        let there = held db m s IsMore more_values 24 more_owned more_are (λ tags. refl) w in
        let row = Int there.0 ∷ entry_values more_values IsMore db m w in
        let passes : list_all (holds (params ∷ row_of id e ∷ q ∷ row ∷ [])) of_line ≡ true = rw (if_same (Int e.0.slot) (Int e.0.slot) tt refl, if_same (number v.line) (number e.0.value.line) tt (ap number at)) refl in
        subst (λ l. Has l row) none (has_kept (λ r. list_all (holds (params ∷ row_of id e ∷ q ∷ r ∷ [])) of_line) (db 24) row there.1 passes)

    more_of_row : (r : Row) → Has of_this r → Tells r
    more_of_row r h =
        let passed = has_filtered (λ r. list_all (holds (params ∷ row_of id e ∷ q ∷ r ∷ [])) of_line) (db 24) r h in
        let w = typed db m s IsMore more_values 24 more_owned more_are (λ tags. refl) r passed.0 in
        let ok = subst (λ x. list_all (holds (params ∷ row_of id e ∷ q ∷ x ∷ [])) of_line ≡ true) w.2 passed.1 in
        let two = both _ _ ok in
        let slot : w.1.0.slot ≡ e.0.slot = let it = same_if (Int w.1.0.slot) (Int e.0.slot) tt two.0 in cc in
        let line : w.1.0.value.line ≡ e.0.value.line = let it = same_if (number w.1.0.value.line) (number e.0.value.line) tt (both _ _ two.1).0 in cc in
        let is = in_dump db m s IsMore more_values 24 more_owned more_are (λ tags. refl) e.1.project e.1.dump e.0.slot e.1.slot e.1.has (λ v. v.line ≡ e.0.value.line) w.1 slot in
        let v = w.1.0.value in
        let known = subst (λ n. IsKnown e.1.dump n v.results) line is.known in
        let same = one_known e.1.dump e.0.value.line v.results e.0.value.results known (inr (e.0.value, e.1.is, refl, refl)) in
        ap columns_of w.2 ∙ ap (kind_columns more_kinds) same

    more_is : (l : List Row) → of_this ≡ l → (r : Row) → Has (or_nulls l) r → Tells r
    more_is [] none r (inl is) =
        let no_row = nothing e.0.value.line e.1.dump e.0.value.results (inr (e.0.value, e.1.is, refl, refl)) (none_of none) in
        ap columns_of is ∙ kinds_columns more_kinds (λ k. None) e.0.value.results (says_none e.0.value.line (λ k. None) e.0.value.results (λ k. refl) no_row)
    more_is [] none r (inr never) = absurd never
    more_is (x ∷ xs) is r h = more_of_row r (subst (λ l. Has l r) (sym is) h)

    shown_is : (r : Row) → Tells r → column q 2 ≡ Text e.1.project → shows params read_from (row_of id e) q r ≡ told (value_of e)
    shown_is r tells project = λ i. project i ∷ number e.0.value.line ∷ number (kind_index e.0.value.kind) ∷ (kind_columns own_kinds e.0.value.results ++ tells i)

  module _ (rows : List Row) (a : IsAnswer joined read_from params rows) where
    each_bears : (row : Row) → Has rows row → (v : BearerFound) × Bears m key v × (row ≡ told v)
    each_bears row h =
        let j = each_joins params read_from rows a row h in
        let b = typed db m s IsBearer bearer_columns 15 is_owned are (λ tags. refl) j.0 j.3.bearer in
        let e = b.1 in
        let of_slots = slot_of_row e b.0 _ refl j.1 (subst (λ x. Has (or_nulls (slots params read_from x)) j.1) b.2 j.3.slot) in
        let kept = has_filtered (λ s. list_all (holds (params ∷ row_of b.0 e ∷ s ∷ [])) of_slot) (db 1) j.1 of_slots in
        let q = s.keeps.slots j.1 kept.0 in
        let of_this_slot = subst (λ y. list_all (holds (params ∷ row_of b.0 e ∷ y ∷ [])) of_slot ≡ true) q.is kept.1 in
        let slot : q.id ≡ e.0.slot = let it = same_if (Int q.id) (Int e.0.slot) tt (both _ _ of_this_slot).0 in cc in
        let of_this_key = subst (λ x. list_all (holds (params ∷ x ∷ j.1 ∷ j.2 ∷ [])) of_key ≡ true) b.2 j.3.passes in
        let under : e.0.value.key ≡ key = let it = same_if (Text e.0.value.key) (Text key) tt (both _ _ of_this_key).0 in cc in
        let there : Has (db 1) (slot_row e.0.slot q.project q.part) = subst (λ (i : ℤ). Has (db 1) (slot_row i q.project q.part)) slot (subst (Has (db 1)) q.is kept.0) in
        let project = (one_slot db s.parts _ e.0.slot q.project e.1.project q.part Dump s.keeps there e.1.slot).0 in
        let tells = more_is e b.0 j.1 _ refl j.2 (subst (λ x. Has (or_nulls (mores params read_from x j.1)) j.2) b.2 j.3.more) in (
          value_of e,
          (e.1.dump, e.1.has, subst (λ (k : List ℕ). IsBearer e.1.dump (record { line = e.0.value.line; key = k; kind = e.0.value.kind; results = e.0.value.results })) under e.1.is),
          j.4 ∙ (ap (λ x. shows params read_from x j.1 j.2) b.2 ∙ shown_is e b.0 j.1 j.2 tells (ap (λ x. column x 2) q.is ∙ ap Text project)),
        )

    all_bears : (v : BearerFound) → Bears m key v → Has rows (told v)
    all_bears v h =
        let r = rows_of db m s v.project h.0 h.1 in
        let slot = s.keeps.there v.project Dump r.0 r.1 in
        let e : Entries IsBearer db m = (record { slot = slot.0; value = bearer_row key v }, record { project = v.project; dump = h.0; slot = slot.1; has = h.1; is = h.2 }) in
        let row = held db m s IsBearer bearer_columns 15 is_owned are (λ tags. refl) e in
        let q = slot_row slot.0 v.project Dump in
        let more = some_or_null (of_this e row.0 q) in
        let passes : list_all (holds (params ∷ row_of row.0 e ∷ q ∷ more.0 ∷ [])) of_key ≡ true = rw (if_same (Text key) (Text key) tt refl) refl in
        subst (Has rows) (shown_is e row.0 q more.0 (more_is e row.0 q _ refl more.0 more.1) refl)
        (all_joins params read_from rows a (row_of row.0 e) q more.0 (record { bearer = row.1; slot = not_null (of_dump e row.0) q (slot_there e row.0); more = more.1; passes = passes }))

pub bearers_told : (key : List ℕ) (m : State) (old new : Store) (rows : List Row) (xs : List FoundBearer) → StandsFor old.now.trees m → old.now.schema ≡ schema_two → Shown SELECT_BEARERS_OF_KEY.now (Text key ∷ []) old new rows → AreRead told_columns rows xs
    → (v : BearerFound) → Contains (map bearer_found xs) v ↔ Bears m key v
bearers_told key m old new rows xs s has shown read v =
    let db = old.now.trees in
    let a = answer_of (Text key ∷ []) old new rows has shown in
    let all = rows_are told_columns (3 + length kinds) (λ x. refl) rows xs (λ r h. ap length (each_bears key db m s rows a r h).2) read in (
      (λ at.
          let x = from_map bearer_found xs v (has_contained (map bearer_found xs) v at) in
          let it = each_bears key db m s rows a (told_columns x.0) (subst (λ l. Has l (told_columns x.0)) (sym all) (to_map told_columns xs x.0 x.1)) in
          subst (Bears m key) (sym (x.2 ∙ is_found x.0 it.0 it.2)) it.1),
      (λ bears.
          let x = from_map told_columns xs (told v) (subst (λ l. Has l (told v)) all (all_bears key db m s rows a v bears)) in
          contains_had (map bearer_found xs) v (subst (Has (map bearer_found xs)) (is_found x.0 v (sym x.2)) (to_map bearer_found xs x.0 x.1))),
    )

-- ---- one row after the other

pub has_last : {X : Type 0} (xs : List X) (x : X) → Has (xs ++ x ∷ []) x
has_last [] x = inl refl
has_last (y ∷ xs) x = inr (has_last xs x)

pub has_before : {X : Type 0} (xs : List X) (x y : X) → Has xs y → Has (xs ++ x ∷ []) y
has_before [] x y h = absurd h
has_before (z ∷ xs) x y (inl e) = inl e
has_before (z ∷ xs) x y (inr h) = inr (has_before xs x y h)

pub last_or : {X : Type 0} (xs : List X) (x y : X) → Has (xs ++ x ∷ []) y → Has xs y ⊎ (y ≡ x)
last_or [] x y (inl e) = inr e
last_or [] x y (inr h) = absurd h
last_or (z ∷ xs) x y (inl e) = inl (inl e)
last_or (z ∷ xs) x y (inr h) = elim (last_or xs x y h) [ inl a ↦ inl (inr a) | inr e ↦ inr e ]
