-- The items of a result, as they are selected.
use Rattle.std.proofs.Common.{◌≡◌, inl, inr, ℕ, ℤ, List, [], ◌∷◌, map, Some, None, codes, refl, sym, ap, subst, ◌∙◌, ◌↔◌, Contains, arith}
use Rattle.std.specs.List.{AllByRecursion}
use Rattle.std.specs.Rc.{rc_str_bytes}
use Rattle.sqlite.specs.Listing.{understood}
use Rattle.sqlite.specs.State.{State as Store, Shown}
use Rattle.sqlite_tied.specs.Compute.{everything}
use Rattle.sqlite_value.specs.Order.{Row}
use Rattle.sqlite_value.specs.declared.value.Value.TheVariants.{Int, Text}
use Rattle.sqlite_sql.specs.Term.{col}
use Rattle.sqlite_trees.specs.Tree.{Trees}
use Rattle.sqlite_rules.specs.Lists.{Has}
use Rattle.positions.specs.Position.{PositionValue, IsPosition, packed_of}
use Rattle.positions.specs.Span.{SpanValue}
use Rattle.lsif.specs.Element.{IdValue, range}
use Rattle.dump.specs.Graph.{vertex_at}
use Rattle.dump.specs.declared.role.Role.{Role}
use Rattle.dump.specs.declared.role.Role.TheVariants.{Definitions, References}
use Rattle.dump.specs.Places.{PlaceValue}
use Rattle.dump.specs.Progress.{DumpValue}
use Rattle.flatten.specs.Flat.{RowsValue, IsFlat, ItemRowValue, IsItemRow, role_index}
use Rattle.tables.specs.declared.slots.Part.TheVariants.{Dump}
use Rattle.tables.specs.Schema.{schema_two}
use Rattle.tables.specs.Columns.{number, dump_rows, position, item_columns}
use Rattle.tables.specs.Contents.{owned, slot_row}
use Rattle.machine.specs.State.{State}
use Rattle.tables.specs.Stands.{StandsFor}
use Rattle.machine.specs.Selections.{HasItem, FindsItems, item_found}
use Rattle.machine.specs.declared.selections.FoundItem.{FoundItem}
use Rattle.tables.specs.declared.items.TheConstants.{SELECT_ITEMS}
use Rattle.tables.specs.Steps.Selected.{AreRead, equals}
use Rattle.tables.specs.Steps.DumpEntries.{Entries, entry_values, SelectsOf}
use Rattle.tables.specs.TableTrees.{slot_tree}
use Rattle.tables.proofs.DumpEntries.{rows_of, typed, selects_of, listed_are, dump_slot, are_values, none_are}
use Rattle.tables.proofs.Keeping.{same_some, none_is_some}
use Rattle.tables.proofs.Select.{IsSelect, one_table}
use Rattle.tables.proofs.Selecting.{IsSelection, selects_typed}

pub select_items_is : IsSelect schema_two SELECT_ITEMS.now (one_table 9 (equals ((1, 0) ∷ (2, 1) ∷ (3, 2) ∷ [])) (col 1 4 ∷ col 1 5 ∷ col 1 6 ∷ [])) (codes "uri" ∷ codes "first" ∷ codes "last" ∷ [])
unfolding understood everything
select_items_is = record { is = refl; plain = (refl, refl); unlisted = refl; silent = λ schema base. refl }

-- ---- roles and positions

one_role : (j k : Role) → number (role_index j) ≡ number (role_index k) → j ≡ k
one_role Definitions Definitions e = refl
one_role Definitions References e = absurd cc
one_role References Definitions e = absurd cc
one_role References References e = refl

one_line : (p q : PositionValue) → IsPosition p → IsPosition q → packed_of p ≡ packed_of q → p.line ≡ q.line
one_line p q a b e = omega (arith, a.1, b.1, e)

one_character : (p q : PositionValue) → IsPosition p → IsPosition q → packed_of p ≡ packed_of q → p.character ≡ q.character
one_character p q a b e = omega (arith, a.1, b.1, e)

-- a number is that of one position
pub one_position : (p q : PositionValue) → IsPosition p → IsPosition q → position p ≡ position q → p ≡ q
one_position p q a b e =
    let same : packed_of p ≡ packed_of q = cc in
    let line = one_line p q a b same in
    let character = one_character p q a b same in
    λ i. record { line = line i; character = character i }

-- ---- the selection

abbrev IsItem : DumpValue → ItemRowValue → Type 0
IsItem dump row = IsItemRow dump.elements row

abbrev item_shown : ItemRowValue → Row
item_shown e = Text e.place.uri ∷ position e.place.span.start ∷ position e.place.span.«end» ∷ []

abbrev found_columns : FoundItem → Row
found_columns x = Text (rc_str_bytes x.uri) ∷ position x.span.start ∷ position x.span.«end» ∷ []

abbrev IsSound : FoundItem → Type 0
IsSound x = IsPosition x.span.start × IsPosition x.span.«end»

are : (d : DumpValue) (flat : RowsValue) → IsFlat d.elements flat → (row : Row) → Has (dump_rows d.profile flat 9) row ↔ ((e : ItemRowValue) × IsItem d e × (row ≡ item_columns e))
are d flat is = listed_are (IsItem d) item_columns flat.items is.items

is_owned : Has owned 9
is_owned = inr (inr (inl refl))

-- the positions of each range of a dump are within their bounds
abbrev HasPositions : State → Type 0
HasPositions m = (project : List ℕ) (dump : DumpValue) (r : IdValue) (span : SpanValue) → m.dump project ≡ Some dump → vertex_at dump.elements r ≡ Some (range span) → IsPosition span.start × IsPosition span.«end»

-- an item of a dump that has positions has them
located : (m : State) (project : List ℕ) (dump : DumpValue) → HasPositions m → m.dump project ≡ Some dump → (e : ItemRowValue) → IsItem dump e → IsPosition e.place.span.start × IsPosition e.place.span.«end»
located m project dump numbered has e is = let at = is.is_place.2.2 in numbered project dump is.is_place.2.0 e.place.span has at.span

module _ (result : ℕ) (role : Role) where
  abbrev IsOf : ItemRowValue → Type 0
  IsOf e = (e.result ≡ result) × (e.role ≡ role)

  abbrev entry : PlaceValue → ItemRowValue
  entry v = record { result = result; role = role; place = v }

  module _ (db : Trees) (m : State) (id : ℤ) where
    abbrev IsWanted : ℤ → Entries IsItem db m → Type 0
    IsWanted at e = (e.0.slot ≡ id) × IsOf e.0.value

    selection : IsSelection (entry_values item_columns IsItem db m) (λ at e. item_shown e.0.value) IsWanted SELECT_ITEMS.now (Int id ∷ number result ∷ number (role_index role) ∷ []) 9
    selection = record {
      pairs = (1, 0) ∷ (2, 1) ∷ (3, 2) ∷ [];
      terms = col 1 4 ∷ col 1 5 ∷ col 1 6 ∷ [];
      names = codes "uri" ∷ codes "first" ∷ codes "last" ∷ [];
      is = select_items_is;
      own = λ db. refl;
      shows = λ at e. refl;
      alike = λ at e. (tt, (tt, (tt, tt)));
      wants = λ at e h. ((let a = h.0 in cc), ((let a = h.1.0 in cc), one_role _ _ h.1.1.0));
      wanted = λ at e w. (ap Int w.0, (ap number w.1.0, (ap (λ r. number (role_index r)) w.1.1, tt)));
    }

  is_place : (x : FoundItem) (v : PlaceValue) → IsSound x → IsPosition v.span.start × IsPosition v.span.«end» → found_columns x ≡ item_shown (entry v) → item_found x ≡ v
  is_place x v sound real same =
      let uri : rc_str_bytes x.uri ≡ v.uri = let a = same in cc in
      let start = one_position x.span.start v.span.start sound.0 real.0 (let a = same in cc) in
      let stop = one_position x.span.«end» v.span.«end» sound.1 real.1 (let a = same in cc) in
      λ i. record { uri = uri i; span = record { start = start i; «end» = stop i } }

  is_entry : (x : FoundItem) (e : ItemRowValue) → IsSound x → IsPosition e.place.span.start × IsPosition e.place.span.«end» → IsOf e → found_columns x ≡ item_shown e → e ≡ entry (item_found x)
  is_entry x e sound real of same =
      let place = sym (is_place x e.place sound real same) in
      λ i. record { result = of.0 i; role = of.1 i; place = place i }

  finds : (m : State) (project : List ℕ) (dump : DumpValue) → HasPositions m → m.dump project ≡ Some dump → (xs : List FoundItem) → AllByRecursion IsSound xs → SelectsOf item_shown (IsItem dump) IsOf (map found_columns xs) → (v : PlaceValue)
      → Contains (map item_found xs) v ↔ HasItem m project result role v
  finds m project dump numbered has xs sound found v =
      let it = are_values item_shown (IsItem dump) IsOf found_columns item_found entry IsSound (λ v. (refl, refl)) (λ x e s o. is_entry x e s (located m project dump numbered has e o)) (λ x v s o. is_place x v s (located m project dump numbered has (entry v) o)) xs sound found v in (
        (λ at. (dump, has, it.0 at)),
        (λ h. it.1 (subst (λ (d : DumpValue). IsItem d (entry v)) (same_some (sym h.1 ∙ has)) h.2)),
      )

  pub items_found : (m : State) (id : ℤ) (project : List ℕ) (old new : Store) (rows : List Row) (found : List FoundItem) → StandsFor old.now.trees m → old.now.schema ≡ schema_two → Has (old.now.trees slot_tree) (slot_row id project Dump)
      → Shown SELECT_ITEMS.now (Int id ∷ number result ∷ number (role_index role) ∷ []) old new rows → AreRead found_columns rows found → AllByRecursion IsSound found → FindsItems m project result role (map item_found found)
  unfolding selection
  items_found m id project old new rows found s schema slot shown read sound =
      let db = old.now.trees in
      let dump = dump_slot db m s project id slot in
      let numbered : HasPositions m = (λ project dump r span has at. (rows_of db m s project dump has).2.located r span at) in
      finds m project dump.0 numbered dump.1 found sound (selects_of db m s IsItem item_columns 9 is_owned are (λ tags. refl) project dump.0 id slot dump.1 IsOf item_shown (map found_columns found)
      (selects_typed (entry_values item_columns IsItem db m) (λ at e. item_shown e.0.value) (IsWanted db m id) found_columns SELECT_ITEMS.now (Int id ∷ number result ∷ number (role_index role) ∷ []) 9 (selection db m id) (λ x. refl) old new rows schema
      (typed db m s IsItem item_columns 9 is_owned are (λ tags. refl)) shown found read))

pub no_items : (m : State) (project : List ℕ) (result : ℕ) (role : Role) → m.dump project ≡ None → FindsItems m project result role []
no_items m project result role none = none_are (HasItem m project result role) (λ v h. absurd (none_is_some (sym none ∙ h.1)))
