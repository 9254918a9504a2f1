-- The rows of ranges, as they are selected.
use Rattle.std.proofs.Common.{◌≡◌, inl, inr, ℕ, ℤ, List, [], ◌∷◌, Some, codes, refl, sym, ap, ◌∙◌, ◌↔◌}
use Rattle.sqlite.specs.Listing.{understood}
use Rattle.sqlite.specs.State.{State as Store, Shown}
use Rattle.sqlite_tied.specs.Compute.{everything}
use Rattle.sqlite_value.specs.Order.{Row}
use Rattle.sqlite_value.specs.declared.value.Value.TheVariants.{Int, Text}
use Rattle.sqlite_sql.specs.Term.{Term, col}
use Rattle.sqlite_trees.specs.Tree.{Trees}
use Rattle.sqlite_rules.specs.Lists.{Has}
use Rattle.positions.specs.Position.{IsPosition}
use Rattle.positions.specs.Span.{SpanValue}
use Rattle.lsif.specs.Element.{IdValue, range}
use Rattle.lsif.specs.declared.request_kind.RequestKind.TheVariants.{Definition, References, Hover}
use Rattle.dump.specs.Graph.{vertex_at}
use Rattle.dump.specs.Progress.{DumpValue}
use Rattle.flatten.specs.Flat.{RowsValue, IsFlat, RangeRowValue, IsRangeRow}
use Rattle.tables.specs.declared.slots.Part.TheVariants.{Dump}
use Rattle.tables.specs.Schema.{schema_two}
use Rattle.tables.specs.Columns.{number, optional, position, dump_rows, range_columns}
use Rattle.tables.specs.Contents.{owned, slot_row}
use Rattle.machine.specs.State.{State}
use Rattle.tables.specs.Stands.{StandsFor}
use Rattle.tables.specs.declared.range_rows.SlotRange.{SlotRange}
use Rattle.tables.specs.Steps.Climbs.{IsNamed, TellsRange}
use Rattle.tables.specs.declared.range_rows.TheConstants.{SELECT_RANGE}
use Rattle.tables.specs.Steps.Selected.{IsFirstRead, equals}
use Rattle.tables.specs.Steps.DumpEntries.{Entries, entry_values, ShowsOneOf}
use Rattle.tables.specs.TableTrees.{slot_tree}
use Rattle.tables.proofs.DumpEntries.{rows_of, typed, shows_one_of, listed_are}
use Rattle.tables.proofs.FoundItems.{one_position}
use Rattle.tables.proofs.LineResults.{one_optional}
use Rattle.tables.proofs.Select.{IsSelect, one_table}
use Rattle.tables.proofs.Selecting.{IsSelection, shows_one}

abbrev pub range_terms : List Term
range_terms = col 1 2 ∷ col 1 4 ∷ col 1 5 ∷ col 1 6 ∷ col 1 7 ∷ col 1 8 ∷ col 1 9 ∷ []

abbrev pub range_names : List (List ℕ)
range_names = codes "line" ∷ codes "first" ∷ codes "last" ∷ codes "parent" ∷ codes "def" ∷ codes "refs" ∷ codes "hover" ∷ []

pub select_range_is : IsSelect schema_two SELECT_RANGE.now (one_table 7 (equals ((1, 0) ∷ (2, 1) ∷ (3, 2) ∷ [])) range_terms) range_names
unfolding understood everything
select_range_is = record { is = refl; plain = (refl, refl); unlisted = refl; silent = λ schema base. refl }

-- ---- what is read of a row

abbrev pub IsRange : DumpValue → RangeRowValue → Type 0
IsRange dump row = IsRangeRow dump.elements row

abbrev pub range_shown : RangeRowValue → Row
range_shown r =
    number r.line ∷ position r.place.span.start ∷ position r.place.span.«end» ∷ optional r.parent ∷ optional (r.results Definition) ∷ optional (r.results References)
    ∷ optional (r.results Hover) ∷ []

abbrev pub found_columns : SlotRange → Row
found_columns x = number x.line ∷ position x.span.start ∷ position x.span.«end» ∷ optional x.parent ∷ optional x.def ∷ optional x.refs ∷ optional x.hover ∷ []

abbrev pub IsSound : SlotRange → Type 0
IsSound x = IsPosition x.span.start × IsPosition x.span.«end»

pub are : (d : DumpValue) (flat : RowsValue) → IsFlat d.elements flat → (row : Row) → Has (dump_rows d.profile flat 7) row ↔ ((r : RangeRowValue) × IsRange d r × (row ≡ range_columns r))
are d flat is = listed_are (IsRange d) range_columns flat.ranges is.ranges

pub is_owned : Has owned 7
is_owned = inr (inl refl)

-- the positions of each range of the dump are within their bounds
abbrev pub HasPositions : DumpValue → Type 0
HasPositions dump = (r : IdValue) (span : SpanValue) → vertex_at dump.elements r ≡ Some (range span) → IsPosition span.start × IsPosition span.«end»

pub numbered : (db : Trees) (m : State) (project : List ℕ) (dump : DumpValue) → StandsFor db m → m.dump project ≡ Some dump → HasPositions dump
numbered db m project dump s has = (rows_of db m s project dump has).2.located

pub located : (dump : DumpValue) (r : RangeRowValue) → HasPositions dump → IsRange dump r → IsPosition r.place.span.start × IsPosition r.place.span.«end»
located dump r bounded is = bounded is.range r.place.span is.is_at.span

pub tells : (x : SlotRange) (r : RangeRowValue) → IsSound x → IsPosition r.place.span.start × IsPosition r.place.span.«end» → found_columns x ≡ range_shown r → TellsRange x r
tells x r sound real same =
    let start = one_position x.span.start r.place.span.start sound.0 real.0 (let a = same in cc) in
    let stop = one_position x.span.«end» r.place.span.«end» sound.1 real.1 (let a = same in cc) in
    record {
      line = let a = same in cc;
      span = λ i. record { start = start i; «end» = stop i };
      parent = one_optional x.parent r.parent (let a = same in cc);
      definition = one_optional x.def (r.results Definition) (let a = same in cc);
      references = one_optional x.refs (r.results References) (let a = same in cc);
      hover = one_optional x.hover (r.results Hover) (let a = same in cc);
    }

-- ---- the range that is named

module _ (line : ℕ) (uri : List ℕ) where
  abbrev IsAtLine : RangeRowValue → Type 0
  IsAtLine r = (r.line ≡ line) × (r.place.uri ≡ uri)

  module _ (db : Trees) (m : State) (id : ℤ) where
    abbrev IsWanted : ℤ → Entries IsRange db m → Type 0
    IsWanted at e = (e.0.slot ≡ id) × IsAtLine e.0.value

    selection : IsSelection (entry_values range_columns IsRange db m) (λ at e. range_shown e.0.value) IsWanted SELECT_RANGE.now (Int id ∷ number line ∷ Text uri ∷ []) 7
    selection = record {
      pairs = (1, 0) ∷ (2, 1) ∷ (3, 2) ∷ [];
      terms = range_terms;
      names = range_names;
      is = select_range_is;
      own = λ db. refl;
      shows = λ at e. refl;
      alike = λ at e. (tt, (tt, (tt, tt)));
      wants = λ at e h. ((let a = h.0 in cc), ((let a = h.1.0 in cc), (let a = h.1.1.0 in cc)));
      wanted = λ at e w. (ap Int w.0, (ap number w.1.0, (ap Text w.1.1, tt)));
    }

  named : (d : DumpValue) (child : SlotRange) (x : SlotRange) → HasPositions d → child.parent ≡ Some line → IsSound x → ShowsOneOf range_shown (IsRange d) IsAtLine found_columns (Some x) → IsNamed d uri child (Some x)
  named d child x bounded has sound one = (one.0, (one.1, one.2.1), has ∙ ap Some (sym one.2.0), tells x one.0 sound (located d one.0 bounded one.1) one.3)

  pub range_found : (m : State) (id : ℤ) (project : List ℕ) (dump : DumpValue) (old new : Store) (rows : List Row) (child x : SlotRange) → StandsFor old.now.trees m → old.now.schema ≡ schema_two → Has (old.now.trees slot_tree) (slot_row id project Dump)
      → m.dump project ≡ Some dump → child.parent ≡ Some line → IsSound x → Shown SELECT_RANGE.now (Int id ∷ number line ∷ Text uri ∷ []) old new rows → IsFirstRead found_columns rows (Some x) → IsNamed dump uri child (Some x)
  unfolding selection
  range_found m id project dump old new rows child x s schema slot has asked sound shown read =
      let db = old.now.trees in
      named dump child x (numbered db m project dump s has) asked sound (shows_one_of db m s IsRange range_columns 7 is_owned are (λ tags. refl) project dump id slot has IsAtLine range_shown found_columns (Some x)
      (shows_one (entry_values range_columns IsRange db m) (λ at e. range_shown e.0.value) (IsWanted db m id) found_columns SELECT_RANGE.now (Int id ∷ number line ∷ Text uri ∷ []) 7 (selection db m id) (λ x. refl) old new rows schema
      (typed db m s IsRange range_columns 7 is_owned are (λ tags. refl)) shown (Some x) read))
