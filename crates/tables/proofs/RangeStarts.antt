-- The row of the range from which a climb starts, as it is selected.
use Rattle.std.proofs.Common.{◌≡◌, ◌⊎◌, inl, inr, ◌<◌, ◌≤◌, ℕ, ℤ, pos, Bool, true, false, ◌&&◌, Ordering, Less, Equal, Greater, nat_cmp, int_cmp, List, [], ◌∷◌, Option, Some, None, length, refl, sym, ap, subst, ◌∙◌, arith}
use Rattle.std.specs.Cmp.{int_ranked}
use Rattle.std.specs.Cmp.Lexicographic.{slice_cmp}
use Rattle.std.specs.List.{list_all}
use Rattle.std.specs.Ordering.{is_eq, is_le, is_lt, is_gt, ordering_then}
use Rattle.std.specs.Prelude.{IfSome}
use Rattle.std.proofs.lemmas.Bool.{cases_lt}
use Rattle.std.proofs.lemmas.Cmp.{nat_list_cmp_total, tied_itself}
use Rattle.std.proofs.lemmas.Int.{ints}
use Rattle.std.proofs.lemmas.Map.Lookups.{exact_bytes}
use Rattle.sqlite.specs.Listing.{understood}
use Rattle.sqlite.specs.State.{State as Store, Shown}
use Rattle.sqlite_tied.specs.Compute.{everything}
use Rattle.sqlite_value.specs.declared.keys.Collation.TheVariants.{Binary}
use Rattle.sqlite_value.specs.declared.keys.Key.{Key}
use Rattle.sqlite_value.specs.declared.value.Value.TheVariants.{Int, Text}
use Rattle.sqlite_value.specs.Order.{Row}
use Rattle.sqlite_value.proofs.OrderLemmas.{value_cmp-Int, value_cmp-Text}
use Rattle.sqlite_sql.specs.declared.ops.BinaryOp.TheVariants.{Compare}
use Rattle.sqlite_sql.specs.declared.ops.CompareOp.TheVariants.{Le, Gt}
use Rattle.sqlite_sql.specs.Ops.{binary}
use Rattle.sqlite_sql.specs.Query.{sort_cmp}
use Rattle.sqlite_sql.specs.Term.{Term, col, op2, holds}
use Rattle.sqlite_trees.specs.Tree.{Trees}
use Rattle.sqlite_rules.specs.Lists.{Has}
use Rattle.positions.specs.Position.{PositionValue, IsPosition, packed_of}
use Rattle.dump.specs.Progress.{DumpValue}
use Rattle.flatten.specs.Flat.{RangeRowValue}
use Rattle.flatten.proofs.Intervals.{before_packed, packed_before}
use Rattle.tables.proofs.Select.{IsSelect}
use Rattle.tables.specs.declared.slots.Part.TheVariants.{Dump}
use Rattle.tables.specs.Columns.{number, position, range_columns}
use Rattle.tables.specs.Contents.{slot_row}
use Rattle.tables.specs.Schema.{schema_two}
use Rattle.machine.specs.State.{State}
use Rattle.tables.specs.Stands.{StandsFor}
use Rattle.tables.specs.declared.range_rows.SlotRange.{SlotRange}
use Rattle.tables.specs.Steps.Climbs.{IsStart, IsStarted, ComesBefore}
use Rattle.tables.specs.Steps.DumpEntries.{Entries, entry_values}
use Rattle.tables.specs.Steps.Queries.{same}
use Rattle.tables.specs.Steps.Selected.{IsFirstRead}
use Rattle.tables.specs.declared.range_rows.TheConstants.{SELECT_START}
use Rattle.tables.specs.TableTrees.{range_row_tree, slot_tree}
use Rattle.tables.proofs.DumpEntries.{typed, held, in_dump, entry}
use Rattle.tables.proofs.FirstRows.{IsFirst, first_is}
use Rattle.tables.proofs.FoundItems.{one_position}
use Rattle.tables.proofs.FoundRanges.{IsRange, IsSound, HasPositions, are, found_columns, is_owned, located, numbered, range_names, range_shown, range_terms, tells}
use Rattle.tables.proofs.Keeping.{same_int_is, same_int_itself, both}
use Rattle.tables.proofs.Ordered.{in_order, selects_in_order}
use Rattle.tables.proofs.PartRemoved.{truly}
use Rattle.tables.proofs.Reading.{columns_are}
use Rattle.tables.proofs.Selecting.{show}
use Rattle.tables.proofs.Cascade.{equal_is}

-- `slot = ?1 AND uri = ?2 AND first <= ?3 AND last > first`
abbrev start_tests : List Term
start_tests = same (col 1 1) (col 0 0) ∷ same (col 1 3) (col 0 1) ∷ op2 (Compare Le Binary) (col 1 4) (col 0 2) ∷ op2 (Compare Gt Binary) (col 1 5) (col 1 4) ∷ []

-- `first DESC, last`
abbrev start_order : List (Term × Key)
start_order = (col 1 4, record { collation = Binary; descending = true }) ∷ (col 1 5, record { collation = Binary; descending = false }) ∷ []

pub select_start_is : IsSelect schema_two SELECT_START.now (in_order 7 start_tests range_terms start_order (pos 1)) range_names
unfolding understood everything
select_start_is = record { is = refl; plain = (refl, refl); unlisted = refl; silent = λ schema base. refl }

-- ---- numbers and texts that are compared

le_of : (x y : ℕ) (o : Ordering) → o ≡ int_cmp (pos x) (pos y) → is_le o ≡ true → x ≤ y
le_of x y Less e h = let l = int_ranked (pos x) (pos y) Less e in omega (arith, ints)
le_of x y Equal e h = let l = int_ranked (pos x) (pos y) Equal e in omega (arith, ints)
le_of x y Greater e h = absurd cc

gt_of : (x y : ℕ) (o : Ordering) → o ≡ int_cmp (pos x) (pos y) → is_gt o ≡ true → y < x
gt_of x y Less e h = absurd cc
gt_of x y Equal e h = absurd cc
gt_of x y Greater e h = let l = int_ranked (pos x) (pos y) Greater e in omega (arith, ints)

to_le : (x y : ℕ) (o : Ordering) → o ≡ int_cmp (pos x) (pos y) → x ≤ y → is_le o ≡ true
to_le x y Less e h = refl
to_le x y Equal e h = refl
to_le x y Greater e h = let l = int_ranked (pos x) (pos y) Greater e in absurd (omega (arith, ints))

to_gt : (x y : ℕ) (o : Ordering) → o ≡ int_cmp (pos x) (pos y) → y < x → is_gt o ≡ true
to_gt x y Less e h = let l = int_ranked (pos x) (pos y) Less e in absurd (omega (arith, ints))
to_gt x y Equal e h = let l = int_ranked (pos x) (pos y) Equal e in absurd (omega (arith, ints))
to_gt x y Greater e h = refl

-- what the order says of two rows, where the first doesn't come before the second
later : (f g k l : ℕ) (o p : Ordering) → o ≡ int_cmp (pos g) (pos f) → p ≡ int_cmp (pos k) (pos l) → is_lt (ordering_then o (ordering_then p Equal)) ≡ false → (f < g) ⊎ ((f ≡ g) × (l ≤ k))
later f g k l Less p e d h = absurd cc
later f g k l Equal Less e d h = absurd cc
later f g k l Equal Equal e d h = inr ((let m = int_ranked (pos g) (pos f) Equal e in omega (arith, ints)), (let m = int_ranked (pos k) (pos l) Equal d in omega (arith, ints)))
later f g k l Equal Greater e d h = inr ((let m = int_ranked (pos g) (pos f) Equal e in omega (arith, ints)), (let m = int_ranked (pos k) (pos l) Greater d in omega (arith, ints)))
later f g k l Greater p e d h = inl (let m = int_ranked (pos g) (pos f) Greater e in omega (arith, ints))

-- ---- the rows

abbrev first_of : RangeRowValue → ℕ
first_of r = packed_of r.place.span.start

abbrev last_of : RangeRowValue → ℕ
last_of r = packed_of r.place.span.«end»

abbrev row_of : ℤ → ℤ → RangeRowValue → Row
row_of at slot r = Int at ∷ Int slot ∷ range_columns r

module _ (id : ℤ) (uri : List ℕ) (at : ℕ) where
  abbrev params : Row
  params = Int id ∷ Text uri ∷ number at ∷ []

  abbrev tested : ℤ → RangeRowValue → Bool
  tested slot r = is_eq (int_cmp slot id) && (is_eq (slice_cmp nat_cmp r.place.uri uri) && (is_le (int_cmp (pos (first_of r)) (pos at)) && (is_gt (int_cmp (pos (last_of r)) (pos (first_of r))) && true)))

  tests_are : (rowid slot : ℤ) (r : RangeRowValue) → list_all (holds (params ∷ row_of rowid slot r ∷ [])) start_tests ≡ tested slot r
  unfolding binary
  tests_are rowid slot r =
      rw (
        value_cmp-Int slot id,
        value_cmp-Text r.place.uri uri,
        value_cmp-Int (pos (first_of r)) (pos at),
        value_cmp-Int (pos (last_of r)) (pos (first_of r)),
        truly (is_eq (int_cmp slot id)),
        truly (is_eq (slice_cmp nat_cmp r.place.uri uri)),
        truly (is_le (int_cmp (pos (first_of r)) (pos at))),
        truly (is_gt (int_cmp (pos (last_of r)) (pos (first_of r)))),
      ) refl

  order_is : (i j s t : ℤ) (a b : RangeRowValue) → sort_cmp start_order (params ∷ row_of i s a ∷ []) (params ∷ row_of j t b ∷ [])
      ≡ ordering_then (int_cmp (pos (first_of b)) (pos (first_of a))) (ordering_then (int_cmp (pos (last_of a)) (pos (last_of b))) Equal)
  order_is i j s t a b = rw (value_cmp-Int (pos (first_of b)) (pos (first_of a)), value_cmp-Int (pos (last_of a)) (pos (last_of b))) refl

  -- what the tests ask, by numbers
  record Passes (slot : ℤ) (r : RangeRowValue) : Type 0 where
    slot_is : slot ≡ id
    uri_is : r.place.uri ≡ uri
    before : first_of r ≤ at
    filled : first_of r < last_of r

  passes_if : (slot : ℤ) (r : RangeRowValue) → tested slot r ≡ true → Passes slot r
  passes_if slot r h =
      let a = both _ _ h in
      let b = both _ _ a.1 in
      let c = both _ _ b.1 in
      let d = both _ _ c.1 in
      record { slot_is = same_int_is slot id a.0; uri_is = exact_bytes r.place.uri uri (equal_is _ b.0); before = le_of (first_of r) at _ refl c.0; filled = gt_of (last_of r) (first_of r) _ refl d.0 }

  tested_if : (slot : ℤ) (r : RangeRowValue) → Passes slot r → tested slot r ≡ true
  tested_if slot r it =
      let a : is_eq (int_cmp slot id) ≡ true = subst (λ (s : ℤ). is_eq (int_cmp slot s) ≡ true) it.slot_is (same_int_itself slot) in
      let b : is_eq (slice_cmp nat_cmp r.place.uri uri) ≡ true = subst (λ (s : List ℕ). is_eq (slice_cmp nat_cmp r.place.uri s) ≡ true) it.uri_is (ap is_eq (tied_itself nat_list_cmp_total r.place.uri)) in
      rw (a, b, to_le (first_of r) at _ refl it.before, to_gt (last_of r) (first_of r) _ refl it.filled) refl

-- ---- the start

-- the tests by positions
started : (dump : DumpValue) (uri : List ℕ) (p : PositionValue) (id slot : ℤ) (r : RangeRowValue) → IsPosition p → HasPositions dump → IsRange dump r → Passes id uri (packed_of p) slot r → IsStarted dump uri p r
started dump uri p id slot r good bounded is passes =
    let real = located dump r bounded is in
    ((is, passes.uri_is), packed_before r.place.span.start r.place.span.«end» real.0 real.1 passes.filled, λ less. let low = before_packed p r.place.span.start good real.0 less in omega (arith, passes.before))

passing_start : (dump : DumpValue) (uri : List ℕ) (p : PositionValue) (id : ℤ) (r : RangeRowValue) → IsPosition p → HasPositions dump → IsStarted dump uri p r → Passes id uri (packed_of p) id r
passing_start dump uri p id r good bounded it =
    let real = located dump r bounded it.0.0 in
    record {
      slot_is = refl;
      uri_is = it.0.1;
      before = elim (cases_lt (packed_of p) (first_of r)) [ inl less ↦ absurd (it.2 (packed_before p r.place.span.start good real.0 less)) | inr more ↦ more ];
      filled = before_packed r.place.span.start r.place.span.«end» real.0 real.1 it.1;
    }

comes_before : (o r : RangeRowValue) → IsPosition o.place.span.start × IsPosition o.place.span.«end» → IsPosition r.place.span.start × IsPosition r.place.span.«end»
    → (first_of o < first_of r) ⊎ ((first_of o ≡ first_of r) × (last_of r ≤ last_of o)) → ComesBefore o.place.span r.place.span
comes_before o r a b (inl less) = inl (packed_before o.place.span.start r.place.span.start a.0 b.0 less)
comes_before o r a b (inr ties) =
    inr (one_position o.place.span.start r.place.span.start a.0 b.0 (ap number ties.0), λ less. let low = before_packed o.place.span.«end» r.place.span.«end» a.1 b.1 less in omega (arith, ties.1))

module _ (db : Trees) (m : State) (s : StandsFor db m) (project : List ℕ) (dump : DumpValue) (id : ℤ) (slot : Has (db slot_tree) (slot_row id project Dump)) (has : m.dump project ≡ Some dump) (uri : List ℕ) (p : PositionValue) (good : IsPosition p) where
  abbrev asked : Row
  asked = Int id ∷ Text uri ∷ position p ∷ []

  bounded : HasPositions dump
  bounded = numbered db m project dump s has

  -- the row of a range of the dump
  there_is : (r : RangeRowValue) → IsRange dump r → (rowid : ℤ) × Has (db range_row_tree) (row_of rowid id r)
  there_is r is = held db m s IsRange range_columns 7 is_owned are (λ tags. refl) (entry db m s IsRange range_columns 7 is_owned are (λ tags. refl) project dump id slot has (λ r. Unit {0}) r is)

  typed_row : (row : Row) → Has (db range_row_tree) row → (at : ℤ) × (e : Entries IsRange db m) × (row ≡ Int at ∷ entry_values range_columns IsRange db m e)
  typed_row = typed db m s IsRange range_columns 7 is_owned are (λ tags. refl)

  of_dump : (e : Entries IsRange db m) → e.0.slot ≡ id → IsRange dump e.0.value
  of_dump = in_dump db m s IsRange range_columns 7 is_owned are (λ tags. refl) project dump id slot has (λ r. Unit {0})

  start_is : (rows : List Row) (found : Option SlotRange) → IsFirst start_tests range_terms start_order asked (db range_row_tree) rows → IsFirstRead found_columns rows found → IfSome found IsSound → IsStart dump uri p found
  start_is [] None none read sound = λ r it.
      let there = there_is r it.0.0 in
      let good_row = tests_are id uri (packed_of p) there.0 id r ∙ tested_if id uri (packed_of p) id r (passing_start dump uri p id r good bounded it) in
      absurd (let f = sym good_row ∙ none (row_of there.0 id r) there.1 in cc)
  start_is [] (Some x) none read sound = absurd read
  start_is (given ∷ more) None best read sound = absurd read
  start_is (given ∷ more) (Some x) (best, there, ok, shown, first) read sound =
      let e = typed_row best there in
      let r = e.1.0.value in
      let passes = passes_if id uri (packed_of p) e.1.0.slot r (sym (tests_are id uri (packed_of p) e.0 e.1.0.slot r) ∙ subst (λ b. list_all (holds (asked ∷ b ∷ [])) start_tests ≡ true) e.2 ok) in
      let is = of_dump e.1 passes.slot_is in
      let real = located dump r bounded is in
      let row : given ≡ range_shown r = shown ∙ ap (show range_terms asked) e.2 in
      let columns : found_columns x ≡ range_shown r = sym (columns_are (found_columns x) given (ap length row) read) ∙ row in (
        r,
        started dump uri p id e.1.0.slot r good bounded is passes,
        tells x r sound real columns,
        λ o it.
            let other = there_is o it.0.0 in
            let low = first (row_of other.0 id o) other.1 (tests_are id uri (packed_of p) other.0 id o ∙ tested_if id uri (packed_of p) id o (passing_start dump uri p id o good bounded it)) in
            let low_row = subst (λ b. is_lt (sort_cmp start_order (asked ∷ row_of other.0 id o ∷ []) (asked ∷ b ∷ [])) ≡ false) e.2 low in
            comes_before o r (located dump o bounded it.0.0) real
            (later (first_of o) (first_of r) (last_of o) (last_of r) _ _ refl refl (ap is_lt (sym (order_is id uri (packed_of p) other.0 e.0 id e.1.0.slot o r)) ∙ low_row)),
      )

pub start_found : (m : State) (id : ℤ) (project : List ℕ) (dump : DumpValue) (uri : List ℕ) (p : PositionValue) (old new : Store) (rows : List Row) (found : Option SlotRange) → IsPosition p → StandsFor old.now.trees m → old.now.schema ≡ schema_two
    → Has (old.now.trees slot_tree) (slot_row id project Dump) → m.dump project ≡ Some dump → Shown SELECT_START.now (Int id ∷ Text uri ∷ position p ∷ []) old new rows → IsFirstRead found_columns rows found → IfSome found IsSound → IsStart dump uri p found
start_found m id project dump uri p old new rows found good s schema slot has shown read sound =
    let params = Int id ∷ Text uri ∷ position p ∷ [] in
    let it = selects_in_order schema_two SELECT_START.now params 7 start_tests range_terms start_order (pos 1) range_names select_start_is (λ db. refl) old new rows schema shown in
    start_is old.now.trees m s project dump id slot has uri p good rows found (first_is start_tests range_terms start_order params (old.now.trees range_row_tree) it.0 rows it.1 it.2) read sound
