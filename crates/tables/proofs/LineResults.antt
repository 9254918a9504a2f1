-- The row that a line has in `more`, as it's selected.
use Rattle.std.proofs.Common.{◌≡◌, inl, inr, ℕ, ℤ, Bool, true, List, [], ◌∷◌, ◌++◌, flat_map, length, map, Option, Some, None, is_some, codes, false, refl, sym, ap, subst, ◌∙◌, ◌↔◌}
use Rattle.std.specs.List.{list_any, range_with_len}
use Rattle.std.proofs.lemmas.Bool.{cases_Bool}
use Rattle.sqlite.specs.Listing.{understood}
use Rattle.sqlite.specs.State.{State as Store, Shown}
use Rattle.sqlite_tied.specs.Compute.{everything}
use Rattle.sqlite_value.specs.Order.{Row}
use Rattle.sqlite_value.specs.declared.value.Value.TheVariants.{Int}
use Rattle.sqlite_sql.specs.Term.{Term, col}
use Rattle.sqlite_trees.specs.Tree.{Trees}
use Rattle.sqlite_rules.specs.Lists.{Has}
use Rattle.sqlite_rules.proofs.ListLemmas.{has_contained, contains_had, has_left, has_right, has_either}
use Rattle.lsif.specs.Element.{IdValue}
use Rattle.lsif.specs.RequestKinds.{kinds}
use Rattle.lsif.specs.declared.request_kind.RequestKind.{RequestKind}
use Rattle.lsif.specs.declared.request_kind.RequestKind.TheVariants.{Definition, References, Hover}
use Rattle.lsif.proofs.RequestKinds.{listed}
use Rattle.dump.specs.Progress.{DumpValue}
use Rattle.dump.proofs.Lines.{one_line}
use Rattle.dump.proofs.OnePicks.{one_result}
use Rattle.flatten.specs.Flat.{RowsValue, IsFlat, ResultsValue, AreResults, number_of}
use Rattle.flatten.proofs.NumberPairs.{number_ones}
use Rattle.flatten.proofs.RangeRows.{results_one}
use Rattle.tables.specs.declared.slots.Part.TheVariants.{Dump}
use Rattle.tables.specs.Schema.{schema_two}
use Rattle.tables.specs.Columns.{number, optional, kind_columns, dump_rows, more_columns, range_more, bearer_more}
use Rattle.tables.specs.Contents.{owned, slot_row}
use Rattle.tables.specs.Kinds.{more_kinds, more_names}
use Rattle.flatten.specs.Rows.{results_value}
use Rattle.machine.specs.State.{State}
use Rattle.tables.specs.Stands.{StandsFor}
use Rattle.tables.specs.declared.more.MoreRow.{MoreRow}
use Rattle.tables.specs.declared.more.TheConstants.{SELECT_MORE}
use Rattle.tables.specs.Steps.Selected.{IsFirstRead, equals}
use Rattle.tables.specs.Steps.DumpEntries.{Entries, entry_values, ShowsOneOf}
use Rattle.tables.specs.Steps.Known.{IsKnown, MoreValue, IsMore, more_value, more_values}
use Rattle.tables.specs.TableTrees.{slot_tree}
use Rattle.tables.proofs.DumpEntries.{typed, shows_one_of}
use Rattle.tables.proofs.Select.{IsSelect, one_table}
use Rattle.tables.proofs.Selecting.{IsSelection, shows_one}
use Rattle.tables.proofs.Puts.{flat_has, from_flat, where_true, true_there}

-- the columns of `more` for its kinds, in the rows of this place of a statement's environment
abbrev pub more_terms : ℕ → List Term
more_terms place = map (col place) (range_with_len 3 (length more_kinds))

pub select_more_is : IsSelect schema_two SELECT_MORE.now (one_table 24 (equals ((1, 0) ∷ (2, 1) ∷ [])) (col 1 2 ∷ more_terms 1)) (codes "line" ∷ more_names)
unfolding understood everything
select_more_is = record { is = refl; plain = (refl, refl); unlisted = refl; silent = λ schema base. refl }

-- ---- one line's results

vertex_of : (d : DumpValue) (line : ℕ) (r : ResultsValue) → IsKnown d line r → (x : IdValue) × (number_of d.elements x ≡ Some line) × AreResults d.elements x r
vertex_of d line r (inl k) = let it = k.1 in (it.range, it.at_line ∙ ap (λ n. Some n) k.2, subst (AreResults d.elements it.range) k.3 it.are_results)
vertex_of d line r (inr k) = let it = k.1 in (it.vertex, it.at_line ∙ ap (λ n. Some n) k.2, subst (AreResults d.elements it.vertex) k.3 it.are_results)

pub one_known : (d : DumpValue) (line : ℕ) (r s : ResultsValue) → IsKnown d line r → IsKnown d line s → r ≡ s
one_known d line r s a b =
    let x = vertex_of d line r a in
    let y = vertex_of d line s b in
    let same = number_ones d.elements (one_line d.elements) y.0 x.0 line y.1 x.1 in
    results_one d.elements (λ request z found other first second. one_result request d.elements z found other first second) x.0 r s x.2 (subst (λ z. AreResults d.elements z s) same y.2)

-- ---- the rows

-- the line has a row
abbrev pub has_row : ResultsValue → Bool
has_row results = list_any is_some (map results more_kinds)

pub from_columns : (line : ℕ) (r : ResultsValue) (row : Row) → Has (more_columns line r) row → (has_row r ≡ true) × (row ≡ number line ∷ kind_columns more_kinds r)
from_columns line r row h = where_true (has_row r) (number line ∷ kind_columns more_kinds r) row h

to_columns : (line : ℕ) (r : ResultsValue) → has_row r ≡ true → Has (more_columns line r) (number line ∷ kind_columns more_kinds r)
to_columns line r some = true_there (has_row r) (number line ∷ kind_columns more_kinds r) some

pub are : (d : DumpValue) (flat : RowsValue) → IsFlat d.elements flat → (row : Row) → Has (dump_rows d.profile flat 24) row ↔ ((v : MoreValue) × IsMore d v × (row ≡ more_values v))
are d flat is row = (
  (λ h. elim (has_either (flat_map range_more flat.ranges) (flat_map bearer_more flat.bearers) row h) [
    | inl a ↦
        let it = from_flat range_more flat.ranges row a in
        let r = it.0 in
        let c = from_columns r.line r.results row it.2 in
        let is_row = (is.ranges.each r).0 (contains_had flat.ranges r it.1) in
        (record { line = r.line; results = r.results }, record { known = inl (r, is_row, refl, refl); some = c.0 }, c.1)
    | inr b ↦
        let it = from_flat bearer_more flat.bearers row b in
        let r = it.0 in
        let c = from_columns r.line r.results row it.2 in
        let is_row = (is.bearers.each r).0 (contains_had flat.bearers r it.1) in
        (record { line = r.line; results = r.results }, record { known = inr (r, is_row, refl, refl); some = c.0 }, c.1)
  ]),
  (λ h.
      let v = h.0 in
      subst (Has (flat_map range_more flat.ranges ++ flat_map bearer_more flat.bearers)) (sym h.2) (elim h.1.known [
        | inl k ↦
            let at = has_contained flat.ranges k.0 ((is.ranges.each k.0).1 k.1) in
            has_left (flat_map range_more flat.ranges) (flat_map bearer_more flat.bearers) (more_values v) (flat_has range_more flat.ranges k.0 (more_values v) at (told k.0.line k.0.results v k.2 k.3 h.1.some))
        | inr k ↦
            let at = has_contained flat.bearers k.0 ((is.bearers.each k.0).1 k.1) in
            has_right (flat_map range_more flat.ranges) (flat_map bearer_more flat.bearers) (more_values v) (flat_has bearer_more flat.bearers k.0 (more_values v) at (told k.0.line k.0.results v k.2 k.3 h.1.some))
      ])),
)
  where
    told : (line : ℕ) (r : ResultsValue) (v : MoreValue) → line ≡ v.line → r ≡ v.results → has_row v.results ≡ true → Has (more_columns line r) (more_values v)
    told line r v at same some = rw (at, same) (to_columns v.line v.results some)

-- ---- results of some kinds

pub one_optional : (a b : Option ℕ) → optional a ≡ optional b → a ≡ b
one_optional None None e = refl
one_optional None (Some b) e = absurd cc
one_optional (Some a) None e = absurd cc
one_optional (Some a) (Some b) e = cc

-- what columns of these kinds say of results
pub one_kinds : (ks : List RequestKind) (r s : ResultsValue) → kind_columns ks r ≡ kind_columns ks s → map r ks ≡ map s ks
one_kinds [] r s e = refl
one_kinds (k ∷ ks) r s e =
    let first : optional (r k) ≡ optional (s k) = let h = e in cc in
    let rest : kind_columns ks r ≡ kind_columns ks s = let h = e in cc in
    ap (λ n. n ∷ map r ks) (one_optional (r k) (s k) first) ∙ ap (λ l. s k ∷ l) (one_kinds ks r s rest)

pub kinds_columns : (ks : List RequestKind) (r s : ResultsValue) → map r ks ≡ map s ks → kind_columns ks r ≡ kind_columns ks s
kinds_columns [] r s e = refl
kinds_columns (k ∷ ks) r s e =
    let first : r k ≡ s k = let h = e in cc in
    let rest : map r ks ≡ map s ks = let h = e in cc in
    ap (λ n. optional n ∷ kind_columns ks r) first ∙ ap (λ (l : Row). optional (s k) ∷ l) (kinds_columns ks r s rest)

-- results that are the same of these kinds are the same of each of them
pub of_kind : (ks : List RequestKind) (r s : ResultsValue) → map r ks ≡ map s ks → (k : RequestKind) → Has ks k → r k ≡ s k
of_kind [] r s e k h = absurd h
of_kind (j ∷ ks) r s e k (inl same) = let first : r j ≡ s j = let h = e in cc in ap r same ∙ (first ∙ ap s (sym same))
of_kind (j ∷ ks) r s e k (inr later) = let rest : map r ks ≡ map s ks = let h = e in cc in of_kind ks r s rest k later

-- results that are none are the same of these kinds as others that have none of them
none_of : (ks : List RequestKind) (s r : ResultsValue) → ((k : RequestKind) → s k ≡ None) → list_any is_some (map r ks) ≡ false → map s ks ≡ map r ks
none_of [] s r nothing_there e = refl
none_of (k ∷ ks) s r nothing_there e = by (r k) refl e (none_of ks s r nothing_there)
  where
    by : (o : Option ℕ) → r k ≡ o → list_any is_some (map r (k ∷ ks)) ≡ false → (list_any is_some (map r ks) ≡ false → map s ks ≡ map r ks) → map s (k ∷ ks) ≡ map r (k ∷ ks)
    by None is none rest = ap (λ n. n ∷ map s ks) (nothing_there k ∙ sym is) ∙ ap (λ l. r k ∷ l) (rest (rw is at none))
    by (Some n) is none rest = let never : true ≡ false = rw is at none in cc

-- a kind that isn't one of format 1 has a column in `more`
pub in_more : (k : RequestKind) → (k ≡ Definition → ⊥) → (k ≡ References → ⊥) → (k ≡ Hover → ⊥) → Has more_kinds k
in_more k definition references hover = elim (has_contained kinds k (listed k)) [
  | inl e ↦ absurd (definition e)
  | inr (inl e) ↦ absurd (references e)
  | inr (inr (inl e)) ↦ absurd (hover e)
  | inr (inr (inr more)) ↦ more
]

-- ---- the selection

abbrev more_read : MoreRow → Row
more_read x = more_values (more_value x)

pub is_owned : Has owned 24
is_owned = inr (inr (inr (inr (inr (inr (inr (inr (inl refl))))))))

module _ (line : ℕ) where
  abbrev IsAtLine : MoreValue → Type 0
  IsAtLine v = v.line ≡ line

  module _ (db : Trees) (m : State) (id : ℤ) where
    abbrev IsWanted : ℤ → Entries IsMore db m → Type 0
    IsWanted at e = (e.0.slot ≡ id) × IsAtLine e.0.value

    selection : IsSelection (entry_values more_values IsMore db m) (λ at e. more_values e.0.value) IsWanted SELECT_MORE.now (Int id ∷ number line ∷ []) 24
    selection = record {
      pairs = (1, 0) ∷ (2, 1) ∷ [];
      terms = col 1 2 ∷ more_terms 1;
      names = codes "line" ∷ more_names;
      is = select_more_is;
      own = λ db. refl;
      shows = λ at e. refl;
      alike = λ at e. (tt, (tt, tt));
      wants = λ at e h. ((let a = h.0 in cc), (let a = h.1.0 in cc));
      wanted = λ at e w. (ap Int w.0, (ap number w.1, tt));
    }

  -- what the answer says of the results of the line
  abbrev pub Says : Option MoreRow → ResultsValue → Type 0
  Says None results = has_row results ≡ false
  Says (Some x) results = map (results_value x.results) more_kinds ≡ map results more_kinds

  pub nothing : (d : DumpValue) (results : ResultsValue) → IsKnown d line results → ((v : MoreValue) → IsMore d v → IsAtLine v → ⊥) → has_row results ≡ false
  nothing d results known none = elim (cases_Bool (has_row results)) [
    | inl some ↦ absurd (none (record { line = line; results = results }) (record { known = known; some = some }) refl)
    | inr not ↦ not
  ]

  says : (d : DumpValue) (results : ResultsValue) → IsKnown d line results → (found : Option MoreRow) → ShowsOneOf more_values (IsMore d) IsAtLine more_read found → Says found results
  says d results known None none = nothing d results known none
  says d results known (Some x) one =
      let v = one.0 in
      let same = one_known d line v.results results (subst (λ n. IsKnown d n v.results) one.2 one.1.known) known in
      let shown : kind_columns more_kinds (results_value x.results) ≡ kind_columns more_kinds v.results = let h = one.3 in cc in
      one_kinds more_kinds (results_value x.results) v.results shown ∙ ap (λ (r : ResultsValue). map r more_kinds) same

  -- results that are none are what a line without a row has
  pub says_none : (s results : ResultsValue) → ((k : RequestKind) → s k ≡ None) → Says None results → map s more_kinds ≡ map results more_kinds
  says_none s results nothing_there none = none_of more_kinds s results nothing_there none

  pub more_found : (m : State) (id : ℤ) (project : List ℕ) (dump : DumpValue) (old new : Store) (rows : List Row) (found : Option MoreRow) → StandsFor old.now.trees m → old.now.schema ≡ schema_two → Has (old.now.trees slot_tree) (slot_row id project Dump)
      → m.dump project ≡ Some dump → Shown SELECT_MORE.now (Int id ∷ number line ∷ []) old new rows → IsFirstRead more_read rows found → (results : ResultsValue) → IsKnown dump line results → Says found results
  unfolding selection
  more_found m id project dump old new rows found s schema slot has shown read results known =
      let db = old.now.trees in
      says dump results known found (shows_one_of db m s IsMore more_values 24 is_owned are (λ tags. refl) project dump id slot has IsAtLine more_values more_read found
      (shows_one (entry_values more_values IsMore db m) (λ at e. more_values e.0.value) (IsWanted db m id) more_read SELECT_MORE.now (Int id ∷ number line ∷ []) 24 (selection db m id) (λ x. refl) old new rows schema
      (typed db m s IsMore more_values 24 is_owned are (λ tags. refl)) shown found read))
