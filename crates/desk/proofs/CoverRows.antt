-- The rows of the ranges that cover a position, in order, give what is found of these ranges, the
-- smallest first.
use Rattle.std.proofs.Common.{◌≡◌, inl, inr, ◌∙◌, ◌&&◌, ℕ, Bool, true, List, [], ◌∷◌, map, refl, sym, ap, subst}
use Rattle.std.specs.Prelude.{Ok, Contains, Option, Some}
use Rattle.std.specs.List.{AllByRecursion, dedup}
use Rattle.std.specs.Cmp.{IsTotalOrder, IsEquivalence, on_total, nat_cmp_total}
use Rattle.std.specs.Ordering.{nat_cmp, eq_by_cmp}
use Rattle.std.specs.declared.cmp.Ordering.{Ordering}
use Rattle.std.specs.declared.cmp.Ordering.TheVariants.{Less, Equal}
use Rattle.std.specs.List.Sorted.{IsSorted, IsStrictlySortedBy, IsPermutation}
use Rattle.std.proofs.lemmas.Cmp.{eq_by_cmp_equiv, tied_itself}
use Rattle.std.proofs.lemmas.List.Kept.{IsStrictlySortedBy-dedup, Any-dedup, Contains-from_dedup}
use Rattle.std.proofs.lemmas.List.Sorted.{Contains-permutation, IsPermutation-sym}
use Rattle.positions.specs.Position.{PositionValue}
use Rattle.lsif.specs.Element.{IdValue, document}
use Rattle.lsif.specs.declared.request_kind.RequestKind.{RequestKind}
use Rattle.dump.specs.Fault.{IsFaultless}
use Rattle.dump.specs.Graph.{vertex_at}
use Rattle.dump.specs.Contained.{is_in, IsNested}
use Rattle.dump.specs.Places.{IsListing, position_cmp}
use Rattle.dump.specs.Progress.{DumpValue}
use Rattle.dump.specs.Requests.{IsWithin, RangeValue}
use Rattle.flatten.specs.Flat.{RangeRowValue, RowsValue, IsFlat, by_line, number_of}
use Rattle.flatten.specs.Rows.{range_value}
use Rattle.flatten.specs.declared.rows.RangeRow.{RangeRow}
use Rattle.machine.specs.Selections.{FindsCover}
use Rattle.tables.specs.Steps.Climbs.{IsCoverRow, AreWithin, row_found}
use Rattle.tables.proofs.CoverLists.{covers_rows, range_of}
use Rattle.desk.specs.Steps.Selected.{by_span, range_found_of}
use Rattle.machine.proofs.Covers.{Lies, two, within, inner_total, same_position, ties_both, position_ties, position_back, position_same}
use Rattle.streams.proofs.Members.{contains_head, contains_tail, contains_cases, contains_map, map_source, not_in_nil}
use Rattle.streams.proofs.Bools.{and_both}

-- ---- the sort

pub span_total : IsTotalOrder by_span
span_total = on_total (λ r. r.span.now) inner_total

abbrev pub same_span : RangeRow → RangeRow → Bool
same_span a b = same_position a.span.now.start b.span.now.start && same_position a.span.now.«end» b.span.now.«end»

span_ties : (a b : RangeRow) → same_span a b ≡ eq_by_cmp by_span a b
span_ties a b =
    let s = a.span.now in
    let t = b.span.now in
    ties_both (position_cmp t.start s.start) (position_cmp s.«end» t.«end») (same_position s.start t.start) (same_position s.«end» t.«end») (position_back s.start t.start ∙ position_ties t.start s.start) (position_ties s.«end» t.«end»)

span_equiv : IsEquivalence same_span
span_equiv = subst IsEquivalence (λ i a b. sym (span_ties a b) i) (eq_by_cmp_equiv span_total)

span_same : (a b : RangeRow) → same_span a b ≡ true → a.span.now ≡ b.span.now
span_same a b e =
    let h = and_both (same_position a.span.now.start b.span.now.start) (same_position a.span.now.«end» b.span.now.«end») e in
    let f = position_same a.span.now.start b.span.now.start h.0 in
    let g = position_same a.span.now.«end» b.span.now.«end» h.1 in
    λ i. record { start = f i; «end» = g i }

module _ (xs ys zs : List RangeRow) (moved : IsPermutation xs ys) (up : IsSorted by_span ys) (is : zs ≡ dedup same_span ys) where
  pub rows_rise : IsStrictlySortedBy by_span zs
  rows_rise = rw is (IsStrictlySortedBy-dedup span_total span_ties ys up)

  pub rows_from : (r : RangeRow) → Contains zs r → Contains xs r
  rows_from r at = Contains-permutation ys xs r (IsPermutation-sym xs ys moved) (Contains-from_dedup same_span ys r (subst (λ k. Contains k r) is at))

  pub rows_each : (r : RangeRow) → Contains xs r → (s : RangeRow) × Contains zs s × (s.span.now ≡ r.span.now)
  rows_each r at =
      let a = Any-dedup span_equiv ys r (Contains-permutation xs ys r moved at) in
      (a.1, subst (λ k. Contains k a.1) (sym is) (a.0, a.2, a.3), sym (span_same r a.1 a.4))

-- ---- members of a list that rises

all_at : {X : Type 0} (P : X → Type 0) (xs : List X) (x : X) → AllByRecursion P xs → Contains xs x → P x
all_at P [] x h at = absurd (not_in_nil x at)
all_at P (y ∷ xs) x h at = elim (contains_cases y xs x at) [ inl same ↦ subst P same h.0 | inr more ↦ all_at P xs x h.1 more ]

unlike : Less ≡ Equal → ⊥
unlike e = cc

one_member : {X : Type 0} (cmp : X → X → Ordering) (xs : List X) (x y : X) → IsStrictlySortedBy cmp xs → Contains xs x → Contains xs y → cmp x y ≡ Equal → cmp y x ≡ Equal → x ≡ y
unfolding IsStrictlySortedBy
one_member cmp [] x y up f g e b = absurd (not_in_nil x f)
one_member cmp (z ∷ xs) x y up f g e b = elim (contains_cases z xs x f) [
  | inl x_first ↦ elim (contains_cases z xs y g) [
    | inl y_first ↦ sym x_first ∙ y_first
    | inr y_later ↦ absurd (unlike (sym (all_at (λ w. cmp z w ≡ Less) xs y up.0 y_later) ∙ ap (λ w. cmp w y) x_first ∙ e))
  ]
  | inr x_later ↦ elim (contains_cases z xs y g) [
    | inl y_first ↦ absurd (unlike (sym (all_at (λ w. cmp z w ≡ Less) xs x up.0 x_later) ∙ ap (λ w. cmp w x) y_first ∙ b))
    | inr y_later ↦ one_member cmp xs x y up.1 x_later y_later e b
  ]
]

-- ---- the rows that cover

pub rows_told : (request : RequestKind) (rows : List RangeRow) → map (range_found_of request) rows ≡ map (row_found request) (map range_value rows)
rows_told request [] = refl
rows_told request (r ∷ rows) = ap (λ l. range_found_of request r ∷ l) (rows_told request rows)

module _ (dump : DumpValue) (uri : List ℕ) (at : PositionValue) (nested : IsNested dump.elements) (documents : (d e : IdValue) (u : List ℕ) → vertex_at dump.elements d ≡ Some (document u) → vertex_at dump.elements e ≡ Some (document u) → d ≡ e) where
  module _ (doc : IdValue) (there : vertex_at dump.elements doc ≡ Some (document uri)) where
    lies : (r : RangeRowValue) (k : IsCoverRow dump uri at r) → Lies dump.elements doc at (range_of dump uri at r k)
    lies r k =
        let it = k.0.0.is_at in
        let held = subst (λ u. vertex_at dump.elements it.container ≡ Some (document u)) k.0.1 it.uri in
        (subst (λ x. is_in dump.elements x k.0.0.range ≡ true) (documents it.container doc uri held there) it.contained, k.1, it.span)

  holds : (r : RangeRowValue) (k : IsCoverRow dump uri at r) → vertex_at dump.elements k.0.0.is_at.container ≡ Some (document uri)
  holds r k = subst (λ u. vertex_at dump.elements k.0.0.is_at.container ≡ Some (document u)) k.0.1 k.0.0.is_at.uri

  -- two that have one span are at one line
  one_line_of : (r s : RangeRowValue) → IsCoverRow dump uri at r → IsCoverRow dump uri at s → r.place.span ≡ s.place.span → r.line ≡ s.line
  one_line_of r s k l same =
      let doc = k.0.0.is_at.container in
      let there = holds r k in
      let one = two dump.elements doc at nested (range_of dump uri at r k) (range_of dump uri at s l) (lies doc there r k) (lies doc there s l) same in
      let lines : ◌≡◌ {A = Option ℕ} (Some r.line) (Some s.line) = sym k.0.0.at_line ∙ ap (λ (v : RangeValue). number_of dump.elements v.id) one ∙ l.0.0.at_line in
      cc

  is_within : (r s : RangeRow) → IsCoverRow dump uri at (range_value r) → IsCoverRow dump uri at (range_value s) → by_span r s ≡ Less → IsWithin r.span.now s.span.now
  is_within r s k l less =
      let doc = k.0.0.is_at.container in
      let there = holds (range_value r) k in
      within dump.elements doc at nested (range_of dump uri at (range_value r) k) (range_of dump uri at (range_value s) l) (lies doc there (range_value r) k) (lies doc there (range_value s) l) less

  all_within : (r : RangeRow) (zs : List RangeRow) → IsCoverRow dump uri at (range_value r) → ((z : RangeRow) → Contains zs z → IsCoverRow dump uri at (range_value z)) → AllByRecursion (λ z. by_span r z ≡ Less) zs
      → AllByRecursion (λ s. IsWithin r.span.now s.place.span) (map range_value zs)
  all_within r [] k each up = tt
  all_within r (z ∷ zs) k each up = (is_within r z k (each z (contains_head z zs)) up.0, all_within r zs k (λ x h. each x (contains_tail z zs x h)) up.1)

  are_within : (zs : List RangeRow) → ((z : RangeRow) → Contains zs z → IsCoverRow dump uri at (range_value z)) → IsStrictlySortedBy by_span zs → AreWithin (map range_value zs)
  unfolding IsStrictlySortedBy
  are_within [] each up = tt
  are_within (z ∷ zs) each up = (all_within z zs (each z (contains_head z zs)) (λ x h. each x (contains_tail z zs x h)) up.0, are_within zs (λ x h. each x (contains_tail z zs x h)) up.1)

  module _ (xs zs : List RangeRow) (listed : IsListing by_line (IsCoverRow dump uri at) (map range_value xs)) (up : IsStrictlySortedBy by_span zs) (from : (r : RangeRow) → Contains zs r → Contains xs r)
      (each : (r : RangeRow) → Contains xs r → (s : RangeRow) × Contains zs s × (s.span.now ≡ r.span.now)) where
    covers_row : (x : RangeRow) → Contains xs x → IsCoverRow dump uri at (range_value x)
    covers_row x h = (listed.each (range_value x)).0 (contains_map range_value xs x h)

    is_there : (r : RangeRowValue) → IsCoverRow dump uri at r → Contains (map range_value zs) r
    is_there r k =
        let x = map_source range_value xs r ((listed.each r).1 k) in
        let z = each x.0 x.1 in
        let here = from z.0 z.1 in
        let line = one_line_of (range_value z.0) (range_value x.0) (covers_row z.0 here) (covers_row x.0 x.1) z.2 in
        let itself = tied_itself nat_cmp_total x.0.line in
        let same = one_member by_line (map range_value xs) (range_value z.0) (range_value x.0) listed.rises (contains_map range_value xs z.0 here) (contains_map range_value xs x.0 x.1)
        (ap (λ n. nat_cmp n x.0.line) line ∙ itself) (ap (nat_cmp x.0.line) line ∙ itself) in
        subst (Contains (map range_value zs)) (same ∙ x.2) (contains_map range_value zs z.0 z.1)

    pub rows_cover : (request : RequestKind) → IsFaultless (map Ok dump.elements) → (flat : RowsValue) → IsFlat dump.elements flat → FindsCover request dump.elements uri at (map (row_found request) (map range_value zs))
    rows_cover request free flat is_flat =
        covers_rows dump uri at free flat is_flat request (map range_value zs) (are_within zs (λ z h. covers_row z (from z h)) up)
        (λ r. ((λ h. let z = map_source range_value zs r h in subst (IsCoverRow dump uri at) z.2 (covers_row z.0 (from z.0 z.1))), is_there r))
