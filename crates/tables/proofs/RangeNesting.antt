-- The rows of the ranges of one document: how they lie to each other, and what the parent of each
-- is.
use Rattle.std.proofs.Common.{◌≡◌, ◌≢◌, ◌⊎◌, inl, inr, ◌∙◌, ◌==◌, ℕ, true, false, List, [], ◌∷◌, map, Option, Some, None, sym, ap, subst, arith}
use Rattle.std.specs.Prelude.{Ok}
use Rattle.std.specs.List.Sorted.{IsStrictlySortedBy}
use Rattle.std.specs.Cmp.{nat_cmp_total}
use Rattle.std.specs.Ordering.{nat_cmp}
use Rattle.std.specs.declared.cmp.Ordering.TheVariants.{Less}
use Rattle.std.proofs.lemmas.Cmp.{tied_itself}
use Rattle.std.proofs.lemmas.Bool.{cases_Bool}
use Rattle.sqlite_rules.specs.Lists.{Has}
use Rattle.sqlite_rules.proofs.ListLemmas.{has_contained}
use Rattle.positions.specs.Span.{SpanValue, Nests}
use Rattle.lsif.specs.Element.{IdValue, VertexValue, document, range}
use Rattle.dump.specs.Contained.{is_in, conflicts}
use Rattle.dump.specs.Fault.{IsFaultless}
use Rattle.dump.specs.Graph.{vertex_at}
use Rattle.dump.specs.Progress.{DumpValue}
use Rattle.dump.specs.Requests.{IsWithin}
use Rattle.dump.proofs.Lines.{one_line}
use Rattle.dump.proofs.Nests.{nested}
use Rattle.dump.proofs.Passes.{conflicts_itself}
use Rattle.dump.proofs.Progresses.{sound_of}
use Rattle.streams.proofs.Bools.{eq_of}
use Rattle.dump.proofs.Uniques.{one_document}
use Rattle.flatten.specs.Flat.{RangeRowValue, RowsValue, IsFlat, IsParent, IsRangeRow, LiesIn, by_line, number_of}
use Rattle.flatten.proofs.NumberPairs.{number_ones}
use Rattle.tables.specs.Steps.Climbs.{IsRowOf}
use Rattle.tables.proofs.Keeping.{same_some}
use Rattle.tables.proofs.Selecting.{of_all}
use Rattle.tables.proofs.SpanNesting.{IsFilled, AreApart, one_of_three}

-- ---- rows by their lines

less_same : (n m : ℕ) → nat_cmp n m ≡ Less → n ≡ m → ⊥
less_same n m e same =
    let tied = tied_itself nat_cmp_total n in
    let f : nat_cmp n n ≡ Less = subst (λ k. nat_cmp n k ≡ Less) (sym same) e in
    cc

strict_same : (xs : List RangeRowValue) → IsStrictlySortedBy by_line xs → (x y : RangeRowValue) → Has xs x → Has xs y → x.line ≡ y.line → x ≡ y
unfolding IsStrictlySortedBy
strict_same [] up x y a b same = absurd a
strict_same (z ∷ xs) up x y (inl a) (inl b) same = a ∙ sym b
strict_same (z ∷ xs) up x y (inl a) (inr b) same = absurd (less_same z.line y.line (of_all (λ w. by_line z w ≡ Less) xs y up.0 b) (ap (λ (r : RangeRowValue). r.line) (sym a) ∙ same))
strict_same (z ∷ xs) up x y (inr a) (inl b) same = absurd (less_same z.line x.line (of_all (λ w. by_line z w ≡ Less) xs x up.0 a) (ap (λ (r : RangeRowValue). r.line) (sym b) ∙ sym same))
strict_same (z ∷ xs) up x y (inr a) (inr b) same = strict_same xs up.1 x y a b same

other_number : (n m : ℕ) → (n == m) ≡ false → n ≡ m → ⊥
other_number n m e same = grind arith

span_is : (s t : SpanValue) → ◌≡◌ {A = Option VertexValue} (Some (range s)) (Some (range t)) → s ≡ t
span_is s t e = cc

module _ (dump : DumpValue) (free : IsFaultless (map Ok dump.elements)) (flat : RowsValue) (is_flat : IsFlat dump.elements flat) where
  pub keyed : (r s : RangeRowValue) → IsRangeRow dump.elements r → IsRangeRow dump.elements s → r.line ≡ s.line → r ≡ s
  keyed r s f g =
      let a = has_contained flat.ranges r ((is_flat.ranges.each r).1 f) in
      let b = has_contained flat.ranges s ((is_flat.ranges.each s).1 g) in
      strict_same flat.ranges is_flat.ranges.rises r s a b

  -- the rows of one range are one
  pub one_range : (r s : RangeRowValue) (f : IsRangeRow dump.elements r) (g : IsRangeRow dump.elements s) → f.range ≡ g.range → r ≡ s
  one_range r s f g same = keyed r s f g (same_some (sym f.at_line ∙ (ap (number_of dump.elements) same ∙ g.at_line)))

  -- a number is that of one range
  one_number : (x y : IdValue) (n : ℕ) → number_of dump.elements x ≡ Some n → number_of dump.elements y ≡ Some n → x ≡ y
  one_number = number_ones dump.elements (one_line dump.elements)

  module _ (uri : List ℕ) where
    -- the row of a range of the document that isn't empty
    abbrev pub IsFilledRow : RangeRowValue → Type 0
    IsFilledRow r = IsRowOf dump uri r × IsFilled r.place.span

    one_container : (r s : RangeRowValue) (f : IsRowOf dump uri r) (g : IsRowOf dump uri s) → f.0.is_at.container ≡ g.0.is_at.container
    one_container r s f g =
        one_document dump.elements (sound_of dump.elements free) f.0.is_at.container g.0.is_at.container s.place.uri (subst (λ u. vertex_at dump.elements f.0.is_at.container ≡ Some (document u)) (f.1 ∙ sym g.1) f.0.is_at.uri) g.0.is_at.uri

    beside : (r s : RangeRowValue) (f : IsRowOf dump uri r) (g : IsRowOf dump uri s) → is_in dump.elements f.0.is_at.container g.0.range ≡ true
    beside r s f g = subst (λ d. is_in dump.elements d g.0.range ≡ true) (sym (one_container r s f g)) g.0.is_at.contained

    clear : (r s : RangeRowValue) (f : IsRowOf dump uri r) (g : IsRowOf dump uri s) → f.0.range ≢ g.0.range → conflicts r.place.span s.place.span ≡ false
    clear r s f g others =
        nested dump.elements (sound_of dump.elements free) f.0.is_at.container f.0.range g.0.range r.place.span s.place.span f.0.is_at.contained (beside r s f g) f.0.is_at.span g.0.is_at.span others

    -- two of the rows are one, or their ranges don't conflict
    pub one_or_clear : (r s : RangeRowValue) → IsRowOf dump uri r → IsRowOf dump uri s → (r ≡ s) ⊎ (conflicts r.place.span s.place.span ≡ false)
    one_or_clear r s f g = elim (cases_Bool (r.line == s.line)) [
      | inl same ↦ inl (keyed r s f.0 g.0 (eq_of r.line s.line same))
      | inr other ↦ inr (clear r s f g (λ e. other_number r.line s.line other (ap (λ (x : RangeRowValue). x.line) (one_range r s f.0 g.0 e))))
    ]

    -- two of the rows are one, one of their ranges lies in the other, or these are apart
    pub lie : (r s : RangeRowValue) → IsFilledRow r → IsFilledRow s → (r ≡ s) ⊎ (IsWithin r.place.span s.place.span ⊎ (IsWithin s.place.span r.place.span ⊎ AreApart r.place.span s.place.span))
    lie r s f g = elim (one_or_clear r s f.0 g.0) [ inl same ↦ inl same | inr apart ↦ inr (one_of_three r.place.span s.place.span f.1 g.1 apart) ]

    lies_in : (r s : RangeRowValue) (f : IsFilledRow r) (g : IsFilledRow s) → IsWithin r.place.span s.place.span → LiesIn dump.elements f.0.0.range g.0.0.range
    lies_in r s f g within = record {
      document = f.0.0.is_at.container;
      span = r.place.span;
      around = s.place.span;
      contained = f.0.0.is_at.contained;
      beside = beside r s f.0 g.0;
      is_inner = f.0.0.is_at.span;
      is_outer = g.0.0.is_at.span;
      filled = f.1;
      filled_around = g.1;
      others = λ e. within.1 (ap (λ (x : RangeRowValue). x.place.span) (one_range r s f.0.0 g.0.0 e));
      nests = within.0;
    }

    lies_within : (r s : RangeRowValue) (f : IsRowOf dump uri r) (g : IsRowOf dump uri s) → LiesIn dump.elements f.0.range g.0.range → IsFilled s.place.span × IsWithin r.place.span s.place.span
    lies_within r s f g h =
        let inner : h.span ≡ r.place.span = span_is h.span r.place.span (sym h.is_inner ∙ f.0.is_at.span) in
        let outer : h.around ≡ s.place.span = span_is h.around s.place.span (sym h.is_outer ∙ g.0.is_at.span) in
        let apart = clear r s f g h.others in (
          subst IsFilled outer h.filled_around,
          (
            subst (λ t. Nests r.place.span t) outer (subst (λ t. Nests t h.around) inner h.nests),
            λ same. let e : true ≡ false = sym (conflicts_itself s.place.span) ∙ subst (λ t. conflicts t s.place.span ≡ false) same apart in cc,
          ),
        )

    -- the next is the row of the smallest range that this one lies in; or it lies in none
    abbrev pub Follows : RangeRowValue → Option RangeRowValue → Type 0
    Follows r None = (o : RangeRowValue) → IsFilledRow o → IsWithin r.place.span o.place.span → ⊥
    Follows r (Some s) = IsFilledRow s × IsWithin r.place.span s.place.span × ((o : RangeRowValue) → IsFilledRow o → IsWithin r.place.span o.place.span → (o ≡ s) ⊎ IsWithin s.place.span o.place.span)

    pub follows_none : (r : RangeRowValue) → IsFilledRow r → r.parent ≡ None → Follows r None
    follows_none r f none o g within = (subst (IsParent dump.elements f.0.0.range) none f.0.0.is_parent) g.0.0.range (lies_in r o f g within)

    pub follows_some : (r s : RangeRowValue) → IsFilledRow r → IsRowOf dump uri s → r.parent ≡ Some s.line → Follows r (Some s)
    follows_some r s f g some =
        let p = subst (IsParent dump.elements f.0.0.range) some f.0.0.is_parent in
        let same : p.0 ≡ g.0.range = one_number p.0 g.0.range s.line p.1 g.0.at_line in
        let around = lies_within r s f.0 g (subst (LiesIn dump.elements f.0.0.range) same p.2) in (
          (g, around.0),
          around.1,
          λ o h within. elim (p.3 h.0.0.range (lies_in r o f h within)) [
            | inl one ↦ inl (one_range o s h.0.0 g.0 (one ∙ same))
            | inr more ↦ inr ((lies_within s o g h.0 (subst (λ x. LiesIn dump.elements x h.0.0.range) same more)).1)
          ],
        )
