-- The climb from the start to the ranges around it: what is found covers the position, and what
-- else covers it is yet to come.
use Rattle.std.proofs.Common.{◌≡◌, ◌⊎◌, inl, inr, ◌∙◌, ℕ, List, [], ◌∷◌, ◌++◌, map, Option, Some, None, refl, sym, ap, subst}
use Rattle.std.specs.Prelude.{⊤, Ok}
use Rattle.std.specs.List.{AllByRecursion, AllZip}
use Rattle.sqlite_rules.specs.Lists.{Has}
use Rattle.sqlite_rules.proofs.ListLemmas.{contains_had, has_contained}
use Rattle.positions.specs.Position.{PositionValue}
use Rattle.positions.specs.Span.{Covers, Nests}
use Rattle.dump.specs.Fault.{IsFaultless}
use Rattle.dump.specs.Progress.{DumpValue}
use Rattle.dump.specs.Requests.{IsWithin}
use Rattle.flatten.specs.Flat.{RangeRowValue, RowsValue, IsFlat}
use Rattle.tables.specs.declared.range_rows.SlotRange.{SlotRange}
use Rattle.tables.specs.Steps.Climbs.{TellsRange, IsStarted, IsStart, IsNamed, IsCoverRow, AreWithin, IsClimbed, ComesBefore}
use Rattle.tables.proofs.RangeNesting.{IsFilledRow, Follows, follows_none, follows_some, lie, one_or_clear}
use Rattle.tables.proofs.Selecting.{all_last, of_all}
use Rattle.tables.proofs.SpanNesting.{at_then, comes_around, covers_filled, nests_both, nests_same, not_apart, within_then}

-- ---- lists

told_last : (xs : List SlotRange) (rs : List RangeRowValue) (x : SlotRange) (r : RangeRowValue) → AllZip TellsRange xs rs → TellsRange x r → AllZip TellsRange (xs ++ x ∷ []) (rs ++ r ∷ [])
told_last [] [] x r h one = (one, tt)
told_last [] (s ∷ rs) x r h one = absurd h
told_last (y ∷ xs) [] x r h one = absurd h
told_last (y ∷ xs) (s ∷ rs) x r h one = (h.0, told_last xs rs x r h.1 one)

within_last : (rs : List RangeRowValue) (r : RangeRowValue) → AreWithin rs → AllByRecursion (λ s. IsWithin s.place.span r.place.span) rs → AreWithin (rs ++ r ∷ [])
within_last [] r h u = (tt, tt)
within_last (s ∷ rs) r h u = (all_last (λ t. IsWithin s.place.span t.place.span) rs r h.0 u.0, within_last rs r h.1 u.1)

has_before : (rs : List RangeRowValue) (r o : RangeRowValue) → Has rs o → Has (rs ++ r ∷ []) o
has_before [] r o h = absurd h
has_before (s ∷ rs) r o (inl e) = inl e
has_before (s ∷ rs) r o (inr h) = inr (has_before rs r o h)

has_last : (rs : List RangeRowValue) (r : RangeRowValue) → Has (rs ++ r ∷ []) r
has_last [] r = inl refl
has_last (s ∷ rs) r = inr (has_last rs r)

all_within : (rs : List RangeRowValue) (r s : RangeRowValue) → IsWithin r.place.span s.place.span → AllByRecursion (λ t. IsWithin t.place.span r.place.span) rs → AllByRecursion (λ t. IsWithin t.place.span s.place.span) rs
all_within [] r s w h = tt
all_within (t ∷ rs) r s w h = (within_then t.place.span r.place.span s.place.span h.0 w, all_within rs r s w h.1)

-- ---- the state of a climb

-- the range of the row lies around that of the next, or is it
abbrev pub IsAbove : RangeRowValue → Option RangeRowValue → Type 0
IsAbove o None = ⊥
IsAbove o (Some s) = Nests s.place.span o.place.span

abbrev pub AreUnder : List RangeRowValue → Option RangeRowValue → Type 0
AreUnder rows None = ⊤
AreUnder rows (Some s) = AllByRecursion (λ r. IsWithin r.place.span s.place.span) rows

abbrev pub TellsNext : Option SlotRange → Option RangeRowValue → Type 0
TellsNext None None = ⊤
TellsNext None (Some r) = ⊥
TellsNext (Some x) None = ⊥
TellsNext (Some x) (Some r) = TellsRange x r

module _ (dump : DumpValue) (uri : List ℕ) (at : PositionValue) where
  abbrev pub IsHere : Option RangeRowValue → Type 0
  IsHere None = ⊤
  IsHere (Some r) = IsStarted dump uri at r

  -- the rows of what is found, and the next: what is found covers the position, and what else
  -- covers it lies around the next or is it
  pub record Climbs (rows : List RangeRowValue) (next : Option RangeRowValue) : Type 0 where
    pub each : AllByRecursion (IsCoverRow dump uri at) rows
    pub left : (o : RangeRowValue) → IsCoverRow dump uri at o → Has rows o ⊎ IsAbove o next
    pub rises : AreWithin rows
    pub under : AreUnder rows next
    pub here : IsHere next

  -- the same, of what is read of the rows
  pub record ClimbsTo (found : List SlotRange) (next : Option SlotRange) : Type 0 where
    pub rows : List RangeRowValue
    pub row : Option RangeRowValue
    pub told : AllZip TellsRange found rows
    pub next_told : TellsNext next row
    pub climbs : Climbs rows row

  module _ (free : IsFaultless (map Ok dump.elements)) (flat : RowsValue) (is_flat : IsFlat dump.elements flat) where
    started : (o : RangeRowValue) → IsCoverRow dump uri at o → IsStarted dump uri at o
    started o h = (h.0, covers_filled o.place.span at h.1, h.1.0)

    -- a range that covers, and starts no later than the start, lies around it or is it
    around_start : (o r : RangeRowValue) → IsCoverRow dump uri at o → IsStarted dump uri at r → ComesBefore o.place.span r.place.span → Nests r.place.span o.place.span
    around_start o r h starts order = elim (one_or_clear dump free flat is_flat uri o r h.0 starts.0) [
      | inl same ↦ nests_same r.place.span o.place.span (ap (λ (x : RangeRowValue). x.place.span) (sym same))
      | inr clear ↦ comes_around o.place.span r.place.span at starts.1 clear h.1 starts.2 order
    ]

    pub begins : (next : Option SlotRange) → IsStart dump uri at next → ClimbsTo [] next
    begins None none = record {
      rows = [];
      row = None;
      told = tt;
      next_told = tt;
      climbs = record { each = tt; rises = tt; under = tt; here = tt; left = λ o h. absurd (none o (started o h)) };
    }
    begins (Some x) (r, starts, tells, last) = record {
      rows = [];
      row = Some r;
      told = tt;
      next_told = tells;
      climbs = record { each = tt; rises = tt; under = tt; here = starts; left = λ o h. inr (around_start o r h starts (last o (started o h))) };
    }

    filled : (r : RangeRowValue) → IsStarted dump uri at r → IsFilledRow dump free flat is_flat uri r
    filled r h = (h.0, h.1)

    -- what lies around a range or is it, is it or lies around the next
    rest_above : (r o : RangeRowValue) (next : Option RangeRowValue) → IsStarted dump uri at r → IsCoverRow dump uri at o → Nests r.place.span o.place.span → Follows dump free flat is_flat uri r next → (o ≡ r) ⊎ IsAbove o next
    rest_above r o next starts h above follows = elim (lie dump free flat is_flat uri o r (filled o (started o h)) (filled r starts)) [
      | inl same ↦ inl same
      | inr (inl inside) ↦ absurd (inside.1 (nests_both o.place.span r.place.span inside.0 above))
      | inr (inr (inl outside)) ↦ inr (go next follows outside)
      | inr (inr (inr apart)) ↦ absurd (not_apart r.place.span o.place.span starts.1 above apart)
    ]
      where
        go : (n : Option RangeRowValue) → Follows dump free flat is_flat uri r n → IsWithin r.place.span o.place.span → IsAbove o n
        go None none outside = none o (filled o (started o h)) outside
        go (Some s) (is, within, least) outside = elim (least o (filled o (started o h)) outside) [
          | inl same ↦ nests_same s.place.span o.place.span (ap (λ (x : RangeRowValue). x.place.span) (sym same))
          | inr more ↦ more.0
        ]

    here_next : (r : RangeRowValue) (next : Option RangeRowValue) → IsStarted dump uri at r → Follows dump free flat is_flat uri r next → IsHere next
    here_next r None starts f = tt
    here_next r (Some s) starts (is, within, least) = (is.0, is.1, at_then s.place.span.start r.place.span.start at within.0.0 starts.2)

    under_next : (rows : List RangeRowValue) (r : RangeRowValue) (next : Option RangeRowValue) → Follows dump free flat is_flat uri r next → AreUnder rows (Some r) → AreUnder rows next
    under_next rows r None f h = tt
    under_next rows r (Some s) (is, within, least) h = all_within rows r s within h

    under_last : (rows : List RangeRowValue) (r : RangeRowValue) (next : Option RangeRowValue) → Follows dump free flat is_flat uri r next → AreUnder rows next → AreUnder (rows ++ r ∷ []) next
    under_last rows r None f h = tt
    under_last rows r (Some s) (is, within, least) h = all_last (λ t. IsWithin t.place.span s.place.span) rows r h within

    -- ---- a step over rows

    module _ (rows : List RangeRowValue) (r : RangeRowValue) (next : Option RangeRowValue) (was : Climbs rows (Some r)) (follows : Follows dump free flat is_flat uri r next) where
      passes_row : (Covers r.place.span at → ⊥) → Climbs rows next
      passes_row short = record {
        each = was.each;
        rises = was.rises;
        under = under_next rows r next follows was.under;
        here = here_next r next was.here follows;
        left = λ o h. elim (was.left o h) [
          | inl had ↦ inl had
          | inr above ↦ elim (rest_above r o next was.here h above follows) [
            | inl same ↦ absurd (short (subst (λ (x : RangeRowValue). Covers x.place.span at) same h.1))
            | inr more ↦ inr more
          ]
        ];
      }

      takes_row : Covers r.place.span at → Climbs (rows ++ r ∷ []) next
      takes_row covers = record {
        each = all_last (IsCoverRow dump uri at) rows r was.each (was.here.0, covers);
        rises = within_last rows r was.rises was.under;
        under = under_last rows r next follows (under_next rows r next follows was.under);
        here = here_next r next was.here follows;
        left = λ o h. elim (was.left o h) [
          | inl had ↦ inl (has_before rows r o had)
          | inr above ↦ elim (rest_above r o next was.here h above follows) [
            | inl same ↦ inl (subst (Has (rows ++ r ∷ [])) (sym same) (has_last rows r))
            | inr more ↦ inr more
          ]
        ];
      }

    -- ---- a step over what is read

    -- the row that the next one is read of
    next_row : (x : SlotRange) (r : RangeRowValue) (next : Option SlotRange) → TellsRange x r → IsStarted dump uri at r → IsNamed dump uri x next → (row : Option RangeRowValue) × TellsNext next row × Follows dump free flat is_flat uri r row
    next_row x r None tells starts none = (None, tt, follows_none dump free flat is_flat uri r (filled r starts) (sym tells.parent ∙ none))
    next_row x r (Some y) tells starts (s, is, parent, says) = (Some s, says, follows_some dump free flat is_flat uri r s (filled r starts) is (sym tells.parent ∙ parent))

    step : (found : List SlotRange) (x : SlotRange) (next : Option SlotRange) (rows : List RangeRowValue) (row : Option RangeRowValue) → AllZip TellsRange found rows → TellsNext (Some x) row → Climbs rows row → IsNamed dump uri x next
        → ((Covers x.span at → ⊥) → ClimbsTo found next) × (Covers x.span at → ClimbsTo (found ++ x ∷ []) next)
    step found x next rows None told tells climbs named = absurd tells
    step found x next rows (Some r) told tells climbs named =
        let it = next_row x r next tells climbs.here named in (
          (λ short. record { rows = rows; row = it.0; told = told; next_told = it.1; climbs = passes_row rows r it.0 climbs it.2 (λ h. short (subst (λ s. Covers s at) (sym tells.span) h)) }),
          (λ covers. record { rows = rows ++ r ∷ []; row = it.0; told = told_last found rows x r told tells; next_told = it.1; climbs = takes_row rows r it.0 climbs it.2 (subst (λ s. Covers s at) tells.span covers) }),
        )

    module _ (found : List SlotRange) (x : SlotRange) (next : Option SlotRange) (was : ClimbsTo found (Some x)) (named : IsNamed dump uri x next) where
      -- the range doesn't cover the position
      pub passes : (Covers x.span at → ⊥) → ClimbsTo found next
      passes = (step found x next was.rows was.row was.told was.next_told was.climbs named).0

      -- the range covers it
      pub takes : Covers x.span at → ClimbsTo (found ++ x ∷ []) next
      takes = (step found x next was.rows was.row was.told was.next_told was.climbs named).1

    ended_rows : (found : List SlotRange) (rows : List RangeRowValue) (row : Option RangeRowValue) → AllZip TellsRange found rows → TellsNext None row → Climbs rows row → IsClimbed dump uri at found
    ended_rows found rows (Some r) told tells climbs = absurd tells
    ended_rows found rows None told tells climbs = record {
      rows = rows;
      told = told;
      rises = climbs.rises;
      each = λ r. (
        (λ there. of_all (IsCoverRow dump uri at) rows r climbs.each (has_contained rows r there)),
        (λ h. elim (climbs.left r h) [ inl had ↦ contains_had rows r had | inr none ↦ absurd none ]),
      );
    }

    pub ended : (found : List SlotRange) → ClimbsTo found None → IsClimbed dump uri at found
    ended found was = ended_rows found was.rows was.row was.told was.next_told was.climbs
