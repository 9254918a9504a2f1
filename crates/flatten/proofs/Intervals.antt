-- The intervals of ranges, and the parents that their links lead to.
use Rattle.std.proofs.Common.{◌≡◌, ◌⊎◌, inl, inr, ◌∙◌, ℕ, ◌<◌, ◌≤◌, Bool, true, false, not, nat_lt, List, length, get_or, refl, sym, ap, subst, arith}
use Rattle.std.specs.Prelude.{◌↔◌, ◌&&◌, ◌||◌, Contains, Option, Some, None, option_and_then, if◌then◌else◌}
use Rattle.std.specs.Cmp.{ranks}
use Rattle.std.specs.List.{All, flat_map}
use Rattle.std.specs.Ordering.{nat_cmp, ordering_then, MatchOrdering}
use Rattle.std.specs.declared.cmp.Ordering.{Ordering}
use Rattle.std.specs.declared.cmp.Ordering.TheVariants.{Less, Equal, Greater}
use Rattle.std.proofs.lemmas.Bool.{cases_lt}
use Rattle.std.proofs.lemmas.List.{get_or_default}
use Rattle.std.proofs.lemmas.List.Elements.{All-contains, Contains-get_or}
use Rattle.std.proofs.lemmas.Map.Keys.{Less-from_sorted}
use Rattle.positions.specs.Position.{PositionValue, IsBefore, IsPosition, is_before, packed_of}
use Rattle.positions.specs.Span.{SpanValue, Covers, Nests, nests, overlaps}
use Rattle.positions.proofs.Overlaps.{covered-overlaps}
use Rattle.lsif.specs.Element.{IdValue, VertexValue, meta_data, project, document, range, result_set, request_result, hover_result, moniker, package_information, event, other_vertex, ElementValue, vertex, edge}
use Rattle.dump.specs.Graph.{vertex_at}
use Rattle.dump.specs.Kinds.{is_document}
use Rattle.dump.specs.Contained.{IsNested, conflicts, container, is_in}
use Rattle.dump.specs.Places.{IsListing}
use Rattle.flatten.specs.Flat.{IsParent, LiesIn, number_of}
use Rattle.flatten.specs.Steps.Parents.{IntervalValue, AreLinks, AreParents, AreIntervals, Follows, IsInside, IsLinkPair, IsOpenBefore, IsInterval, IsWithinLimit, interval_at, interval_by, interval_cmp, interval_of, intervals_in}
use Rattle.streams.proofs.Members.{flat_of, flat_from, not_in_nil}
use Rattle.flatten.proofs.NumberPairs.{AreOnes, HasVertexNumbers, in_one, one_in}
use Rattle.flatten.proofs.OpenIntervals.{apart, around_before}

-- ---- the order of intervals

less_of : (x y : ℕ) → nat_cmp x y ≡ Less → x < y
less_of x y e = subst (λ o. MatchOrdering o (x < y) (x ≡ y) (y < x)) e (ranks x y)

equal_of : (x y : ℕ) → nat_cmp x y ≡ Equal → x ≡ y
equal_of x y e = subst (λ o. MatchOrdering o (x < y) (x ≡ y) (y < x)) e (ranks x y)

then_cases : (a b : Ordering) → ordering_then a b ≡ Less → (a ≡ Less) ⊎ ((a ≡ Equal) × (b ≡ Less))
then_cases Less b e = inl refl
then_cases Equal b e = inr (refl, e)
then_cases Greater b e = cc

-- where two intervals of one document come one before the other
abbrev IsSooner : IntervalValue → IntervalValue → Type 0
IsSooner a b = (a.first < b.first) ⊎ ((a.first ≡ b.first) × ((b.last < a.last) ⊎ ((b.last ≡ a.last) × (a.range < b.range))))

sooner_by : (a b : IntervalValue) → ordering_then (nat_cmp a.first b.first) (ordering_then (nat_cmp b.last a.last) (nat_cmp a.range b.range)) ≡ Less → IsSooner a b
sooner_by a b e = elim (then_cases (nat_cmp a.first b.first) (ordering_then (nat_cmp b.last a.last) (nat_cmp a.range b.range)) e) [
  | inl f ↦ inl (less_of a.first b.first f)
  | inr f ↦ elim (then_cases (nat_cmp b.last a.last) (nat_cmp a.range b.range) f.1) [
    | inl l ↦ inr (equal_of a.first b.first f.0, inl (less_of b.last a.last l))
    | inr l ↦ inr (equal_of a.first b.first f.0, inr (equal_of b.last a.last l.0, less_of a.range b.range l.1))
  ]
]

less_cases : (a b : IntervalValue) → interval_cmp a b ≡ Less → (a.document < b.document) ⊎ ((a.document ≡ b.document) × IsSooner a b)
less_cases a b e = elim (then_cases (nat_cmp a.document b.document) (ordering_then (nat_cmp a.first b.first) (ordering_then (nat_cmp b.last a.last) (nat_cmp a.range b.range))) e) [
  | inl d ↦ inl (less_of a.document b.document d)
  | inr d ↦ inr (equal_of a.document b.document d.0, sooner_by a b d.1)
]

-- ---- positions by their numbers

pub before_packed : (p q : PositionValue) → IsPosition p → IsPosition q → IsBefore p q → packed_of p < packed_of q
before_packed p q f g (inl less) = omega (arith, less, f.1)
before_packed p q f g (inr same) = omega (arith, same.0, same.1)

pub packed_before : (p q : PositionValue) → IsPosition p → IsPosition q → packed_of p < packed_of q → IsBefore p q
packed_before p q f g less = elim (cases_lt p.line q.line) [
  | inl l ↦ inl l
  | inr m ↦ elim (cases_lt q.line p.line) [
    | inl l ↦ absurd (omega (arith, l, less, g.1))
    | inr n ↦ let same : p.line ≡ q.line = omega (arith, m, n) in inr (same, omega (arith, same, less))
  ]
]

before_of : (p q : PositionValue) → is_before p q ≡ true → IsBefore p q
before_of p q e = grind arith

of_before : (p q : PositionValue) → IsBefore p q → is_before p q ≡ true
of_before p q h = grind arith

false_of : (b : Bool) → (b ≡ true → ⊥) → b ≡ false
false_of true h = absurd (h refl)
false_of false h = refl

both_of : (a b : Bool) → (a && b) ≡ true → (a ≡ true) × (b ≡ true)
both_of true b e = (refl, e)
both_of false b e = cc

not_of : (a : Bool) → not a ≡ true → a ≡ false
not_of true e = cc
not_of false e = refl

abbrev IsSpan : SpanValue → Type 0
IsSpan s = IsPosition s.start × IsPosition s.«end»

-- the one lies in the other, by numbers
abbrev IsIn : SpanValue → SpanValue → Type 0
IsIn s t = (packed_of t.start ≤ packed_of s.start) × (packed_of s.«end» ≤ packed_of t.«end»)

not_before : (p q : PositionValue) → IsPosition p → IsPosition q → is_before p q ≡ false → packed_of q ≤ packed_of p
not_before p q f g e = elim (cases_lt (packed_of p) (packed_of q)) [
  | inl less ↦ let t : true ≡ false = sym (of_before p q (packed_before p q f g less)) ∙ e in cc
  | inr more ↦ more
]

before_not : (p q : PositionValue) → IsPosition p → IsPosition q → packed_of q ≤ packed_of p → is_before p q ≡ false
before_not p q f g le = false_of (is_before p q) (λ e. omega (arith, le, before_packed p q f g (before_of p q e)))

nests_in : (s t : SpanValue) → IsSpan s → IsSpan t → nests s t ≡ true → IsIn s t
nests_in s t f g e =
    let b = both_of (not (is_before s.start t.start)) (not (is_before t.«end» s.«end»)) e in
    (not_before s.start t.start f.0 g.0 (not_of (is_before s.start t.start) b.0), not_before t.«end» s.«end» g.1 f.1 (not_of (is_before t.«end» s.«end») b.1))

in_nests : (s t : SpanValue) → IsSpan s → IsSpan t → IsIn s t → nests s t ≡ true
in_nests s t f g h =
    let a = before_not s.start t.start f.0 g.0 h.0 in
    let b = before_not t.«end» s.«end» g.1 f.1 h.1 in
    rw (a, b) refl

in_both : (s t : SpanValue) → IsSpan s → IsSpan t → IsIn s t → Nests s t
in_both s t f g h = (λ k. omega (arith, h.0, before_packed s.start t.start f.0 g.0 k), λ k. omega (arith, h.1, before_packed t.«end» s.«end» g.1 f.1 k))

both_in : (s t : SpanValue) → IsSpan s → IsSpan t → Nests s t → IsIn s t
both_in s t f g h = (
  elim (cases_lt (packed_of s.start) (packed_of t.start)) [ inl less ↦ absurd (h.0 (packed_before s.start t.start f.0 g.0 less)) | inr more ↦ more ],
  elim (cases_lt (packed_of t.«end») (packed_of s.«end»)) [ inl less ↦ absurd (h.1 (packed_before t.«end» s.«end» g.1 f.1 less)) | inr more ↦ more ],
)

-- ---- two spans that overlap and don't conflict

one_nests : (n m o : Bool) → ((n && m) || (o && not n && not m)) ≡ false → o ≡ true → ((n ≡ true) × (m ≡ false)) ⊎ ((m ≡ true) × (n ≡ false))
one_nests true true o e over = cc
one_nests true false o e over = inl (refl, refl)
one_nests false true o e over = inr (refl, refl)
one_nests false false true e over = cc
one_nests false false false e over = cc

-- a span that isn't empty covers its start
covers_start : (s t : SpanValue) → IsSpan s → IsSpan t → packed_of t.start ≤ packed_of s.start → packed_of s.start < packed_of t.«end» → Covers t s.start
covers_start s t f g le less = (λ k. omega (arith, le, before_packed s.start t.start f.0 g.0 k), packed_before s.start t.«end» f.0 g.1 less)

-- ---- the intervals of a dump

and_then_some : {X Y : Type 0} (f : X → Option Y) (o : Option X) (y : Y) → option_and_then f o ≡ Some y → (x : X) × (o ≡ Some x) × (f x ≡ Some y)
and_then_some f None y e = cc
and_then_some f (Some x) y e = (x, refl, e)

interval_by_some : (a b : Option ℕ) (first last : ℕ) (s : IntervalValue) → interval_by a b first last ≡ Some s → (a ≡ Some s.document) × (b ≡ Some s.range) × (s.first ≡ first) × (s.last ≡ last) × (first < last)
interval_by_some None b first last s e = cc
interval_by_some (Some m) None first last s e = cc
interval_by_some (Some m) (Some n) first last s e = by (nat_lt first last) refl e
  where
    this : IntervalValue
    this = record { document = m; first = first; last = last; range = n }

    by : (t : Bool) → nat_lt first last ≡ t → (if t then Some this else None) ≡ Some s → (◌≡◌ {A = Option ℕ} (Some m) (Some s.document)) × (◌≡◌ {A = Option ℕ} (Some n) (Some s.range)) × (s.first ≡ first) × (s.last ≡ last) × (first < last)
    by true t h = let same : this ≡ s = cc in (ap (λ (z : IntervalValue). Some z.document) same, ap (λ (z : IntervalValue). Some z.range) same, sym (ap (λ (z : IntervalValue). z.first) same), sym (ap (λ (z : IntervalValue). z.last) same), grind (arith, t))
    by false t h = cc

some_interval_by : (s : IntervalValue) (first last : ℕ) → s.first ≡ first → s.last ≡ last → s.first < s.last → interval_by (Some s.document) (Some s.range) first last ≡ Some s
some_interval_by s first last f l less =
    let t : nat_lt first last ≡ true = grind (arith, f, l, less) in
    ap (λ b. if b then Some (record { document = s.document; first = first; last = last; range = s.range }) else None) t ∙ (λ i. Some (record { document = s.document; first = sym f i; last = sym l i; range = s.range }))

document_vertex : (o : Option VertexValue) → is_document o ≡ true → (v : VertexValue) × (o ≡ Some v)
document_vertex None e = cc
document_vertex (Some v) e = (v, refl)

span_is : (s t : SpanValue) → ◌≡◌ {A = Option VertexValue} (Some (range s)) (Some (range t)) → s ≡ t
span_is s t e = cc

number_is : (m n : ℕ) → ◌≡◌ {A = Option ℕ} (Some m) (Some n) → m ≡ n
number_is m n e = cc

module _ (d : List ElementValue) (within : All IsWithinLimit d) (vertices : (i : IdValue) (v : VertexValue) → vertex_at d i ≡ Some v ↔ Contains d (vertex i v)) (ones : AreOnes d) (lined : HasVertexNumbers d)
    (containers : (e r : IdValue) → (is_in d e r ≡ true) ↔ (container d r ≡ Some e)) (nested : IsNested d) where
  span_limit : (r : IdValue) (span : SpanValue) → vertex_at d r ≡ Some (range span) → IsSpan span
  span_limit r span e = All-contains IsWithinLimit d (vertex r (range span)) within ((vertices r (range span)).0 e)

  interval_in : (x : ElementValue) (s : IntervalValue) → Contains d x → Contains (intervals_in d x) s → IsInterval d s
  interval_in (vertex i (range span)) s here at =
      let h = interval_by_some (option_and_then (number_of d) (container d i)) (number_of d i) (packed_of span.start) (packed_of span.«end») s (in_one (interval_of d i (packed_of span.start) (packed_of span.«end»)) s at) in
      let c = and_then_some (number_of d) (container d i) s.document h.0 in
      record {
        range = i;
        document = c.0;
        span = span;
        contained = (containers c.0 i).1 c.1;
        is_range = (vertices i (range span)).1 here;
        at_document = c.2;
        at_range = h.1;
        is_first = h.2;
        is_last = h.3;
        filled = omega (arith, h.2, h.3, h.4);
      }
  interval_in (vertex i (meta_data b)) s here at = absurd (not_in_nil s at)
  interval_in (vertex i project) s here at = absurd (not_in_nil s at)
  interval_in (vertex i (document u)) s here at = absurd (not_in_nil s at)
  interval_in (vertex i result_set) s here at = absurd (not_in_nil s at)
  interval_in (vertex i (request_result kind)) s here at = absurd (not_in_nil s at)
  interval_in (vertex i (hover_result t)) s here at = absurd (not_in_nil s at)
  interval_in (vertex i (moniker m)) s here at = absurd (not_in_nil s at)
  interval_in (vertex i (package_information p)) s here at = absurd (not_in_nil s at)
  interval_in (vertex i (event v)) s here at = absurd (not_in_nil s at)
  interval_in (vertex i other_vertex) s here at = absurd (not_in_nil s at)
  interval_in (edge i e) s here at = absurd (not_in_nil s at)

  interval_to : (s : IntervalValue) → Contains (flat_map (intervals_in d) d) s → IsInterval d s
  interval_to s at = let f = flat_of (intervals_in d) d s at in interval_in f.0 s f.1 f.2

  interval_from : (s : IntervalValue) → IsInterval d s → Contains (flat_map (intervals_in d) d) s
  interval_from s h =
      let held : container d h.range ≡ Some h.document = (containers h.document h.range).0 h.contained in
      let at_document : option_and_then (number_of d) (container d h.range) ≡ Some s.document = ap (option_and_then (number_of d)) held ∙ h.at_document in
      let first = packed_of h.span.start in
      let last = packed_of h.span.«end» in
      let is : interval_of d h.range first last ≡ Some s = ap (λ o. interval_by o (number_of d h.range) first last) at_document ∙ ap (λ o. interval_by (Some s.document) o first last) h.at_range ∙ some_interval_by s first last h.is_first h.is_last h.filled in
      flat_from (intervals_in d) d (vertex h.range (range h.span)) s ((vertices h.range (range h.span)).0 h.is_range) (one_in (interval_of d h.range first last) s is)

  -- the interval of a range that isn't empty
  interval_there : (e r : IdValue) (span : SpanValue) → is_in d e r ≡ true → vertex_at d r ≡ Some (range span) → IsBefore span.start span.«end» → (s : IntervalValue) × Contains (flat_map (intervals_in d) d) s × (h : IsInterval d s) × (h.document ≡ e) × (h.range ≡ r) × (h.span ≡ span)
  interval_there e r span held is filled =
      let limit = span_limit r span is in
      let v = document_vertex (vertex_at d e) (both_of (is_document (vertex_at d e)) _ held).0 in
      let m = lined e v.0 v.1 in
      let n = lined r (range span) is in
      let s : IntervalValue = record { document = m.0; first = packed_of span.start; last = packed_of span.«end»; range = n.0 } in
      let h : IsInterval d s = record {
        range = r;
        document = e;
        span = span;
        contained = held;
        is_range = is;
        at_document = m.1;
        at_range = n.1;
        is_first = refl;
        is_last = refl;
        filled = before_packed span.start span.«end» limit.0 limit.1 filled;
      } in
      (s, interval_from s h, h, refl, refl, refl)

  module _ (intervals : List IntervalValue) (listed : IsListing interval_cmp (Contains (flat_map (intervals_in d) d)) intervals) where
    interval_of_index : (i : ℕ) → i < length intervals → IsInterval d (interval_at intervals i)
    interval_of_index i lt = interval_to (interval_at intervals i) ((listed.each (interval_at intervals i)).0 (Contains-get_or intervals i _ lt))

    two_follow : (a b : IntervalValue) → IsInterval d a → IsInterval d b → interval_cmp a b ≡ Less → Follows a b
    two_follow a b f g less = by (less_cases a b less)
      where
        unlike : IsSooner a b → f.range ≡ g.range → ⊥
        unlike sooner same = elim sooner [
          | inl first ↦ omega (arith, first, starts)
          | inr rest ↦ elim rest.1 [
            | inl last ↦ omega (arith, last, stops)
            | inr ranges ↦ omega (arith, ranges.1, number_is a.range b.range (sym f.at_range ∙ ap (number_of d) same ∙ g.at_range))
          ]
        ]
          where
            spans : f.span ≡ g.span
            spans = span_is f.span g.span (sym f.is_range ∙ ap (vertex_at d) same ∙ g.is_range)

            starts : a.first ≡ b.first
            starts = f.is_first ∙ ap (λ (s : SpanValue). packed_of s.start) spans ∙ sym g.is_first

            stops : a.last ≡ b.last
            stops = f.is_last ∙ ap (λ (s : SpanValue). packed_of s.«end») spans ∙ sym g.is_last

        f_limit : IsSpan f.span
        f_limit = span_limit f.range f.span f.is_range

        g_limit : IsSpan g.span
        g_limit = span_limit g.range g.span g.is_range

        sooner_first : IsSooner a b → a.first ≤ b.first
        sooner_first (inl first) = omega (arith, first)
        sooner_first (inr rest) = omega (arith, rest.0)

        sooner_last : IsSooner a b → b.first ≤ a.first → b.last ≤ a.last
        sooner_last (inl first) le = absurd (omega (arith, first, le))
        sooner_last (inr (same, inl last)) le = omega (arith, last)
        sooner_last (inr (same, inr ranges)) le = omega (arith, ranges.0)

        clear : a.document ≡ b.document → IsSooner a b → conflicts f.span g.span ≡ false
        clear documents sooner =
            let same : g.document ≡ f.document = ones g.document f.document b.document g.at_document (f.at_document ∙ ap (λ n. Some n) documents) in
            nested f.document f.range g.range f.span g.span f.contained (subst (λ e. is_in d e g.range ≡ true) same g.contained) f.is_range g.is_range (unlike sooner)

        overlapping : a.first ≤ b.first → b.first < a.last → overlaps f.span g.span ≡ true
        overlapping le lt = covered-overlaps f.span g.span g.span.start
            (covers_start g.span f.span g_limit f_limit (omega (arith, le, f.is_first, g.is_first)) (omega (arith, lt, g.is_first, f.is_last)))
            (covers_start g.span g.span g_limit g_limit (omega arith) (omega (arith, g.filled, g.is_first, g.is_last)))

        inner : nests g.span f.span ≡ true → nests f.span g.span ≡ false → (a.first ≤ b.first) × (b.last ≤ a.last) × ((a.first < b.first) ⊎ (b.last < a.last))
        inner e off = elim (cases_lt a.first b.first) [
          | inl first ↦ (h.0, h.1, inl first)
          | inr no_first ↦ elim (cases_lt b.last a.last) [
            | inl last ↦ (h.0, h.1, inr last)
            | inr no_last ↦ let t : true ≡ false = sym (in_nests f.span g.span f_limit g_limit (omega (arith, no_first, f.is_first, g.is_first), omega (arith, no_last, f.is_last, g.is_last))) ∙ off in cc
          ]
        ]
          where
            k : IsIn g.span f.span
            k = nests_in g.span f.span g_limit f_limit e

            h : (a.first ≤ b.first) × (b.last ≤ a.last)
            h = (omega (arith, k.0, f.is_first, g.is_first), omega (arith, k.1, f.is_last, g.is_last))

        outer : IsSooner a b → nests f.span g.span ≡ true → nests g.span f.span ≡ false → ⊥
        outer sooner e off =
            let k = nests_in f.span g.span f_limit g_limit e in
            let first : b.first ≤ a.first = omega (arith, k.0, f.is_first, g.is_first) in
            let le = sooner_first sooner in
            let last = sooner_last sooner first in
            let t : true ≡ false = sym (in_nests g.span f.span g_limit f_limit (omega (arith, le, f.is_first, g.is_first), omega (arith, last, f.is_last, g.is_last))) ∙ off in cc

        by : (a.document < b.document) ⊎ ((a.document ≡ b.document) × IsSooner a b) → Follows a b
        by (inl documents) = inl documents
        by (inr (documents, sooner)) = elim (cases_lt b.first a.last) [
          | inl before ↦ elim (one_nests (nests f.span g.span) (nests g.span f.span) (overlaps f.span g.span) (clear documents sooner) (overlapping (sooner_first sooner) before)) [
            | inl n ↦ absurd (outer sooner n.0 n.1)
            | inr n ↦ inr (documents, inl (inner n.0 n.1))
          ]
          | inr behind ↦ inr (documents, inr behind)
        ]

    pub are_intervals : AreIntervals intervals
    are_intervals = record {
      filled = λ i lt. (interval_of_index i lt).filled;
      follows = λ i j less lt. two_follow (interval_at intervals i) (interval_at intervals j) (interval_of_index i (omega (arith, less, lt))) (interval_of_index j lt) (Less-from_sorted interval_cmp intervals i j _ listed.rises less lt);
    }

    -- ---- the parents

    inside_of : (a b : IntervalValue) (f : IsInterval d a) (g : IsInterval d b) → LiesIn d f.range g.range → IsInside a b
    inside_of a b f g l =
        let inner : l.span ≡ f.span = span_is l.span f.span (sym l.is_inner ∙ f.is_range) in
        let outer : l.around ≡ g.span = span_is l.around g.span (sym l.is_outer ∙ g.is_range) in
        let e : container d f.range ≡ Some l.document = (containers l.document f.range).0 l.contained in
        let k : container d g.range ≡ Some l.document = (containers l.document g.range).0 l.beside in
        let c : ◌≡◌ {A = Option IdValue} (Some f.document) (Some l.document) = sym ((containers f.document f.range).0 f.contained) ∙ e in
        let c2 : ◌≡◌ {A = Option IdValue} (Some g.document) (Some l.document) = sym ((containers g.document g.range).0 g.contained) ∙ k in
        let same : g.document ≡ f.document = id_is g.document l.document c2 ∙ sym (id_is f.document l.document c) in
        let n : b.document ≡ a.document = number_is b.document a.document (sym g.at_document ∙ ap (number_of d) same ∙ f.at_document) in
        let i = both_in l.span l.around (span_limit f.range l.span l.is_inner) (span_limit g.range l.around l.is_outer) l.nests in
        let s : packed_of l.span.start ≡ packed_of f.span.start = ap (λ (z : SpanValue). packed_of z.start) inner in
        let t : packed_of l.span.«end» ≡ packed_of f.span.«end» = ap (λ (z : SpanValue). packed_of z.«end») inner in
        let u : packed_of l.around.start ≡ packed_of g.span.start = ap (λ (z : SpanValue). packed_of z.start) outer in
        let v : packed_of l.around.«end» ≡ packed_of g.span.«end» = ap (λ (z : SpanValue). packed_of z.«end») outer in
        (n, omega (arith, i.0, s, u, f.is_first, g.is_first), omega (arith, i.1, t, v, f.is_last, g.is_last))
      where
        id_is : (x y : IdValue) → ◌≡◌ {A = Option IdValue} (Some x) (Some y) → x ≡ y
        id_is x y e = cc

    lies_of : (a b : IntervalValue) (f : IsInterval d a) (g : IsInterval d b) → IsInside a b → (f.range ≡ g.range → ⊥) → LiesIn d f.range g.range
    lies_of a b f g i unlike =
        let f_limit = span_limit f.range f.span f.is_range in
        let g_limit = span_limit g.range g.span g.is_range in
        let same : g.document ≡ f.document = ones g.document f.document a.document (g.at_document ∙ ap (λ n. Some n) i.0) f.at_document in
        record {
          document = f.document;
          span = f.span;
          around = g.span;
          contained = f.contained;
          beside = subst (λ e. is_in d e g.range ≡ true) same g.contained;
          is_inner = f.is_range;
          is_outer = g.is_range;
          filled = packed_before f.span.start f.span.«end» f_limit.0 f_limit.1 (omega (arith, f.filled, f.is_first, f.is_last));
          filled_around = packed_before g.span.start g.span.«end» g_limit.0 g_limit.1 (omega (arith, g.filled, g.is_first, g.is_last));
          others = unlike;
          nests = in_both f.span g.span f_limit g_limit (omega (arith, i.1, f.is_first, g.is_first), omega (arith, i.2, f.is_last, g.is_last));
        }

    -- two indices are those of two ranges
    unlike_at : (i j : ℕ) → j < i → (lt : i < length intervals) → (f : IsInterval d (interval_at intervals i)) (g : IsInterval d (interval_at intervals j)) → f.range ≡ g.range → ⊥
    unlike_at i j before lt f g same =
        let spans : g.span ≡ f.span = span_is g.span f.span (sym g.is_range ∙ ap (vertex_at d) (sym same) ∙ f.is_range) in
        let h : container d g.range ≡ Some f.document = subst (λ r. container d r ≡ Some f.document) same ((containers f.document f.range).0 f.contained) in
        let c : ◌≡◌ {A = Option IdValue} (Some g.document) (Some f.document) = sym ((containers g.document g.range).0 g.contained) ∙ h in
        let documents : g.document ≡ f.document = cc in
        apart intervals are_intervals i lt j before
        (g.is_first ∙ ap (λ (z : SpanValue). packed_of z.start) spans ∙ sym f.is_first)
        (g.is_last ∙ ap (λ (z : SpanValue). packed_of z.«end») spans ∙ sym f.is_last)
        (number_is _ _ (sym g.at_document ∙ ap (number_of d) documents ∙ f.at_document))

    -- the index of the interval of a range that isn't empty
    index_there : (e r : IdValue) (span : SpanValue) → is_in d e r ≡ true → vertex_at d r ≡ Some (range span) → IsBefore span.start span.«end» → (i : ℕ) × (i < length intervals) × (h : IsInterval d (interval_at intervals i)) × (h.range ≡ r)
    index_there e r span held is filled =
        let t = interval_there e r span held is filled in
        let at = (listed.each t.0).1 t.1 in
        let here : interval_at intervals at.0 ≡ t.0 = get_or_default intervals at.0 _ t.0 at.1 ∙ at.2 in
        let h = subst (λ s. (h : IsInterval d s) × (h.range ≡ r)) (sym here) (t.2, t.4) in
        (at.0, at.1, h.0, h.1)

    module _ (links : List (Option ℕ)) (are : AreLinks intervals links) (same_length : length links ≡ length intervals) (pairs : List (ℕ × ℕ)) (each : (p : ℕ × ℕ) → Contains pairs p ↔ IsLinkPair intervals links (length links) p) where
      -- what a range lies in, by indices
      around_index : (i : ℕ) (lt : i < length intervals) (f : IsInterval d (interval_at intervals i)) (q : IdValue) → LiesIn d f.range q → (j : ℕ) × (j < i) × (g : IsInterval d (interval_at intervals j)) × (g.range ≡ q) × IsInside (interval_at intervals i) (interval_at intervals j)
      around_index i lt f q l =
          let t = index_there l.document q l.around l.beside l.is_outer l.filled_around in
          let inside = inside_of (interval_at intervals i) (interval_at intervals t.0) f t.2 (subst (LiesIn d f.range) (sym t.3) l) in
          elim (around_before intervals are_intervals i lt t.0 t.1 inside) [
            | inl before ↦ (t.0, before, t.2, t.3, inside)
            | inr same ↦ absurd (l.others (ap_range i t.0 same f t.2 ∙ t.3))
          ]
        where
          ap_range : (i j : ℕ) → j ≡ i → (f : IsInterval d (interval_at intervals i)) (g : IsInterval d (interval_at intervals j)) → f.range ≡ g.range
          ap_range i j same f g = ones f.range g.range (interval_at intervals i).range f.at_range (g.at_range ∙ ap (λ k. Some (interval_at intervals k).range) same)

      some_parent : (r : IdValue) (span : SpanValue) (n m : ℕ) → vertex_at d r ≡ Some (range span) → number_of d r ≡ Some n → Contains pairs (n, m) → IsParent d r (Some m)
      some_parent r span n m is at held =
          let p = (each (n, m)).0 held in
          let lt : p.inner < length intervals = omega (arith, p.below, same_length) in
          let f = interval_of_index p.inner lt in
          let link : IsOpenBefore intervals p.inner (Some p.outer) = subst (IsOpenBefore intervals p.inner) p.link (are p.inner p.below) in
          let gt : p.outer < length intervals = omega (arith, link.0, lt) in
          let g = interval_of_index p.outer gt in
          let here : f.range ≡ r = ones f.range r n (f.at_range ∙ ap (λ k. Some k) (sym p.is_inner)) at in
          let out = lies_of (interval_at intervals p.inner) (interval_at intervals p.outer) f g link.1 (unlike_at p.inner p.outer link.0 lt f g) in
          subst (λ z. IsParent d z (Some m)) here (
            g.range,
            g.at_range ∙ ap (λ k. Some k) (sym p.is_outer),
            out,
            λ q l.
                let t = around_index p.inner lt f q l in
                elim (link.2 t.0 t.1 t.4) [
                  | inl same ↦ inl (sym t.3 ∙ ones t.2.range g.range (interval_at intervals p.outer).range (t.2.at_range ∙ ap (λ k. Some (interval_at intervals k).range) same) g.at_range)
                  | inr more ↦ inr (subst (LiesIn d g.range) t.3 (lies_of (interval_at intervals p.outer) (interval_at intervals t.0) g t.2 more.1 (unlike_at p.outer t.0 more.0 gt g t.2)))
                ],
          )

      no_parent : (r : IdValue) (span : SpanValue) (n : ℕ) → vertex_at d r ≡ Some (range span) → number_of d r ≡ Some n → ((m : ℕ) → Contains pairs (n, m) → ⊥) → IsParent d r None
      no_parent r span n is at none q l =
          let t = index_there l.document r l.span l.contained l.is_inner l.filled in
          let u = around_index t.0 t.1 t.2 q (subst (λ z. LiesIn d z q) (sym t.3) l) in
          by t.0 t.1 t.2 t.3 u.0 u.1 u.4 (get_or links t.0 None) refl
        where
          by : (i : ℕ) (lt : i < length intervals) (f : IsInterval d (interval_at intervals i)) → f.range ≡ r → (j : ℕ) → j < i → IsInside (interval_at intervals i) (interval_at intervals j) → (o : Option ℕ) → get_or links i None ≡ o → ⊥
          by i lt f here j before inside None e = subst (IsOpenBefore intervals i) e (are i (omega (arith, lt, same_length))) j before inside
          by i lt f here j before inside (Some p) e =
              let number : n ≡ (interval_at intervals i).range = number_is n (interval_at intervals i).range (sym at ∙ ap (number_of d) (sym here) ∙ f.at_range) in
              none (interval_at intervals p).range ((each (n, (interval_at intervals p).range)).1 (record { inner = i; outer = p; below = omega (arith, lt, same_length); link = e; is_inner = number; is_outer = refl }))

      pub are_parents : AreParents d pairs
      are_parents = record { some = some_parent; none = no_parent }
