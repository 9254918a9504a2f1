-- The smallest range in which each range lies, as the pass over the ranges in order finds it.
use Rattle.std.specs.Prelude.{◌≡◌, ◌⊎◌, ◌==◌, ◌<◌, ◌≤◌, ◌&&◌, ℕ, Bool, nat_lt, nat_le, true, List, [], Option, Some, None, ⊤, Contains, length, get_or, option_and_then, if◌then◌else◌}
use Rattle.std.specs.declared.cmp.Ordering.{Ordering}
use Rattle.std.specs.Ordering.{nat_cmp, ordering_then}
use Rattle.positions.specs.Position.{IsPosition, packed_of}
use Rattle.lsif.specs.Element.{IdValue, range as range_vertex, ElementValue, vertex, edge}
use Rattle.dump.specs.Graph.{vertex_at}
use Rattle.dump.specs.Contained.{container, is_in}
use Rattle.positions.specs.Span.{SpanValue}
use Rattle.flatten.specs.Flat.{IsParent, number_of}
use Rattle.flatten.specs.Steps.Numbers.{one_or_none}
use Rattle.flatten.specs.declared.parents.Interval.{Interval}

-- a range that isn't empty, by numbers
pub record IntervalValue : Type 0 where
  pub document : ℕ
  pub first : ℕ
  pub last : ℕ
  pub range : ℕ

abbrev pub interval_value : Interval → IntervalValue
interval_value s = record { document = s.document; first = s.start; last = s.«end»; range = s.range }

abbrev pub interval_with : ℕ → ℕ → ℕ → ℕ → Option IntervalValue
interval_with document number first last = if nat_lt first last then Some (record { document = document; first = first; last = last; range = number }) else None

abbrev pub interval_by : Option ℕ → Option ℕ → ℕ → ℕ → Option IntervalValue
interval_by (Some document) (Some number) first last = interval_with document number first last
interval_by (Some document) None first last = None
interval_by None number first last = None

-- the interval of the range from one position's number to another's, where it isn't empty
abbrev pub interval_of : List ElementValue → IdValue → ℕ → ℕ → Option IntervalValue
interval_of elements r first last = interval_by (option_and_then (number_of elements) (container elements r)) (number_of elements r) first last

abbrev pub intervals_in : List ElementValue → ElementValue → List IntervalValue
intervals_in elements (vertex i (range_vertex span)) = one_or_none (interval_of elements i (packed_of span.start) (packed_of span.«end»))
intervals_in elements (vertex i v) = []
intervals_in elements (edge i e) = []

-- where the element is a range, its positions are within the limit
abbrev pub IsWithinLimit : ElementValue → Type 0
IsWithinLimit (vertex i (range_vertex span)) = IsPosition span.start × IsPosition span.«end»
IsWithinLimit (vertex i v) = ⊤
IsWithinLimit (edge i e) = ⊤

-- by document, then start, of one start the greater end first, then range
abbrev pub interval_cmp : IntervalValue → IntervalValue → Ordering
interval_cmp a b =
    ordering_then (nat_cmp a.document b.document)
    (ordering_then (nat_cmp a.first b.first) (ordering_then (nat_cmp b.last a.last) (nat_cmp a.range b.range)))

-- the test of the next
abbrev pub encloses : IntervalValue → IntervalValue → Bool
encloses outer inner = (outer.document == inner.document) && nat_le outer.first inner.first && nat_le inner.last outer.last

-- the inner interval lies in the outer one
abbrev pub IsInside : IntervalValue → IntervalValue → Type 0
IsInside inner outer = (outer.document ≡ inner.document) × (outer.first ≤ inner.first) × (inner.last ≤ outer.last)

abbrev pub interval_at : List IntervalValue → ℕ → IntervalValue
interval_at intervals i = get_or intervals i (record { document = 0; first = 0; last = 0; range = 0 })

-- the second comes after the first: in a later document, inside it and not equal to it, or after
-- its end
abbrev pub Follows : IntervalValue → IntervalValue → Type 0
Follows a b =
    (a.document < b.document)
    ⊎ ((a.document ≡ b.document) × (
    ((a.first ≤ b.first) × (b.last ≤ a.last) × ((a.first < b.first) ⊎ (b.last < a.last)))
    ⊎ (a.last ≤ b.first)))

-- intervals that aren't empty, in order, of which no two in one document are equal or overlap with
-- neither inside the other
pub record AreIntervals (intervals : List IntervalValue) : Type 0 where
  pub filled : (i : ℕ) → i < length intervals → (interval_at intervals i).first < (interval_at intervals i).last
  pub follows : (i j : ℕ) → i < j → j < length intervals → Follows (interval_at intervals i) (interval_at intervals j)

-- of the intervals before the index the smallest that it lies in
abbrev pub IsOpenBefore : List IntervalValue → ℕ → Option ℕ → Type 0
IsOpenBefore intervals i (Some p) =
    (p < i) × IsInside (interval_at intervals i) (interval_at intervals p)
    × ((q : ℕ) → q < i → IsInside (interval_at intervals i) (interval_at intervals q) → (q ≡ p)
    ⊎ ((q < p) × IsInside (interval_at intervals p) (interval_at intervals q)))
IsOpenBefore intervals i None = (q : ℕ) → q < i → IsInside (interval_at intervals i) (interval_at intervals q) → ⊥

-- each link leads to it
abbrev pub AreLinks : List IntervalValue → List (Option ℕ) → Type 0
AreLinks intervals links = (i : ℕ) → i < length links → IsOpenBefore intervals i (get_or links i None)

-- the number of an interval's range with that of the interval to which its link leads, of the first
-- so many intervals
pub record IsLinkPair (intervals : List IntervalValue) (links : List (Option ℕ)) (count : ℕ) (p : ℕ × ℕ) : Type 0 where
  pub inner : ℕ
  pub outer : ℕ
  pub below : inner < count
  pub link : get_or links inner None ≡ Some outer
  pub is_inner : p.0 ≡ (interval_at intervals inner).range
  pub is_outer : p.1 ≡ (interval_at intervals outer).range

-- an interval of a range in a document
pub record IsInterval (elements : List ElementValue) (s : IntervalValue) : Type 0 where
  pub range : IdValue
  pub document : IdValue
  pub span : SpanValue
  pub contained : is_in elements document range ≡ true
  pub is_range : vertex_at elements range ≡ Some (range_vertex span)
  pub at_document : number_of elements document ≡ Some s.document
  pub at_range : number_of elements range ≡ Some s.range
  pub is_first : s.first ≡ packed_of span.start
  pub is_last : s.last ≡ packed_of span.«end»
  pub filled : s.first < s.last

-- the pairs lead from the numbers of ranges to those of their parents
pub record AreParents (elements : List ElementValue) (pairs : List (ℕ × ℕ)) : Type 0 where
  pub some : (r : IdValue) (span : SpanValue) (n m : ℕ) → vertex_at elements r ≡ Some (range_vertex span) → number_of elements r ≡ Some n
      → Contains pairs (n, m) → IsParent elements r (Some m)
  pub none : (r : IdValue) (span : SpanValue) (n : ℕ) → vertex_at elements r ≡ Some (range_vertex span) → number_of elements r ≡ Some n
      → ((m : ℕ) → Contains pairs (n, m) → ⊥) → IsParent elements r None
