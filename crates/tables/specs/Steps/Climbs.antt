-- The climb from a range to those around it, over the rows of the ranges.
use Rattle.std.specs.Prelude.{◌≡◌, ◌⊎◌, ◌↔◌, ◌+◌, ◌*◌, ◌-◌, ◌^◌, ⊤, ℕ, suc, List, [], ◌∷◌, Option, Some, None, Contains}
use Rattle.std.specs.List.{AllByRecursion, AllZip}
use Rattle.positions.specs.Position.{PositionValue, IsBefore, IsAtOrBefore, packed_of}
use Rattle.positions.specs.Span.{SpanValue, Covers}
use Rattle.lsif.specs.declared.request_kind.RequestKind.{RequestKind}
use Rattle.lsif.specs.declared.request_kind.RequestKind.TheVariants.{Definition, References, Hover}
use Rattle.dump.specs.Progress.{DumpValue}
use Rattle.dump.specs.Requests.{IsWithin}
use Rattle.flatten.specs.Flat.{RangeRowValue, IsRangeRow}
use Rattle.machine.specs.Selections.{RangeFound}
use Rattle.tables.specs.declared.range_rows.SlotRange.{SlotRange}

-- what is read of the row of this range: all but the uri and the results that `more` has
pub record TellsRange (x : SlotRange) (r : RangeRowValue) : Type 0 where
  pub line : x.line ≡ r.line
  pub span : x.span ≡ r.place.span
  pub parent : x.parent ≡ r.parent
  pub definition : x.def ≡ r.results Definition
  pub references : x.refs ≡ r.results References
  pub hover : x.hover ≡ r.results Hover

-- the row of a range of the document of this uri
abbrev pub IsRowOf : DumpValue → List ℕ → RangeRowValue → Type 0
IsRowOf dump uri r = IsRangeRow dump.elements r × (r.place.uri ≡ uri)

-- the row of one that isn't empty and starts at the position or before
abbrev pub IsStarted : DumpValue → List ℕ → PositionValue → RangeRowValue → Type 0
IsStarted dump uri position r = IsRowOf dump uri r × IsBefore r.place.span.start r.place.span.«end» × IsAtOrBefore r.place.span.start position

-- the first span comes before the second, start up, end down, or is the same
abbrev pub ComesBefore : SpanValue → SpanValue → Type 0
ComesBefore s t = IsBefore s.start t.start ⊎ ((s.start ≡ t.start) × IsAtOrBefore t.«end» s.«end»)

-- the last of these, start up, end down; or there is none
abbrev pub IsStart : DumpValue → List ℕ → PositionValue → Option SlotRange → Type 0
IsStart dump uri position None = (r : RangeRowValue) → IsStarted dump uri position r → ⊥
IsStart dump uri position (Some x) =
    (r : RangeRowValue) × IsStarted dump uri position r × TellsRange x r
    × ((o : RangeRowValue) → IsStarted dump uri position o → ComesBefore o.place.span r.place.span)

-- the range of the document that the row has as its parent, where it has one
abbrev pub IsNamed : DumpValue → List ℕ → SlotRange → Option SlotRange → Type 0
IsNamed dump uri child None = child.parent ≡ None
IsNamed dump uri child (Some x) = (r : RangeRowValue) × IsRowOf dump uri r × (child.parent ≡ Some r.line) × TellsRange x r

-- a number that grows along the order start up, end down
abbrev pub weight : Option SlotRange → ℕ
weight None = 0
weight (Some x) = suc (packed_of x.span.start * 2 ^ 62 + (2 ^ 62 - packed_of x.span.«end»))

-- ---- what is found

-- the row of a range of the document that covers the position
abbrev pub IsCoverRow : DumpValue → List ℕ → PositionValue → RangeRowValue → Type 0
IsCoverRow dump uri position r = IsRowOf dump uri r × Covers r.place.span position

-- each range lies in those that follow
abbrev pub AreWithin : List RangeRowValue → Type 0
AreWithin [] = ⊤
AreWithin (r ∷ rows) = AllByRecursion (λ s. IsWithin r.place.span s.place.span) rows × AreWithin rows

-- the rows of the ranges of the document that cover the position were read, the smallest range
-- first
pub record IsClimbed (dump : DumpValue) (uri : List ℕ) (position : PositionValue) (found : List SlotRange) : Type 0 where
  pub rows : List RangeRowValue
  pub told : AllZip TellsRange found rows
  pub rises : AreWithin rows
  pub each : (r : RangeRowValue) → Contains rows r ↔ IsCoverRow dump uri position r

-- what a request finds of the range of this row
abbrev pub row_found : RequestKind → RangeRowValue → RangeFound
row_found request r = record { line = r.line; span = r.place.span; result = r.results request }
