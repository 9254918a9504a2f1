-- The fault of a dump: its first faulty line, and only where there is none the first fault at its
-- end. A dump is the list of the readings of its lines.
use Rattle.std.specs.Prelude.{◌≡◌, ◌≢◌, ℕ, ◌+◌, ◌<◌, ◌⊎◌, List, [], take, Option, Some, None, Ok, Err, slice_get}
use Rattle.std.specs.List.{filter_map}
use Rattle.lsif.specs.Element.{ElementValue, Reading}
use Rattle.lsif.specs.declared.code.Code.{Code}
use Rattle.lsif.specs.declared.code.Code.TheVariants.{L06}
use Rattle.dump.specs.declared.fault.LineFault.{LineFault}
use Rattle.dump.specs.Conditions.{order_code, end_code}

abbrev pub read_as : Reading → Option ElementValue
read_as (Ok x) = Some x
read_as (Err c) = None

-- the elements of a dump
abbrev pub elements_of : List Reading → List ElementValue
elements_of dump = filter_map read_as dump

-- the elements before line k, which is counted from 0
abbrev pub before : List Reading → ℕ → List ElementValue
before dump k = elements_of (take k dump)

-- the code of a line: that of its shape, or else the least order code against the elements before
-- it
abbrev pub line_code : List ElementValue → Reading → Option Code
line_code before (Err c) = Some c
line_code before (Ok x) = order_code before x

-- line k, counted from 0, has this code
abbrev pub HasCode : List Reading → ℕ → Code → Type 0
HasCode dump k c = (line : Reading) × (slice_get dump k ≡ Some line) × (line_code (before dump k) line ≡ Some c)

abbrev pub IsSoundLine : List Reading → ℕ → Type 0
IsSoundLine dump k = (c : Code) → HasCode dump k c → ⊥

-- element k, counted from 0, has this code at the end of the dump
abbrev pub HasEndCode : List ElementValue → ℕ → Code → Type 0
HasEndCode elements k c = (x : ElementValue) × (slice_get elements k ≡ Some x) × (end_code elements x ≡ Some c)

abbrev pub IsSoundAtEnd : List ElementValue → ℕ → Type 0
IsSoundAtEnd elements k = (c : Code) → HasEndCode elements k c → ⊥

-- the fault is of a line, and no line before it has one
pub record IsLineFault (dump : List Reading) (f : LineFault) : Type 0 where
  pub index : ℕ
  pub line : f.line ≡ index + 1
  pub code : HasCode dump index f.code
  pub least : (j : ℕ) → j < index → IsSoundLine dump j

-- the fault is of an element at the end, and no element before it has one
pub record IsElementFault (elements : List ElementValue) (f : LineFault) : Type 0 where
  pub index : ℕ
  pub line : f.line ≡ index + 1
  pub code : HasEndCode elements index f.code
  pub least : (j : ℕ) → j < index → IsSoundAtEnd elements j

-- a dump of no line has no metaData
abbrev pub IsEmptyFault : List Reading → LineFault → Type 0
IsEmptyFault dump f = (dump ≡ []) × (f.line ≡ 1) × (f.code ≡ L06)

abbrev pub AreSoundLines : List Reading → Type 0
AreSoundLines dump = (k : ℕ) → IsSoundLine dump k

-- no line is faulty, and at its end the dump has this fault
abbrev pub IsEndFault : List Reading → LineFault → Type 0
IsEndFault dump f = AreSoundLines dump × (IsEmptyFault dump f ⊎ IsElementFault (elements_of dump) f)

-- there is at least one line, no line is faulty, and there is no fault at the end
abbrev pub IsFaultless : List Reading → Type 0
IsFaultless dump = (dump ≢ []) × AreSoundLines dump × ((k : ℕ) → IsSoundAtEnd (elements_of dump) k)

-- the fault of the dump, or none
abbrev pub IsFault : List Reading → Option LineFault → Type 0
IsFault dump (Some f) = IsLineFault dump f ⊎ IsEndFault dump f
IsFault dump None = IsFaultless dump
