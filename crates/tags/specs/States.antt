-- Lines taken one after the other, of whose tags something is kept: the tags, or their number.
use Rattle.std.specs.Prelude.{◌≡◌, ℕ, ◌+◌, ◌++◌, ◌∷◌, [], Bool, false, List, fold, length, Option, Some, None, Result, Ok, Err, ⊤}
use Rattle.tags.specs.Fault.{Reading, last_name, is_sorted, order_by}
use Rattle.tags.specs.Values.{ContentValue, sorted, other, ordinary, TagValue, numbered}
use Rattle.tags.specs.declared.code.Code.{Code}
use Rattle.tags.specs.declared.code.TagsFault.{TagsFault}
use Rattle.tags.specs.declared.code.TagsFault.TheVariants as faults

-- what has to be known of the lines so far: their number, what is kept of their tags, the last
-- ordinary name as written, and whether the order is checked
pub record Summary (K : Type 0) : Type 0 where
  pub count : ℕ
  pub kept : K
  pub last : Option (List ℕ)
  pub checked : Bool

-- the summary of lines of whose tags this is kept
unfoldable pub summary_of : {K : Type 0} → K → List ContentValue → Summary K
summary_of kept before = record { count = length before; kept = kept; last = last_name before; checked = is_sorted before }

-- ---- what is kept with one tag more

-- where the tags are
abbrev pub listed : List TagValue → TagValue → List TagValue
listed tags tag = tags ++ tag ∷ []

-- where their number is
abbrev pub counted : ℕ → TagValue → ℕ
counted n tag = n + 1

-- ---- the lines

-- the summary with one line more
abbrev pub add : {K : Type 0} → (K → TagValue → K) → Summary K → ContentValue → Summary K
add keep s (sorted b) = record { count = s.count + 1; kept = s.kept; last = s.last; checked = b }
add keep s other = record { count = s.count + 1; kept = s.kept; last = s.last; checked = s.checked }
add keep s (ordinary written e) =
    record { count = s.count + 1; kept = keep s.kept (numbered (s.count + 1) e); last = Some written; checked = s.checked }

-- running, or stopped at a line, counted from 1, by a code
pub data State (K : Type 0) : Type 0 where
  running : Summary K → State K
  stopped : ℕ → Code → State K

-- the least code that holds of a line after those before it
abbrev pub order_in : {K : Type 0} → Summary K → ContentValue → Option Code
order_in s x = order_by s.last s.checked s.count x

abbrev pub advance : {K : Type 0} → (K → TagValue → K) → Summary K → ContentValue → Option Code → State K
advance keep s x (Some c) = stopped (s.count + 1) c
advance keep s x None = running (add keep s x)

-- the state after one line more
abbrev pub next : {K : Type 0} → (K → TagValue → K) → State K → Reading → State K
next keep (running s) (Err c) = stopped (s.count + 1) c
next keep (running s) (Ok x) = advance keep s x (order_in s x)
next keep (stopped n c) line = stopped n c

-- no line yet, where this is kept of no tag
abbrev pub start : {K : Type 0} → K → State K
start none = running (record { count = 0; kept = none; last = None; checked = false })

-- the state after these lines
abbrev pub state_after : {K : Type 0} → (K → TagValue → K) → K → List Reading → State K
state_after keep none lines = fold (next keep) (start none) lines

-- ---- what is answered

abbrev pub IsRunning : {K : Type 0} → State K → Type 0
IsRunning (running s) = Unit {0}
IsRunning (stopped n c) = ⊥

-- What a call says of the states before it and after it, where `to` is the state that the line
-- leads to. Where memory runs out the line has no fault, and the state stays.
abbrev pub Tells : {K : Type 0} → Result ⊤ TagsFault → State K → State K → State K → Type 0
Tells (Ok u) old new to = (new ≡ to) × IsRunning to
Tells (Err faults.Memory) old new to = (new ≡ old) × IsRunning to
Tells (Err (faults.Line f)) old new to = (new ≡ to) × (to ≡ stopped f.line f.code)

-- what the end says of the state
abbrev pub Finishes : {K : Type 0} → Result K TagsFault → State K → Type 0
Finishes (Ok kept) (running s) = kept ≡ s.kept
Finishes (Ok kept) (stopped n c) = ⊥
Finishes (Err faults.Memory) state = ⊥
Finishes (Err (faults.Line f)) (running s) = ⊥
Finishes (Err (faults.Line f)) (stopped n c) = (f.line ≡ n) × (f.code ≡ c)
