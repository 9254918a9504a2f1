-- Bytes that are written one part after another.
use Rattle.std.specs.Prelude.{◌≡◌, ◌≢◌, ℕ, ◌⊎◌, List, [], ◌++◌, Option, Some, None, Result, Ok, Err, ⊤}
use Rattle.streams.specs.Streams.{Output, Gains, SameCounts, OneFailure, OneZeroWrite}

-- known bytes gain these at their end, or aren't known any more
abbrev pub GainsOrHides : Option (List ℕ) → Option (List ℕ) → List ℕ → Type 0
GainsOrHides None new bytes = ⊤
GainsOrHides (Some old) new bytes = (new ≡ Some (old ++ bytes)) ⊎ (new ≡ None)

-- these bytes were written
abbrev pub Writes : Output → List ℕ → Output → Type 0
Writes old bytes new = Gains old.taken new.taken bytes × SameCounts old new

-- these bytes were written, and then a write failed, or took no byte
abbrev pub WritesTo : Output → List ℕ → Output → Type 0
WritesTo old bytes new =
    (GainsOrHides old.taken new.taken bytes × OneFailure old new) ⊎ (Gains old.taken new.taken bytes × OneZeroWrite old new)

-- a beginning of the bytes was written, but not all of them
abbrev pub CutsShort : Output → List ℕ → Output → Type 0
CutsShort old bytes new = (front : List ℕ) × (back : List ℕ) × (bytes ≡ front ++ back) × (back ≢ []) × WritesTo old front new

-- all of the bytes were written, or a beginning of them
abbrev pub Sends : {E : Type 0} → Output → List ℕ → Result (Unit {0}) E → Output → Type 0
Sends old bytes (Ok u) new = Writes old bytes new
Sends old bytes (Err e) new = CutsShort old bytes new

-- where not all of some bytes were written, a write failed or one took no byte, once
abbrev pub CountsSending : {A E : Type 0} → Output → Result A E → Output → Type 0
CountsSending old (Ok a) new = SameCounts old new
CountsSending old (Err e) new = OneFailure old new ⊎ OneZeroWrite old new
