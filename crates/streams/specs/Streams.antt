-- What is known of a reader and of a writer, and what a read and a write change of it.
use Rattle.std.specs.Prelude.{◌≡◌, ℕ, ◌+◌, ◌-◌, ◌^◌, ◌<◌, ◌⊎◌, Bool, List, [], ◌++◌, length, take, Option, Some, None, Result, Ok, Err, ⊤, if◌then◌else◌, ◌==◌, ◌&&◌, nat_lt}
use Rattle.streams.specs.declared.counted.Counted.{Counted}

-- what is known of a writer: the bytes that it took, where they are known, how many writes failed,
-- and how many took no byte of some
pub record Output : Type 0 where
  pub taken : Option (List ℕ)
  pub failures : ℕ
  pub zero_writes : ℕ

-- one more can be counted
abbrev pub IsCountable : ℕ → Type 0
IsCountable count = count < 2 ^ 64 - 1

-- one more of both can be counted
abbrev pub CanCount : Output → Type 0
CanCount output = IsCountable output.failures × IsCountable output.zero_writes

-- known bytes begin with these, and lose them
abbrev pub Moves : Option (List ℕ) → Option (List ℕ) → List ℕ → Type 0
Moves None new bytes = ⊤
Moves (Some old) new bytes = (rest : List ℕ) × (new ≡ Some rest) × (old ≡ bytes ++ rest)

-- known bytes gain these at their end
abbrev pub Gains : Option (List ℕ) → Option (List ℕ) → List ℕ → Type 0
Gains None new bytes = ⊤
Gains (Some old) new bytes = new ≡ Some (old ++ bytes)

-- known bytes stay as they were, or aren't known any more
abbrev pub StaysOrHides : Option (List ℕ) → Option (List ℕ) → Type 0
StaysOrHides None new = ⊤
StaysOrHides (Some old) new = (new ≡ Some old) ⊎ (new ≡ None)

-- no known byte is left
abbrev pub AtEnd : Option (List ℕ) → Type 0
AtEnd None = ⊤
AtEnd (Some bytes) = bytes ≡ []

-- a pull moved the bytes that it gave, none only at the end or with no room, and a failed one moved
-- none
abbrev pub Pulls : {E : Type 0} → Option (List ℕ) → Option (List ℕ) → Result ℕ E → List ℕ → Type 0
Pulls old new (Ok n) buf = Moves old new (take n buf) × (n ≡ 0 → 0 < length buf → AtEnd new)
Pulls old new (Err e) buf = StaysOrHides old new

-- the count of failures goes up by one at each, and else stays
abbrev pub CountsFailure : {A E : Type 0} → ℕ → ℕ → Result A E → Type 0
CountsFailure old new (Ok a) = new ≡ old
CountsFailure old new (Err e) = new ≡ old + 1

-- no failure was counted, and no write that took no byte
abbrev pub SameCounts : Output → Output → Type 0
SameCounts old new = (new.failures ≡ old.failures) × (new.zero_writes ≡ old.zero_writes)

-- one more failure was counted
abbrev pub OneFailure : Output → Output → Type 0
OneFailure old new = (new.failures ≡ old.failures + 1) × (new.zero_writes ≡ old.zero_writes)

-- one more write was counted that took no byte of some
abbrev pub OneZeroWrite : Output → Output → Type 0
OneZeroWrite old new = (new.failures ≡ old.failures) × (new.zero_writes ≡ old.zero_writes + 1)

-- none of these bytes was taken, and there are some
abbrev pub is_zero_write : ℕ → List ℕ → Bool
is_zero_write n bytes = n == 0 && nat_lt 0 (length bytes)

-- a push moved the bytes that it took; a failed one moved none, and what was taken may not be known
-- any more
abbrev pub Pushes : {E : Type 0} → Output → List ℕ → Result ℕ E → Output → Type 0
Pushes old bytes (Ok n) new =
    Gains old.taken new.taken (take n bytes) × (new.failures ≡ old.failures)
    × (new.zero_writes ≡ (if is_zero_write n bytes then old.zero_writes + 1 else old.zero_writes))
Pushes old bytes (Err e) new = StaysOrHides old.taken new.taken × OneFailure old new

-- the known bytes, unless there was a failure
abbrev pub unless_failed : ℕ → Option (List ℕ) → Option (List ℕ)
unless_failed failures known = if failures == 0 then known else None

-- a reader or a writer of which nothing is counted yet
abbrev pub counted : {T : Type 0} → T → Counted T
counted inner = record { inner = inner; failures = 0; zero_writes = 0 }
