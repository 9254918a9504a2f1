-- Buffered bytes, over a reader.
use Rattle.std.specs.Prelude.{◌≡◌, ℕ, List, ◌++◌, length, Option, Some, None, Result, Ok, Err, ⊤}
use Rattle.streams.specs.Streams.{StaysOrHides, AtEnd, Moves}

-- the buffered bytes, and how many there is room for
pub record Buffered : Type 0 where
  pub pending : List ℕ
  pub capacity : ℕ

-- the buffered bytes and then those that are left, where they are known
abbrev pub unread : List ℕ → Option (List ℕ) → Option (List ℕ)
unread pending None = None
unread pending (Some rest) = Some (pending ++ rest)

-- known bytes stay known, though more of them may be buffered
abbrev pub SameUnread : List ℕ → Option (List ℕ) → List ℕ → Option (List ℕ) → Type 0
SameUnread pending None more left = ⊤
SameUnread pending (Some rest) more left = (after : List ℕ) × (left ≡ Some after) × (pending ++ rest ≡ more ++ after)

-- what a fill adds, nothing only at the end; a failed one adds nothing
abbrev pub Fills : {E : Type 0} → Buffered → Option (List ℕ) → Buffered → Option (List ℕ) → Result ℕ E → Type 0
Fills old left new left' (Ok n) =
    (bytes : List ℕ) × (length bytes ≡ n) × (new.pending ≡ old.pending ++ bytes) × SameUnread old.pending left new.pending left'
    × Moves left left' bytes × (n ≡ 0 → AtEnd left')
Fills old left new left' (Err e) = (new.pending ≡ old.pending) × StaysOrHides left left'
