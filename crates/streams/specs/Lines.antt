-- The lines of a text, and what a call for the next one gives. A line ends by LF (10), or where the
-- text ends; CR is a byte like any other.
use Rattle.std.specs.Prelude.{◌≡◌, ◌≢◌, ℕ, ◌+◌, ◌<◌, ◌≤◌, ◌⊎◌, List, [], ◌∷◌, ◌++◌, length, Option, Some, None, Result, Ok, Err, ⊤, if◌then◌else◌, ◌==◌, Bool, true, false}
use Rattle.std.specs.List.{AllByRecursion, flat_map}
use Rattle.std.specs.Borrow.{Bor}
use Rattle.streams.specs.Buffered.{unread}
use Rattle.streams.specs.declared.lines.LinesFault.{LinesFault}
use Rattle.streams.specs.declared.lines.LinesFault.TheVariants.{Memory, TooLong, Read}

abbrev pub line_feed : ℕ
line_feed = 10

-- the byte joins the first line
abbrev pub onto_first : ℕ → List (List ℕ) → List (List ℕ)
onto_first b [] = (b ∷ []) ∷ []
onto_first b (line ∷ lines) = (b ∷ line) ∷ lines

-- the lines of a text, each without its line feed
unfoldable pub lines_of : List ℕ → List (List ℕ)
lines_of [] = []
lines_of (b ∷ text) = if b == line_feed then [] ∷ lines_of text else onto_first b (lines_of text)

-- bytes with no line feed
abbrev pub IsLine : List ℕ → Type 0
IsLine line = AllByRecursion (λ b. b ≢ line_feed) line

-- a line and its line feed
abbrev pub ended : List ℕ → List ℕ
ended line = line ++ line_feed ∷ []

-- a text cut into lines: it is each line followed by a line feed, and after a last line that isn't
-- empty the line feed may be missing
abbrev pub Cuts : List ℕ → List (List ℕ) → Type 0
Cuts text lines =
    AllByRecursion IsLine lines
    × ((text ≡ flat_map ended lines)
    ⊎ ((front : List (List ℕ)) × (last : List ℕ)
    × (lines ≡ front ++ last ∷ []) × (0 < length last) × (text ≡ flat_map ended front ++ last)))

-- what lines are read from: the bytes not returned, where they are known, the longest line, the
-- reader's failures, the fault that is answered for good, the line that came last, and whether a
-- line feed ended it
pub record Reader : Type 0 where
  pub left : Option (List ℕ)
  pub longest : ℕ
  pub failures : ℕ
  pub fault : Option LinesFault
  pub line : List ℕ
  pub has_feed : Bool

-- a line buffer: the bytes that were read and not returned, and the rest of a `Reader` but for
-- its failures
pub record LineBufferValue : Type 0 where
  pub pending : List ℕ
  pub longest : ℕ
  pub fault : Option LinesFault
  pub line : List ℕ
  pub has_feed : Bool

-- a line buffer over a reader with this left and so many failures
abbrev pub over : LineBufferValue → Option (List ℕ) → ℕ → Reader
over lines left failures =
    record { left = unread lines.pending left; longest = lines.longest; failures = failures; fault = lines.fault; line = lines.line; has_feed = lines.has_feed }

-- the text is the line, its line feed and the rest; without a line feed it is the line alone, which
-- isn't empty
abbrev pub BeginsWith : List ℕ → List ℕ → Bool → List ℕ → Type 0
BeginsWith text line true rest = text ≡ line ++ line_feed ∷ rest
BeginsWith text line false rest = (0 < length line) × (text ≡ line) × (rest ≡ [])

-- of known bytes this is the first line, with or without a line feed, and the others are the lines
-- of what is left after it
abbrev pub GivesLine : Option (List ℕ) → List ℕ → Bool → Option (List ℕ) → Type 0
GivesLine None line has_feed new = ⊤
GivesLine (Some text) line has_feed new =
    (rest : List ℕ) × (new ≡ Some rest) × (lines_of text ≡ line ∷ lines_of rest) × IsLine line × BeginsWith text line has_feed rest

-- known bytes have no line, and none is left
abbrev pub GivesNone : Option (List ℕ) → Option (List ℕ) → Type 0
GivesNone None new = ⊤
GivesNone (Some text) new = (lines_of text ≡ []) × (new ≡ Some [])

-- the first line of known bytes is longer than that
abbrev pub HasLongLine : ℕ → Option (List ℕ) → Type 0
HasLongLine longest None = ⊤
HasLongLine longest (Some text) = (line : List ℕ) × (others : List (List ℕ)) × (lines_of text ≡ line ∷ others) × (longest < length line)

-- when a fault comes first
abbrev pub Faults : Reader → LinesFault → Reader → Type 0
Faults old Memory new = ⊥
Faults old TooLong new = (new.failures ≡ old.failures) × HasLongLine old.longest old.left
Faults old Read new = new.failures ≡ old.failures + 1

-- what a call for the next line gives. With no fault before: the line, or none where there is none,
-- or its fault. After a fault: the same again, and nothing changes.
abbrev pub NextLine : Reader → Result (Option (List ℕ)) LinesFault → Reader → Type 0
NextLine old (Ok (Some line)) new =
    (old.fault ≡ None) × (new.fault ≡ None) × (new.failures ≡ old.failures) × (new.longest ≡ old.longest)
    × (length line ≤ old.longest) × GivesLine old.left line new.has_feed new.left
NextLine old (Ok None) new =
    (old.fault ≡ None) × (new.fault ≡ None) × (new.failures ≡ old.failures) × (new.longest ≡ old.longest)
    × GivesNone old.left new.left
NextLine old (Err fault) new =
    (fault ≢ Memory) × (new.fault ≡ Some fault)
    × (((old.fault ≡ Some fault) × (new ≡ old)) ⊎ ((old.fault ≡ None) × (new.longest ≡ old.longest) × Faults old fault new))

-- whether there is a line, as the line
abbrev pub shown : Result Bool LinesFault → List ℕ → Result (Option (List ℕ)) LinesFault
shown (Ok true) line = Ok (Some line)
shown (Ok false) line = Ok None
shown (Err fault) line = Err fault

-- the bytes of a line that is borrowed
abbrev pub lent : Result (Option (Bor (List ℕ))) LinesFault → Result (Option (List ℕ)) LinesFault
lent (Ok (Some line)) = Ok (Some line.now)
lent (Ok None) = Ok None
lent (Err fault) = Err fault

-- a fault that may come after the memory was taken
abbrev pub IsLater : Option LinesFault → Type 0
IsLater fault = fault ≢ Some Memory
