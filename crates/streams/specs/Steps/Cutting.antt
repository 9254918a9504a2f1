-- How the next line is cut from the buffered bytes.
use Rattle.std.specs.Prelude.{◌≡◌, ◌≢◌, ℕ, ◌+◌, ◌<◌, ◌≤◌, List, [], ◌∷◌, ◌++◌, length, take, drop, Option, Some, None, Result, Ok, Err, ⊤, Bool, true, false}
use Rattle.streams.specs.Lines.{Reader, IsLine, line_feed, BeginsWith, GivesNone}
use Rattle.streams.specs.Pieces.{CutterValue, begun}
use Rattle.streams.specs.declared.cutter.LineState.TheVariants as LineState
use Rattle.streams.specs.declared.cutter.LineState.TheVariants.{Ended}
use Rattle.streams.specs.declared.lines.LinesFault.{LinesFault}
use Rattle.streams.specs.declared.lines.LinesFault.TheVariants.{Memory, TooLong, Read}

-- the first line feed is there
abbrev pub IsFirstFeed : List ℕ → ℕ → Type 0
IsFirstFeed bytes k = (k < length bytes) × IsLine (take k bytes) × (bytes ≡ take k bytes ++ line_feed ∷ drop (k + 1) bytes)

-- the bytes before the first line feed, or all where there is none
abbrev pub IsFirstPart : List ℕ → List ℕ → Bool → Type 0
IsFirstPart bytes part true = IsLine part × ((rest : List ℕ) × (bytes ≡ part ++ line_feed ∷ rest))
IsFirstPart bytes part false = IsLine part × (part ≡ bytes)

-- known bytes begin with more bytes than that with no line feed
abbrev pub BeginsLong : ℕ → Option (List ℕ) → Type 0
BeginsLong longest None = ⊤
BeginsLong longest (Some text) = (front : List ℕ) × (rest : List ℕ) × (text ≡ front ++ rest) × IsLine front × (longest < length front)

-- a last line without line feed is ended, where there is one
abbrev pub EndsLast : CutterValue → Bool → CutterValue → Type 0
EndsLast old true new = (0 < length (begun old)) × (new ≡ record { longest = old.longest; line = begun old; state = Ended })
EndsLast old false new = (begun old ≡ []) × (new ≡ old)

-- this is the first line of known bytes, and a line feed ended it, or the end did; or there is
-- none; and what is left after it
abbrev pub CutsKnown : Option (List ℕ) → List ℕ → Option Bool → Option (List ℕ) → Type 0
CutsKnown None line next new = ⊤
CutsKnown (Some text) line (Some has_feed) new = (rest : List ℕ) × (new ≡ Some rest) × BeginsWith text line has_feed rest
CutsKnown (Some text) line None new = (text ≡ []) × (new ≡ Some [])

-- what a cutter makes of the bytes that weren't returned
abbrev pub CutsLine : Option (List ℕ) → CutterValue → Result (Option Bool) LinesFault → Option (List ℕ) → Type 0
CutsLine old cutter (Ok (Some has_feed)) new =
    (cutter.state ≡ Ended) × IsLine cutter.line × (length cutter.line ≤ cutter.longest) × CutsKnown old cutter.line (Some has_feed) new
CutsLine old cutter (Ok None) new = (cutter.state ≢ LineState.TooLong) × CutsKnown old cutter.line None new
CutsLine old cutter (Err TooLong) new = BeginsLong cutter.longest old
CutsLine old cutter (Err Memory) new = ⊥
CutsLine old cutter (Err Read) new = ⊤

-- a search that failed to read counted one failure, and any other none
abbrev pub CountsRead : {A : Type 0} → ℕ → ℕ → Result A LinesFault → Type 0
CountsRead old new (Ok a) = new ≡ old
CountsRead old new (Err Memory) = ⊥
CountsRead old new (Err TooLong) = new ≡ old
CountsRead old new (Err Read) = new ≡ old + 1

-- the first line of known bytes
abbrev pub TakesKnown : Option (List ℕ) → List ℕ → Bool → Option (List ℕ) → Type 0
TakesKnown None line has_feed new = ⊤
TakesKnown (Some text) line has_feed new = (rest : List ℕ) × (new ≡ Some rest) × IsLine line × BeginsWith text line has_feed rest

-- when a fault comes, by the bytes
abbrev pub FaultsBy : Reader → LinesFault → Reader → Type 0
FaultsBy old Memory new = ⊥
FaultsBy old TooLong new = (new.failures ≡ old.failures) × BeginsLong old.longest old.left
FaultsBy old Read new = new.failures ≡ old.failures + 1

-- what a call for the next line takes, by the bytes, where there was no fault before
abbrev pub NextTaken : Reader → Result (Option (List ℕ)) LinesFault → Reader → Type 0
NextTaken old (Ok (Some line)) new =
    (new.fault ≡ None) × (new.failures ≡ old.failures) × (new.longest ≡ old.longest)
    × (length line ≤ old.longest) × TakesKnown old.left line new.has_feed new.left
NextTaken old (Ok None) new =
    (new.fault ≡ None) × (new.failures ≡ old.failures) × (new.longest ≡ old.longest) × GivesNone old.left new.left
NextTaken old (Err fault) new = (new.fault ≡ Some fault) × (new.longest ≡ old.longest) × FaultsBy old fault new
