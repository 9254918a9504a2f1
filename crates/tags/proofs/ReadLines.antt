-- The lines of a reader, and what they say of a tags file.
use Rattle.std.proofs.Common.{◌≡◌, ◌≢◌, ◌∙◌, ℕ, ◌<◌, ◌==◌, List, [], ◌∷◌, ◌++◌, Bool, true, false, length, map, Option, Some, None, Ok, Err, refl, ap, sym, arith}
use Rattle.std.proofs.lemmas.Bool.{lt-ltb}
use Rattle.std.proofs.lemmas.Bool.Decides.{nat_tests}
use Rattle.streams.specs.Lines as lent
use Rattle.streams.specs.Lines.{BeginsWith, GivesLine, GivesNone, HasLongLine, IsLine, onto_first}
use Rattle.tags.specs.Bytes.{line_feed}
use Rattle.tags.specs.Lines.{Line, ended_line, in_front, lines_of, longest_line}
use Rattle.tags.specs.Steps.Readings.{handed, reading_of, readings_of}
use Rattle.tags.specs.declared.code.Code.TheVariants.{T01}
use Rattle.tags.specs.Steps.Counting.{BeginsSo, ReadsFirst, ReadsNone}

not_feed : (b : ℕ) → b ≢ line_feed → (b == line_feed) ≡ false
not_feed b h = grind (arith, nat_tests, h)

-- ---- both lists of lines have the same bytes

abbrev bytes_of : List Line → List (List ℕ)
bytes_of lines = map (λ (l : Line). l.bytes) lines

same_front : (b : ℕ) (lines : List Line) → bytes_of (in_front b lines) ≡ onto_first b (bytes_of lines)
same_front b [] = refl
same_front b (line ∷ lines) = refl

same_step : (b : ℕ) (text : List ℕ) (test : Bool) → (b == line_feed) ≡ test → bytes_of (lines_of text) ≡ lent.lines_of text
    → bytes_of (lines_of (b ∷ text)) ≡ lent.lines_of (b ∷ text)
unfolding lines_of lent.lines_of
same_step b text true e h = rw e (ap (λ ls. [] ∷ ls) h)
same_step b text false e h = rw e (same_front b (lines_of text) ∙ ap (onto_first b) h)

same_lines : (text : List ℕ) → bytes_of (lines_of text) ≡ lent.lines_of text
unfolding lines_of lent.lines_of
same_lines [] = refl
same_lines (b ∷ text) = same_step b text (b == line_feed) refl (same_lines text)

first_line : (lines : List Line) (bytes : List ℕ) (others : List (List ℕ)) → bytes_of lines ≡ bytes ∷ others
    → (line : Line) × (rest : List Line) × (lines ≡ line ∷ rest) × (line.bytes ≡ bytes)
first_line [] bytes others e = cc
first_line (line ∷ rest) bytes others e = (line, rest, refl, cc)

no_line : (lines : List Line) → bytes_of lines ≡ [] → lines ≡ []
no_line [] e = refl
no_line (line ∷ rest) e = cc

-- ---- a line that is too long

long_reading : (line : Line) (bytes : List ℕ) → line.bytes ≡ bytes → longest_line < length bytes → reading_of line ≡ Err T01
long_reading line bytes e lt = rw (e, lt-ltb longest_line (length bytes) lt) refl

pub long_line : (left : Option (List ℕ)) → HasLongLine longest_line left → BeginsSo left (Err T01)
long_line None h = tt
long_line (Some text) h =
    let first = first_line (lines_of text) h.0 h.1 (same_lines text ∙ h.2) in
    (map reading_of first.1, ap (map reading_of) first.2 ∙ ap (λ r. r ∷ map reading_of first.1) (long_reading first.0 h.0 first.3 h.3))

-- ---- a line that is borrowed

ended_first : (line rest : List ℕ) → IsLine line → lines_of (line ++ line_feed ∷ rest) ≡ ended_line line ∷ lines_of rest
unfolding lines_of
ended_first [] rest h = refl
ended_first (b ∷ line) rest h = rw (not_feed b h.0, ended_first line rest h.1) refl

abbrev open_line : List ℕ → Line
open_line bytes = record { bytes = bytes; ended = false }

open_alone : (line : List ℕ) → IsLine line → 0 < length line → lines_of line ≡ open_line line ∷ []
unfolding lines_of
open_alone [] h some = absurd (omega arith)
open_alone (b ∷ []) h some = rw (not_feed b h.0) refl
open_alone (b ∷ c ∷ line) h some = rw (not_feed b h.0) (ap (in_front b) (open_alone (c ∷ line) h.1 (omega arith)))

no_readings : readings_of [] ≡ []
unfolding lines_of
no_readings = refl

begins : (text line : List ℕ) (has_feed : Bool) (rest : List ℕ) → IsLine line → BeginsWith text line has_feed rest
    → readings_of text ≡ handed (Ok line) has_feed ∷ readings_of rest
begins text line true rest h e = ap readings_of e ∙ ap (map reading_of) (ended_first line rest h)
begins text line false rest h e =
    ap readings_of e.1 ∙ ap (map reading_of) (open_alone line h e.0)
    ∙ ap (λ rs. handed (Ok line) false ∷ rs) (sym (ap readings_of e.2 ∙ no_readings))

pub reads_line : (left : Option (List ℕ)) (line : List ℕ) (has_feed : Bool) (new : Option (List ℕ)) → GivesLine left line has_feed new
    → ReadsFirst left (handed (Ok line) has_feed) new
reads_line None line has_feed new h = tt
reads_line (Some text) line has_feed new h = (h.0, h.1, begins text line has_feed h.0 h.3 h.4)

pub reads_none : (left new : Option (List ℕ)) → GivesNone left new → ReadsNone left
reads_none None new h = tt
reads_none (Some text) new h = ap (map reading_of) (no_line (lines_of text) (same_lines text ∙ h.0))
