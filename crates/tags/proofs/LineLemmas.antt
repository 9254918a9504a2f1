-- The lines of a text, one after the other.
use Rattle.std.proofs.Common.{append_assoc, ◌++◌, ◌≡◌, ◌∙◌, ◌==◌, ℕ, Bool, true, false, List, [], ◌∷◌, length, map, fold, Option, Some, None, option_map, Result, Ok, Err, refl, ap, sym, arith, suc, ◌≤◌}
use Rattle.std.proofs.lemmas.Bool.Decides.{nat_tests}
use Rattle.tags.specs.Around.{around, longer}
use Rattle.tags.specs.Bytes.{line_feed}
use Rattle.tags.specs.Fault.{Reading, contents, tags_of}
use Rattle.tags.specs.Faults.{result_map}
use Rattle.std.specs.List.{AllByRecursion, flat_map}
use Rattle.tags.proofs.ConditionLemmas.{reads_all}
use Rattle.tags.specs.Lines.{IsPiece, ended_line, ended_text, with_last, Line, lines_of, in_front}
use Rattle.tags.specs.Steps.Readings.{readings_of, reading_of, handed}
use Rattle.tags.specs.Outcome.{Answers, AnswersLines}
use Rattle.tags.specs.States.{State, Summary, running, stopped, listed, next, state_after, Tells, Finishes}
use Rattle.tags.specs.Values.{TagValue}
use Rattle.tags.specs.Views.{tag_values}
use Rattle.tags.specs.declared.code.TagsFault.{TagsFault}
use Rattle.tags.specs.declared.code.TagsFault.TheVariants as faults
use Rattle.tags.specs.declared.tag.Tag.{Tag}
use Rattle.tags.proofs.StepLemmas.{stays, stops_at, passes_all}
use Rattle.tags.proofs.SummaryLemmas.{kept-summary, listed-all}

-- a last line without LF
abbrev pub last_line : List ℕ → List Line
last_line [] = []
last_line (b ∷ bs) = record { bytes = b ∷ bs; ended = false } ∷ []

-- the lines, by what is around the first LF
abbrev pub lines_by : List ℕ → Option (List ℕ × List ℕ) → List Line
lines_by bs None = last_line bs
lines_by bs (Some p) = record { bytes = p.0; ended = true } ∷ lines_of p.1

in_front-last_line : (b : ℕ) (bs : List ℕ) → in_front b (last_line bs) ≡ last_line (b ∷ bs)
in_front-last_line b [] = refl
in_front-last_line b (c ∷ bs) = refl

in_front-lines_by : (b : ℕ) (bs : List ℕ) (o : Option (List ℕ × List ℕ)) → in_front b (lines_by bs o) ≡ lines_by (b ∷ bs) (option_map (longer b) o)
in_front-lines_by b bs None = in_front-last_line b bs
in_front-lines_by b bs (Some p) = refl

lines_of_by : (b : ℕ) (bs : List ℕ) (t : Bool) → (b == line_feed) ≡ t → lines_of bs ≡ lines_by bs (around line_feed bs) → lines_of (b ∷ bs) ≡ lines_by (b ∷ bs) (around line_feed (b ∷ bs))
unfolding lines_of around
lines_of_by b bs true e ih = rw e refl
lines_of_by b bs false e ih = rw (e, ih) (in_front-lines_by b bs (around line_feed bs))

pub lines_of-around : (bs : List ℕ) → lines_of bs ≡ lines_by bs (around line_feed bs)
unfolding lines_of around
lines_of-around [] = refl
lines_of-around (b ∷ bs) = lines_of_by b bs (b == line_feed) refl (lines_of-around bs)

pub readings_of-line : (rest line more : List ℕ) → around line_feed rest ≡ Some (line, more) → readings_of rest ≡ handed (Ok line) true ∷ readings_of more
readings_of-line rest line more h = ap (map reading_of) (lines_of-around rest ∙ ap (lines_by rest) h)

readings_of-last_line : (rest : List ℕ) → (length rest == 0) ≡ false → map reading_of (last_line rest) ≡ handed (Ok rest) false ∷ []
readings_of-last_line [] e = absurd cc
readings_of-last_line (b ∷ bs) e = refl

pub readings_of-last : (rest : List ℕ) → around line_feed rest ≡ None → (length rest == 0) ≡ false → readings_of rest ≡ handed (Ok rest) false ∷ []
readings_of-last rest h e = ap (map reading_of) (lines_of-around rest ∙ ap (lines_by rest) h) ∙ readings_of-last_line rest e

long_is_not_empty : (n : ℕ) → (suc n == 0) ≡ true → 1 ≤ 0
long_is_not_empty n e = grind (arith, nat_tests)

readings_of-no_line : (rest : List ℕ) → (length rest == 0) ≡ true → map reading_of (last_line rest) ≡ []
readings_of-no_line [] e = refl
readings_of-no_line (b ∷ bs) e = absurd (omega (arith, long_is_not_empty (length bs) e))

pub readings_of-end : (rest : List ℕ) → around line_feed rest ≡ None → (length rest == 0) ≡ true → readings_of rest ≡ []
readings_of-end rest h e = ap (map reading_of) (lines_of-around rest ∙ ap (lines_by rest) h) ∙ readings_of-no_line rest e

-- ---- the tags that are kept

-- the state after these lines
abbrev pub after_all : List Reading → State (List TagValue)
after_all lines = state_after listed [] lines

-- the state after a line
pub after_line : (old new : State (List TagValue)) (line : Reading) (rest all : List Reading) → Tells (Ok tt) old new (next listed old line) → fold (next listed) old (line ∷ rest) ≡ after_all all → fold (next listed) new rest ≡ after_all all
after_line old new line rest all tells h = ap (λ state. fold (next listed) state rest) tells.0 ∙ h

-- a line's fault is that of the file
pub fault_answers : (e : TagsFault) (old new : State (List TagValue)) (line : Reading) (rest all : List Reading) → Tells (Err e) old new (next listed old line) → fold (next listed) old (line ∷ rest) ≡ after_all all → AnswersLines (Err e) all
fault_answers faults.Memory old new line rest all tells h = tt
fault_answers (faults.Line f) old new line rest all tells h =
    let ends : after_all all ≡ stopped f.line f.code = sym h ∙ ap (λ state. fold (next listed) state rest) tells.1 ∙ stays listed [] rest f.line f.code in
    stops_at listed [] all f.line f.code ends

finished_ok : (tags : List Tag) (state : State (List TagValue)) (all : List Reading) → Finishes (Ok (tag_values tags)) state → state ≡ after_all all → AnswersLines (Ok tags) all
finished_ok tags (stopped n c) all finishes h = absurd finishes
finished_ok tags (running s) all finishes h =
    let passes = passes_all listed [] all s (sym h) in
    (passes.0, finishes ∙ ap (λ (t : Summary (List TagValue)). t.kept) passes.1 ∙ kept-summary _ (contents all) ∙ listed-all (tags_of (contents all)))

finished_err : (e : TagsFault) (state : State (List TagValue)) (all : List Reading) → Finishes (Err e) state → state ≡ after_all all → AnswersLines (Err e) all
finished_err faults.Memory state all finishes h = tt
finished_err (faults.Line f) (running s) all finishes h = absurd finishes
finished_err (faults.Line f) (stopped n c) all finishes h =
    let ends : after_all all ≡ stopped f.line f.code = rw (finishes.0, finishes.1) (sym h) in
    stops_at listed [] all f.line f.code ends

-- what the end answers is what the lines answer
pub finish_answers : {X : Type 0} (items : X → List Tag) (r : Result X TagsFault) (state : State (List TagValue)) (all : List Reading) → Finishes (result_map (λ x. tag_values (items x)) r) state → state ≡ after_all all → AnswersLines (result_map items r) all
finish_answers items (Ok x) state all finishes h = finished_ok (items x) state all finishes h
finish_answers items (Err e) state all finishes h = finished_err e state all finishes h

-- what the lines answer is what the text does
pub text_answers : (r : Result (List Tag) TagsFault) (text : List ℕ) → AnswersLines r (readings_of text) → Answers r text
text_answers r text h = (readings_of text, reads_all (lines_of text), h)

-- ---- the one list of lines

not_line_feed : (b : ℕ) → (b ≡ line_feed → ⊥) → (b == line_feed) ≡ false
not_line_feed b h = grind (arith, nat_tests, h)

lines_of-piece : (piece rest : List ℕ) → IsPiece piece → lines_of (piece ++ line_feed ∷ rest) ≡ ended_line piece ∷ lines_of rest
unfolding lines_of
lines_of-piece [] rest h = refl
lines_of-piece (b ∷ piece) rest h = rw (not_line_feed b h.0, lines_of-piece piece rest h.1) refl

lines_of-last_piece : (b : ℕ) (piece : List ℕ) → IsPiece (b ∷ piece) → lines_of (b ∷ piece) ≡ record { bytes = b ∷ piece; ended = false } ∷ []
unfolding lines_of
lines_of-last_piece b [] h = rw (not_line_feed b h.0) refl
lines_of-last_piece b (c ∷ piece) h = rw (not_line_feed b h.0) (ap (in_front b) (lines_of-last_piece c piece h.1))

one_before : (piece : List ℕ) (pieces : List (List ℕ)) (last : List ℕ) → ended_line piece ∷ with_last pieces last ≡ with_last (piece ∷ pieces) last
one_before piece pieces [] = refl
one_before piece pieces (b ∷ bs) = refl

pub lines_of-pieces : (pieces : List (List ℕ)) (last : List ℕ) → AllByRecursion IsPiece pieces → IsPiece last → lines_of (flat_map ended_text pieces ++ last) ≡ with_last pieces last
unfolding lines_of
lines_of-pieces [] [] h g = refl
lines_of-pieces [] (b ∷ bs) h g = lines_of-last_piece b bs g
lines_of-pieces (piece ∷ pieces) last h g =
    let regrouped : flat_map ended_text (piece ∷ pieces) ++ last ≡ piece ++ (line_feed ∷ (flat_map ended_text pieces ++ last)) = simp append_assoc in
    rw regrouped (lines_of-piece piece (flat_map ended_text pieces ++ last) h.0 ∙ ap (λ rest. ended_line piece ∷ rest) (lines_of-pieces pieces last h.1 g) ∙ one_before piece pieces last)
