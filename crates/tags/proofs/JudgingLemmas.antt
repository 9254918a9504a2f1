-- The verdict on a text, by its one list of readings.
use Rattle.std.proofs.Common.{◌≡◌, ◌∙◌, ◌⊎◌, ⊎_elim, ℕ, ◌+◌, ◌<◌, Bool, true, false, ◌&&◌, nat_lt, List, [], ◌∷◌, map, Some, Ok, Err, refl, ap, sym, subst, arith, take}
use Rattle.std.specs.List.{list_all}
use Rattle.std.proofs.lemmas.Bool.Decides.{nat_tests}
use Rattle.tags.specs.Fault.{Reading, contents, tags_of, tags_from, code_of, HasCode, IsFaultless, IsFirstFault}
use Rattle.tags.specs.Judging.{HasTags, HasFault, judged_at, judged, lines_rise}
use Rattle.tags.specs.Lines.{Line, AreReadings, lines_of}
use Rattle.tags.specs.States.{State, Summary, running, stopped, listed, state_after}
use Rattle.tags.specs.Steps.Readings.{reading_of, readings_of}
use Rattle.tags.specs.Values.{ContentValue, sorted, other, ordinary, TagValue}
use Rattle.tags.specs.declared.code.Code.{Code}
use Rattle.tags.specs.declared.code.LineFault.{LineFault}
use Rattle.tags.proofs.ConditionLemmas.{reads_all, reads_only}
use Rattle.tags.proofs.StepLemmas.{stops_at, passes_all}
use Rattle.tags.proofs.SummaryLemmas.{kept-summary, listed-all}

-- ---- the readings are one list

one_reading : (lines : List Line) (rs : List Reading) → AreReadings lines rs → rs ≡ map reading_of lines
one_reading [] [] h = refl
one_reading [] (r ∷ rs) h = absurd h
one_reading (line ∷ lines) [] h = absurd h
one_reading (line ∷ lines) (r ∷ rs) h =
    let first = reads_only line r h.0 in
    let rest = one_reading lines rs h.1 in
    λ i. first i ∷ rest i

-- ---- one first fault

same_some : {X : Type 0} (x y : X) → Some x ≡ Some y → x ≡ y
same_some x y e = cc

one_code : (lines : List Reading) (k : ℕ) (c d : Code) → HasCode lines k c → HasCode lines k d → c ≡ d
one_code lines k c d (line, at, is) (second, there, says) =
    let same : line ≡ second = same_some line second (sym at ∙ there) in
    same_some c d (sym is ∙ ap (code_of (contents (take k lines))) same ∙ says)

apart : (j k : ℕ) → (j ≡ k) ⊎ ((j < k) ⊎ (k < j))
apart j k = grind arith

pub one_fault : (lines : List Reading) (j k : ℕ) (c d : Code) → IsFirstFault lines j c → IsFirstFault lines k d → (j ≡ k) × (c ≡ d)
one_fault lines j k c d a b = ⊎_elim
    (λ (e : j ≡ k). (e, one_code lines k c d (subst (λ i. HasCode lines i c) e a.code) b.code))
    (λ (h : (j < k) ⊎ (k < j)). ⊎_elim (λ (l : j < k). absurd (b.least j l c a.code)) (λ (l : k < j). absurd (a.least k l d b.code)) h)
    (apart j k)

-- ---- what the readings leave

ok_tags : (rs : List Reading) (state : State (List TagValue)) (tags : List TagValue) → state_after listed [] rs ≡ state → judged_at state ≡ Ok tags
    → IsFaultless rs × (tags ≡ tags_of (contents rs))
ok_tags rs (running s) tags e is =
    let passes = passes_all listed [] rs s e in
    let kept : s.kept ≡ tags = cc in
    (passes.0, sym kept ∙ ap (λ (t : Summary (List TagValue)). t.kept) passes.1 ∙ kept-summary _ (contents rs) ∙ listed-all (tags_of (contents rs)))
ok_tags rs (stopped n c) tags e is = cc

tags_ok : (rs : List Reading) (state : State (List TagValue)) (tags : List TagValue) → state_after listed [] rs ≡ state → IsFaultless rs → tags ≡ tags_of (contents rs)
    → judged_at state ≡ Ok tags
tags_ok rs (running s) tags e good is =
    let passes = passes_all listed [] rs s e in
    ap Ok (ap (λ (t : Summary (List TagValue)). t.kept) passes.1 ∙ kept-summary _ (contents rs) ∙ listed-all (tags_of (contents rs)) ∙ sym is)
tags_ok rs (stopped n c) tags e good is = let at = stops_at listed [] rs n c e in absurd (good at.0 c at.2.code)

err_fault : (rs : List Reading) (state : State (List TagValue)) (f : LineFault) → state_after listed [] rs ≡ state → judged_at state ≡ Err f
    → (k : ℕ) × (f.line ≡ k + 1) × IsFirstFault rs k f.code
err_fault rs (running s) f e is = cc
err_fault rs (stopped n c) f e is =
    let same : ◌≡◌ {A = LineFault} (record { line = n; code = c }) f = cc in
    let ends : state_after listed [] rs ≡ stopped f.line f.code = e ∙ ap (λ (g : LineFault). stopped g.line g.code) same in
    stops_at listed [] rs f.line f.code ends

fault_err : (rs : List Reading) (state : State (List TagValue)) (f : LineFault) (k : ℕ) → state_after listed [] rs ≡ state → f.line ≡ k + 1 → IsFirstFault rs k f.code
    → judged_at state ≡ Err f
fault_err rs (running s) f k e number first = absurd ((passes_all listed [] rs s e).0 k f.code first.code)
fault_err rs (stopped n c) f k e number first =
    let at = stops_at listed [] rs n c e in
    let both = one_fault rs at.0 k c f.code at.2 first in
    let line : n ≡ f.line = at.1 ∙ ap (λ i. i + 1) both.0 ∙ sym number in
    λ i. Err (record { line = line i; code = both.1 i })

-- ---- the law

pub has_tags : (text : List ℕ) (tags : List TagValue) → judged text ≡ Ok tags → HasTags text tags
has_tags text tags e = (readings_of text, reads_all (lines_of text), ok_tags (readings_of text) (state_after listed [] (readings_of text)) tags refl e)

pub from_tags : (text : List ℕ) (tags : List TagValue) → HasTags text tags → judged text ≡ Ok tags
from_tags text tags (rs, are, said) =
    let said' = subst (λ (r : List Reading). IsFaultless r × (tags ≡ tags_of (contents r))) (one_reading (lines_of text) rs are) said in
    tags_ok (readings_of text) (state_after listed [] (readings_of text)) tags refl said'.0 said'.1

pub has_fault : (text : List ℕ) (f : LineFault) → judged text ≡ Err f → HasFault text f
has_fault text f e = (readings_of text, reads_all (lines_of text), err_fault (readings_of text) (state_after listed [] (readings_of text)) f refl e)

pub from_fault : (text : List ℕ) (f : LineFault) → HasFault text f → judged text ≡ Err f
from_fault text f (rs, are, said) =
    let said' = subst (λ (r : List Reading). (k : ℕ) × (f.line ≡ k + 1) × IsFirstFault r k f.code) (one_reading (lines_of text) rs are) said in
    fault_err (readings_of text) (state_after listed [] (readings_of text)) f said'.0 refl said'.1 said'.2

-- ---- the lines of the tags rise

and_true : (a b : Bool) → a ≡ true → b ≡ true → (a && b) ≡ true
and_true true b e f = f
and_true false b e f = cc

is_less : (m n : ℕ) → m < n → nat_lt m n ≡ true
is_less m n lt = grind (arith, nat_tests)

above : (m n : ℕ) (xs : List ContentValue) → m < n → list_all (λ (t : TagValue). nat_lt m t.line) (tags_from n xs) ≡ true
above m n [] lt = refl
above m n (sorted b ∷ xs) lt = above m (n + 1) xs (omega arith)
above m n (other ∷ xs) lt = above m (n + 1) xs (omega arith)
above m n (ordinary w e ∷ xs) lt = and_true (nat_lt m n) (list_all (λ (t : TagValue). nat_lt m t.line) (tags_from (n + 1) xs)) (is_less m n lt) (above m (n + 1) xs (omega arith))

from_rise : (n : ℕ) (xs : List ContentValue) → lines_rise (tags_from n xs) ≡ true
from_rise n [] = refl
from_rise n (sorted b ∷ xs) = from_rise (n + 1) xs
from_rise n (other ∷ xs) = from_rise (n + 1) xs
from_rise n (ordinary w e ∷ xs) = and_true (list_all (λ (t : TagValue). nat_lt n t.line) (tags_from (n + 1) xs)) (lines_rise (tags_from (n + 1) xs)) (above n (n + 1) xs (omega arith)) (from_rise (n + 1) xs)

of_rise : (xs : List ContentValue) → lines_rise (tags_of xs) ≡ true
unfolding tags_of
of_rise xs = from_rise 1 xs

pub rise : (text : List ℕ) (tags : List TagValue) → HasTags text tags → lines_rise tags ≡ true
rise text tags (rs, are, said) = ap lines_rise said.1 ∙ of_rise (contents rs)
