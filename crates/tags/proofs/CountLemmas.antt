-- What the lines that a count of tags has taken say of the whole file.
use Rattle.std.proofs.Common.{◌≡◌, ◌∙◌, ℕ, Bool, true, false, List, [], length, fold, Option, Some, None, Result, Ok, Err, refl, sym, ap, subst}
use Rattle.streams.specs.Lines.{LineBufferValue}
use Rattle.tags.specs.Counting.{CountsRead, CountsTags}
use Rattle.tags.specs.Fault.{Reading, contents, tags_of}
use Rattle.tags.specs.Lines.{lines_of}
use Rattle.tags.specs.States.{Summary, State, running, stopped, counted, next, state_after, IsRunning}
use Rattle.tags.specs.Steps.Counting.{BeginsSo, Concludes, Feeds, HasTaken, IsReady, ReadsFirst, ReadsNone, Takes}
use Rattle.tags.specs.Steps.Readings.{readings_of}
use Rattle.tags.specs.declared.code.Code.{Code}
use Rattle.tags.specs.declared.code.LineFault.{LineFault}
use Rattle.tags.specs.declared.counting.CountFault.{CountFault}
use Rattle.tags.specs.declared.counting.CountFault.TheVariants as faults
use Rattle.tags.proofs.ConditionLemmas.{reads_all}
use Rattle.tags.proofs.StepLemmas.{passes_all, stays, stops_at}
use Rattle.tags.proofs.SummaryLemmas.{counted-all, kept-summary}

-- ---- a line that was fed

pub fed_counts : (result : Result Bool CountFault) (new to : State ℕ) (old_count new_count : ℕ) → Feeds result new to → new_count ≡ old_count
    → CountsRead old_count new_count result
fed_counts (Ok b) new to old_count new_count h e = e
fed_counts (Err faults.Memory) new to old_count new_count h e = e
fed_counts (Err faults.Read) new to old_count new_count h e = absurd h
fed_counts (Err (faults.Line f)) new to old_count new_count h e = e

begins_so : (left left' : Option (List ℕ)) (line : Reading) → ReadsFirst left line left' → BeginsSo left line
begins_so None left' line h = tt
begins_so (Some text) left' line h = (readings_of h.0, h.2)

pub fed_line : (result : Result Bool CountFault) (left left' : Option (List ℕ)) (line : Reading) (old new : State ℕ) (lines : LineBufferValue)
    → ReadsFirst left line left' → IsReady lines → Feeds result new (next counted old line) → Takes left old result new lines left'
fed_line (Ok true) left left' line old new lines h ready f =
    let P : State ℕ → Type 0 = λ s. IsRunning s in
    (line, h, f.0, subst P (sym f.0) f.1, ready)
fed_line (Ok false) left left' line old new lines h ready f = absurd f
fed_line (Err (faults.Line fault)) left left' line old new lines h ready f = (line, begins_so left left' line h, f)
fed_line (Err faults.Memory) left left' line old new lines h ready f = tt
fed_line (Err faults.Read) left left' line old new lines h ready f = absurd f

never_good : (old : State ℕ) (c : Code) → IsRunning (next counted old (Err c)) → ⊥
never_good (running s) c h = h
never_good (stopped n b) c h = h

pub fed_code : (result : Result Bool CountFault) (left left' : Option (List ℕ)) (c : Code) (old new : State ℕ) (lines : LineBufferValue)
    → BeginsSo left (Err c) → Feeds result new (next counted old (Err c)) → Takes left old result new lines left'
fed_code (Ok true) left left' c old new lines h f = absurd (never_good old c f.1)
fed_code (Ok false) left left' c old new lines h f = absurd f
fed_code (Err (faults.Line fault)) left left' c old new lines h f = (Err c, h, f)
fed_code (Err faults.Memory) left left' c old new lines h f = tt
fed_code (Err faults.Read) left left' c old new lines h f = absurd f

-- ---- what is answered

stopped_answers : (text : List ℕ) (f : LineFault) → state_after counted 0 (readings_of text) ≡ stopped f.line f.code → CountsTags (Some text) (Err (faults.Line f))
stopped_answers text f h = (readings_of text, reads_all (lines_of text), stops_at counted 0 (readings_of text) f.line f.code h)

running_answers : (text : List ℕ) (s : Summary ℕ) (n : ℕ) → state_after counted 0 (readings_of text) ≡ running s → n ≡ s.kept → CountsTags (Some text) (Ok n)
running_answers text s n h e =
    let lines = readings_of text in
    let passes = passes_all counted 0 lines s h in
    let kept : s.kept ≡ length (tags_of (contents lines)) =
    ap (λ (t : Summary ℕ). t.kept) passes.1 ∙ kept-summary _ (contents lines) ∙ counted-all (tags_of (contents lines)) in
    (tags_of (contents lines), (lines, reads_all (lines_of text), (passes.0, refl)), e ∙ kept)

-- the fault that stops the count
pub found_fault : (left now left' : Option (List ℕ)) (old new : State ℕ) (fault : CountFault) (lines : LineBufferValue) → HasTaken left old now
    → Takes now old (Err fault) new lines left' → CountsTags left (Err fault)
found_fault None now left' old new fault lines h t = tt
found_fault (Some text) now left' old new (faults.Line f) lines h t =
    let P : Option (List ℕ) → Type 0 = λ o. BeginsSo o t.0 in
    let first = subst P h.1 t.1 in
    stopped_answers text f
    (sym h.2 ∙ ap (fold (next counted) old) first.1 ∙ ap (λ s. fold (next counted) s first.0) t.2 ∙ stays counted 0 first.0 f.line f.code)
found_fault (Some text) now left' old new faults.Memory lines h t = tt
found_fault (Some text) now left' old new faults.Read lines h t = tt

concluded_at : (text : List ℕ) (state : State ℕ) (result : Result ℕ CountFault) → state ≡ state_after counted 0 (readings_of text) → Concludes state result
    → CountsTags (Some text) result
concluded_at text state (Ok n) e c = running_answers text c.0 n (sym e ∙ c.1) c.2
concluded_at text state (Err (faults.Line f)) e c = stopped_answers text f (sym e ∙ c)
concluded_at text state (Err faults.Memory) e c = absurd c
concluded_at text state (Err faults.Read) e c = absurd c

-- the end of the lines
pub concluded : (left now : Option (List ℕ)) (old state : State ℕ) (result : Result ℕ CountFault) → HasTaken left old now → ReadsNone now → state ≡ old
    → Concludes state result → CountsTags left result
concluded None now old state result h g e c = tt
concluded (Some text) now old state result h g e c =
    let P : Option (List ℕ) → Type 0 = λ o. ReadsNone o in
    let nothing : readings_of h.0 ≡ [] = subst P h.1 g in
    concluded_at text state result (e ∙ sym (ap (fold (next counted) old) nothing) ∙ h.2) c
