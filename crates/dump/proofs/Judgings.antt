-- What the lines that a checker has taken say of the whole dump.
use Rattle.std.proofs.Common.{◌≡◌, ◌∙◌, ◌++◌, ◌∷◌, [], ◌<◌, ℕ, List, length, map, Option, None, Some, Result, Ok, Err, refl, sym, ap, subst, arith, append-nil, append_assoc, length-append, Bool}
use Rattle.std.proofs.lemmas.List.Sums.{fold-append}
use Rattle.std.proofs.lemmas.Bool.{lt-ltb}
use Rattle.lsif.specs.Element.{ElementValue, Reading, element_value, reading_value}
use Rattle.streams.specs.Lines.{GivesLine, HasLongLine, LineBufferValue}
use Rattle.lsif.specs.Reading.{reading, longest_line}
use Rattle.lsif.specs.declared.profile.Profile.{Profile}
use Rattle.lsif.specs.declared.element.Element.{Element}
use Rattle.lsif.specs.declared.code.Code.{Code}
use Rattle.lsif.specs.declared.code.Code.TheVariants.{L01}
use Rattle.dump.specs.declared.fault.LineFault.{LineFault}
use Rattle.dump.specs.declared.fault.FeedFault.{FeedFault}
use Rattle.dump.specs.declared.fault.FeedFault.TheVariants as feeds
use Rattle.dump.specs.Conditions.{order_code, most_elements}
use Rattle.dump.specs.Fault.{IsFault}
use Rattle.dump.specs.Progress.{DumpValue, CheckerValue, Progress, running, stopped, next, advance, progress, finished, IsRunning, Feeds, Finishes}
use Rattle.dump.specs.Lines.{dump_of}
use Rattle.dump.specs.Judging.{ReadsDump, as_dump_fault}
use Rattle.dump.specs.Steps.Judging.{ReadsFirst, ReadsNext, HasTaken, HasTakenAll, room_of, GoesOn, IsReady}
use Rattle.dump.specs.declared.reading.DumpFault.{DumpFault}
use Rattle.dump.specs.declared.reading.DumpFault.TheVariants as dumps

-- ---- the reading of the next line

pub long_reading : (profile : Profile) (line : List ℕ) → longest_line < length line → reading profile line ≡ Err L01
unfolding reading
long_reading profile line lt = rw (lt-ltb longest_line (length line) lt) refl

pub given_reading : (profile : Profile) (left new : Option (List ℕ)) (line : List ℕ) (has_feed : Bool) (r : Reading) → GivesLine left line has_feed new → r ≡ reading profile line → ReadsNext profile left (Some r) new
given_reading profile None new line has_feed r g h = tt
given_reading profile (Some text) new line has_feed (Ok x) g h = (g.0, g.1, ap (map (reading profile)) g.2 ∙ ap (λ r. r ∷ dump_of profile g.0) (sym h))
given_reading profile (Some text) new line has_feed (Err c) g h = (dump_of profile g.0, ap (map (reading profile)) g.2 ∙ ap (λ r. r ∷ dump_of profile g.0) (sym h))

pub long_fault : (profile : Profile) (left new : Option (List ℕ)) → HasLongLine longest_line left → ReadsNext profile left (Some (Err L01)) new
long_fault profile None new h = tt
long_fault profile (Some text) new h = (map (reading profile) h.1, ap (map (reading profile)) h.2 ∙ ap (λ r. r ∷ map (reading profile) h.1) (long_reading profile h.0 h.3))

-- ---- the lines that were taken

-- a checker that runs on holds fewer elements than it may
pub less_room : (old new : Progress) (line : Reading) → ((elements : List ElementValue) (x : ElementValue) → order_code elements x ≡ None → length elements < most_elements)
    → new ≡ next old line → IsRunning (next old line) → room_of new < room_of old
less_room (running elements) new (Ok x) law e h = less_by elements x new (order_code elements x) refl law e h
  where
    less_by : (elements : List ElementValue) (x : ElementValue) (new : Progress) (o : Option Code) → order_code elements x ≡ o
        → ((elements : List ElementValue) (x : ElementValue) → order_code elements x ≡ None → length elements < most_elements)
        → new ≡ advance elements (Ok x) o → IsRunning (advance elements (Ok x) o) → room_of new < room_of (running elements)
    less_by elements x new None none law e h = let few = law elements x none in rw e (omega (arith, length-append elements (x ∷ []), few))
    less_by elements x new (Some c) some law e h = absurd h
less_room (running elements) new (Err c) law e h = absurd h
less_room (stopped f) new line law e h = absurd h

-- one more line was taken
pub took_line : (profile : Profile) (left now later : Option (List ℕ)) (old new : Progress) (x : ElementValue) → HasTaken profile left old now → ReadsNext profile now (Some (Ok x)) later → new ≡ next old (Ok x) → HasTaken profile left new later
took_line profile None now later old new x h g e = tt
took_line profile (Some text) now later old new x h g e =
    let P : Option (List ℕ) → Type 0 = λ o. ReadsNext profile o (Some (Ok x)) later in
    let first = subst P h.1 g in
    let lines : dump_of profile text ≡ (h.2 ++ Ok x ∷ []) ++ dump_of profile first.0 = h.3 ∙ ap (λ l. h.2 ++ l) first.2 ∙ sym (append_assoc h.2 (Ok x ∷ []) (dump_of profile first.0)) in
    let state : new ≡ progress (h.2 ++ Ok x ∷ []) = e ∙ ap (λ p. next p (Ok x)) h.4 ∙ sym (fold-append next (running []) h.2 (Ok x ∷ [])) in
    (first.0, first.1, h.2 ++ Ok x ∷ [], lines, state)

-- the fault of a line is that of the whole dump
whole_fault : (dump lines others : List Reading) (line : Reading) (old : Progress) (f : LineFault)
    → ((d : List Reading) → IsFault d (finished (progress d)))
    → ((d more : List Reading) (g : LineFault) → progress d ≡ stopped g → progress (d ++ more) ≡ stopped g)
    → dump ≡ lines ++ line ∷ others → old ≡ progress lines → next old line ≡ stopped f → IsFault dump (Some f)
whole_fault dump lines others line old f holds stays e state h =
    let here : progress (lines ++ line ∷ []) ≡ stopped f = fold-append next (running []) lines (line ∷ []) ∙ ap (λ p. next p line) (sym state) ∙ h in
    let whole : dump ≡ (lines ++ line ∷ []) ++ others = e ∙ sym (append_assoc lines (line ∷ []) others) in
    let stop : progress dump ≡ stopped f = ap progress whole ∙ stays (lines ++ line ∷ []) others f here in
    let P : Option LineFault → Type 0 = λ o. IsFault dump o in
    subst P (ap finished stop) (holds dump)

reads_others : (profile : Profile) (text : List ℕ) (line : Reading) (left : Option (List ℕ)) → ReadsFirst profile text line left → (others : List Reading) × (dump_of profile text ≡ line ∷ others)
reads_others profile text (Ok x) left g = (dump_of profile g.0, g.2)
reads_others profile text (Err c) left g = g

found_fault : (profile : Profile) (left now later : Option (List ℕ)) (old : Progress) (line : Reading) (f : LineFault)
    → ((d : List Reading) → IsFault d (finished (progress d)))
    → ((d more : List Reading) (g : LineFault) → progress d ≡ stopped g → progress (d ++ more) ≡ stopped g)
    → HasTaken profile left old now → ReadsNext profile now (Some line) later → next old line ≡ stopped f → ReadsDump profile left (Err (dumps.Line f))
found_fault profile None now later old line f holds stays h g e = tt
found_fault profile (Some text) now later old line f holds stays h g e =
    let P : Option (List ℕ) → Type 0 = λ o. ReadsNext profile o (Some line) later in
    let first = reads_others profile h.0 line later (subst P h.1 g) in
    whole_fault (dump_of profile text) h.2 first.0 line old f holds stays (h.3 ∙ ap (λ l. h.2 ++ l) first.1) h.4 e

out_of_memory : (profile : Profile) (left : Option (List ℕ)) → ReadsDump profile left (Err dumps.Memory)
out_of_memory profile None = tt
out_of_memory profile (Some text) = tt

-- the checker didn't go on
pub fed_fault : (profile : Profile) (left now later : Option (List ℕ)) (old new : Progress) (line : Reading) (e : FeedFault)
    → ((d : List Reading) → IsFault d (finished (progress d)))
    → ((d more : List Reading) (g : LineFault) → progress d ≡ stopped g → progress (d ++ more) ≡ stopped g)
    → HasTaken profile left old now → ReadsNext profile now (Some line) later → Feeds (Err e) old (next old line) new → ReadsDump profile left (Err (as_dump_fault e))
fed_fault profile left now later old new line feeds.Memory holds stays h g fed = out_of_memory profile left
fed_fault profile left now later old new line (feeds.Line f) holds stays h g fed = found_fault profile left now later old line f holds stays h g fed.1

-- ---- the end of the lines

-- what `finish` answers, as the answer of the reading
abbrev pub as_read : Result DumpValue FeedFault → Result DumpValue DumpFault
as_read (Ok dump) = Ok dump
as_read (Err e) = Err (as_dump_fault e)

concluded_at : (profile : Profile) (text : List ℕ) (checker : CheckerValue) (out : Result DumpValue FeedFault)
    → ((d : List Reading) → IsFault d (finished (progress d)))
    → ((d : List Reading) (elements : List ElementValue) → progress d ≡ running elements → d ≡ map Ok elements)
    → checker.progress ≡ progress (dump_of profile text) → Finishes out checker → ReadsDump profile (Some text) (as_read out)
concluded_at profile text checker (Ok dump) holds kept e h =
    let runs : progress (dump_of profile text) ≡ running dump.elements = sym e ∙ ap (λ c. c.progress) h.0 in
    let P : Option LineFault → Type 0 = λ o. IsFault (dump_of profile text) o in
    (subst P (ap finished runs ∙ h.1) (holds (dump_of profile text)), kept (dump_of profile text) dump.elements runs)
concluded_at profile text checker (Err feeds.Memory) holds kept e h = absurd h
concluded_at profile text checker (Err (feeds.Line f)) holds kept e h =
    let P : Option LineFault → Type 0 = λ o. IsFault (dump_of profile text) o in
    subst P (ap finished (sym e) ∙ h) (holds (dump_of profile text))

pub took_all : (profile : Profile) (left now later : Option (List ℕ)) (state : Progress)
    → HasTaken profile left state now → ReadsNext profile now None later → HasTakenAll profile left state
took_all profile None now later state h g = tt
took_all profile (Some text) now later state h g =
    let P : Option (List ℕ) → Type 0 = λ o. ReadsNext profile o None later in
    let nothing : dump_of profile h.0 ≡ [] = subst P h.1 g in
    let whole : dump_of profile text ≡ h.2 = h.3 ∙ ap (λ l. h.2 ++ l) nothing ∙ append-nil h.2 in
    h.4 ∙ ap progress (sym whole)

pub concluded : (profile : Profile) (left : Option (List ℕ)) (checker : CheckerValue) (out : Result DumpValue FeedFault)
    → ((d : List Reading) → IsFault d (finished (progress d)))
    → ((d : List Reading) (elements : List ElementValue) → progress d ≡ running elements → d ≡ map Ok elements)
    → HasTakenAll profile left checker.progress → Finishes out checker → ReadsDump profile left (as_read out)
concluded profile None checker out holds kept h c = tt
concluded profile (Some text) checker out holds kept h c = concluded_at profile text checker out holds kept h c

-- ---- a reading of the program

-- only an element lets a checker run on
runs_not : (old : Progress) (c : Code) → IsRunning (next old (Err c)) → ⊥
runs_not (running elements) c h = h
runs_not (stopped f) c h = h

pub goes_ready : (reading : Result Element Code) (lines : LineBufferValue) (old : Progress) → GoesOn (Some reading) lines → IsRunning (next old (reading_value reading)) → IsReady lines
goes_ready (Ok e) lines old g h = g
goes_ready (Err c) lines old g h = absurd (runs_not old c h)

pub took : (profile : Profile) (reading : Result Element Code) (left now later : Option (List ℕ)) (old new : Progress) → HasTaken profile left old now → ReadsNext profile now (Some (reading_value reading)) later → new ≡ next old (reading_value reading) → IsRunning (next old (reading_value reading)) → HasTaken profile left new later
took profile (Ok e) left now later old new h g is runs = took_line profile left now later old new (element_value e) h g is
took profile (Err c) left now later old new h g is runs = absurd (runs_not old c runs)

pub still_runs : (new due : Progress) → new ≡ due → IsRunning due → IsRunning new
still_runs new due e h = let P : Progress → Type 0 = λ p. IsRunning p in subst P (sym e) h
