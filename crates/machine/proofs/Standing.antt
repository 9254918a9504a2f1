-- What an upload represents, by the lines that were taken.
use Rattle.std.proofs.Common.{suc, zero, ◌≡◌, ◌∙◌, ◌↔◌, ℕ, ◌+◌, List, [], ◌∷◌, ◌++◌, map, fold, true, false, slice_get, Some, None, Ok, refl, sym, ap, ap₂, subst, inl, inr, arith, ◌-◌, ◌==◌, length, take, drop, append_assoc, append-nil}
use Rattle.std.proofs.lemmas.Bool.Decides.{nat_tests}
use Rattle.std.proofs.lemmas.List.{take-append-drop, take_rest}
use Rattle.lsif.specs.Element.{ElementValue}
use Rattle.lsif.specs.Element as lsif
use Rattle.lsif.specs.Reading as dump_lines_of
use Rattle.lsif.specs.Reading.{reading}
use Rattle.lsif.specs.declared.profile.Profile.{Profile}
use Rattle.dump.specs.Fault.{AreSoundLines, IsLineFault}
use Rattle.dump.specs.Progress as dumps
use Rattle.dump.specs.Progress.{Progress, progress}
use Rattle.dump.specs.declared.fault.LineFault.{LineFault}
use Rattle.tags.specs.Fault as faults
use Rattle.tags.specs.Fault.{contents, tags_of}
use Rattle.tags.specs.Lines as tag_lines_of
use Rattle.tags.specs.Lines.{Line, IsReading, AreReadings, ended_line}
use Rattle.tags.specs.States as tags
use Rattle.tags.specs.States.{State, Summary, listed, state_after, summary_of}
use Rattle.tags.specs.Steps.Readings.{reading_of}
use Rattle.tags.specs.Values.{TagValue}
use Rattle.tags.specs.declared.code.Code.{Code}
use Rattle.machine.specs.Uploads.{BodyValue, TakenLines, dump_lines, tags_lines, no_tags_line, empty, settled, Holds, HoldsDump, HoldsReadings, HasRead}
use Rattle.machine.specs.Steps.Uploads.{StandsBy, Took, after}
use Rattle.machine.proofs.Judging.{same_elements}

-- ---- what the laws of dumps and of tags files say

pub record DumpLaws : Type 0 where
  pub line : (dump : List lsif.Reading) (fault : LineFault) → (progress dump ≡ dumps.stopped fault) ↔ IsLineFault dump fault
  pub elements : (dump : List lsif.Reading) (found : List ElementValue) → progress dump ≡ dumps.running found → dump ≡ map Ok found
  pub sound : (dump : List lsif.Reading) (found : List ElementValue) → progress dump ≡ dumps.running found → AreSoundLines dump

pub record TagLaws : Type 0 where
  pub one : (lines : List faults.Reading) (j k : ℕ) (c d : Code) → faults.IsFirstFault lines j c → faults.IsFirstFault lines k d → (j ≡ k) × (c ≡ d)
  pub stopped : (lines : List faults.Reading) (n : ℕ) (c : Code) → state_after listed [] lines ≡ tags.stopped n c
      → (k : ℕ) × (n ≡ k + 1) × faults.IsFirstFault lines k c
  pub running : (lines : List faults.Reading) (s : Summary (List TagValue)) → state_after listed [] lines ≡ tags.running s
      → faults.IsFaultless lines × (s ≡ summary_of (tags_of (contents lines)) (contents lines))
  pub holds : (line : Line) → IsReading line (reading_of line)
  pub only : (line : Line) (r : faults.Reading) → IsReading line r → r ≡ reading_of line

-- ---- dumps

pub after_dump : (profile : Profile) (p : Progress) (lines : List (List ℕ))
    → after (dump_lines profile p) lines ≡ dump_lines profile (fold dumps.next p (map (reading profile) lines))
after_dump profile p [] = refl
after_dump profile p (line ∷ lines) = after_dump profile (dumps.next p (reading profile line)) lines

abbrev pub progress_in : TakenLines → Progress
progress_in (dump_lines profile p) = p
progress_in (tags_lines state) = dumps.running []

runs_on : DumpLaws → (found : List ElementValue) (p : Progress) → AreSoundLines (map Ok found) → progress (map Ok found) ≡ p → p ≡ dumps.running found
runs_on laws found (dumps.running others) sound e = ap dumps.running (sym (same_elements found others (laws.elements (map Ok found) others e)))
runs_on laws found (dumps.stopped fault) sound e =
    let first = (laws.line (map Ok found) fault).0 e in
    absurd (sound first.index fault.code first.code)

took_dump : DumpLaws → (profile : Profile) (p : Progress) (held : List ℕ) (lines : List (List ℕ)) (last : List ℕ)
    → HoldsDump profile p held lines last → Took (dump_lines profile p) held lines last
took_dump laws profile (dumps.running found) held lines last h =
    let all = settled dump_lines_of.longest_line lines last in
    let is : progress (map (reading profile) all) ≡ dumps.running found = ap progress h.0 ∙ runs_on laws found (progress (map Ok found)) h.1 refl in
    (sym (after_dump profile (dumps.running []) all ∙ ap (dump_lines profile) is), λ runs. h.2)
took_dump laws profile (dumps.stopped fault) held lines last h =
    let all = settled dump_lines_of.longest_line lines last in
    let is : progress (map (reading profile) all) ≡ dumps.stopped fault = (laws.line (map (reading profile) all) fault).1 h in
    (sym (after_dump profile (dumps.running []) all ∙ ap (dump_lines profile) is), λ runs. absurd runs)

holds_dump : DumpLaws → (profile : Profile) (p : Progress) (held : List ℕ) (lines : List (List ℕ)) (last : List ℕ)
    → Took (dump_lines profile p) held lines last → HoldsDump profile p held lines last
holds_dump laws profile (dumps.running found) held lines last t =
    let all = settled dump_lines_of.longest_line lines last in
    let is : progress (map (reading profile) all) ≡ dumps.running found = sym (ap progress_in (t.0 ∙ after_dump profile (dumps.running []) all)) in
    let same = laws.elements (map (reading profile) all) found is in
    (same, subst AreSoundLines same (laws.sound (map (reading profile) all) found is), t.1 tt)
holds_dump laws profile (dumps.stopped fault) held lines last t =
    let all = settled dump_lines_of.longest_line lines last in
    let is : progress (map (reading profile) all) ≡ dumps.stopped fault = sym (ap progress_in (t.0 ∙ after_dump profile (dumps.running []) all)) in
    (laws.line (map (reading profile) all) fault).0 is

-- ---- tags files

pub after_tags : (state : State (List TagValue)) (lines : List (List ℕ))
    → after (tags_lines state) lines ≡ tags_lines (fold (tags.next listed) state (map reading_of (map ended_line lines)))
after_tags state [] = refl
after_tags state (line ∷ lines) = after_tags (tags.next listed state (reading_of (ended_line line))) lines

abbrev pub state_in : TakenLines → State (List TagValue)
state_in (dump_lines profile p) = tags.start []
state_in (tags_lines state) = state

one_reading : TagLaws → (lines : List Line) (rs : List faults.Reading) → AreReadings lines rs → rs ≡ map reading_of lines
one_reading laws [] [] h = refl
one_reading laws [] (r ∷ rs) h = absurd h
one_reading laws (line ∷ lines) [] h = absurd h
one_reading laws (line ∷ lines) (r ∷ rs) h = ap (λ x. x ∷ rs) (laws.only line r h.0) ∙ ap (λ xs. reading_of line ∷ xs) (one_reading laws lines rs h.1)

are_readings : TagLaws → (lines : List Line) → AreReadings lines (map reading_of lines)
are_readings laws [] = tt
are_readings laws (line ∷ lines) = (laws.holds line, are_readings laws lines)

-- lines without fault run on, and others stop
runs_tags : TagLaws → (rs : List faults.Reading) (s : Summary (List TagValue)) (state : State (List TagValue)) → state_after listed [] rs ≡ state
    → faults.IsFaultless rs → s ≡ summary_of (tags_of (contents rs)) (contents rs) → state ≡ tags.running s
runs_tags laws rs s (tags.running other) e free is = ap tags.running ((laws.running rs other e).1 ∙ sym is)
runs_tags laws rs s (tags.stopped n c) e free is =
    let first = laws.stopped rs n c e in
    absurd (free first.0 c first.2.code)

stops_tags : TagLaws → (rs : List faults.Reading) (k n : ℕ) (c : Code) (state : State (List TagValue)) → state_after listed [] rs ≡ state
    → n ≡ k + 1 → faults.IsFirstFault rs k c → state ≡ tags.stopped n c
stops_tags laws rs k n c (tags.running other) e is first = absurd ((laws.running rs other e).0 k c first.code)
stops_tags laws rs k n c (tags.stopped m d) e is first =
    let other = laws.stopped rs m d e in
    let same = laws.one rs other.0 k d c other.2 first in
    ap₂ tags.stopped (other.1 ∙ ap (λ j. j + 1) same.0 ∙ sym is) same.1

took_readings : TagLaws → (state : State (List TagValue)) (held : List ℕ) (lines : List (List ℕ)) (last : List ℕ) (rs : List faults.Reading)
    → rs ≡ map reading_of (map ended_line (settled tag_lines_of.longest_line lines last)) → HoldsReadings state held rs last → Took (tags_lines state) held lines last
took_readings laws (tags.running s) held lines last rs same h =
    let all = settled tag_lines_of.longest_line lines last in
    let is = runs_tags laws rs s (state_after listed [] rs) refl h.0 h.1 in
    (sym (after_tags (tags.start []) all ∙ ap tags_lines (ap (state_after listed []) (sym same) ∙ is)), λ runs. h.2)
took_readings laws (tags.stopped n c) held lines last rs same h =
    let all = settled tag_lines_of.longest_line lines last in
    let is = stops_tags laws rs h.0 n c (state_after listed [] rs) refl h.1 h.2 in
    (sym (after_tags (tags.start []) all ∙ ap tags_lines (ap (state_after listed []) (sym same) ∙ is)), λ runs. absurd runs)

holds_readings : TagLaws → (state : State (List TagValue)) (held : List ℕ) (lines : List (List ℕ)) (last : List ℕ)
    → Took (tags_lines state) held lines last
    → HoldsReadings state held (map reading_of (map ended_line (settled tag_lines_of.longest_line lines last))) last
holds_readings laws (tags.running s) held lines last t =
    let all = settled tag_lines_of.longest_line lines last in
    let rs = map reading_of (map ended_line all) in
    let is : state_after listed [] rs ≡ tags.running s = sym (ap state_in (t.0 ∙ after_tags (tags.start []) all)) in
    let free = laws.running rs s is in
    (free.0, free.1, t.1 tt)
holds_readings laws (tags.stopped n c) held lines last t =
    let all = settled tag_lines_of.longest_line lines last in
    let rs = map reading_of (map ended_line all) in
    let is : state_after listed [] rs ≡ tags.stopped n c = sym (ap state_in (t.0 ∙ after_tags (tags.start []) all)) in
    laws.stopped rs n c is

-- ---- both

took_lines : DumpLaws → TagLaws → (known : TakenLines) (held : List ℕ) (lines : List (List ℕ)) (last : List ℕ) → Holds known held lines last → Took known held lines last
took_lines dump_laws tag_laws (dump_lines profile p) held lines last h = took_dump dump_laws profile p held lines last h
took_lines dump_laws tag_laws (tags_lines state) held lines last h =
    took_readings tag_laws state held lines last h.0 (one_reading tag_laws (map ended_line (settled tag_lines_of.longest_line lines last)) h.0 h.1) h.2

holds_lines : DumpLaws → TagLaws → (known : TakenLines) (held : List ℕ) (lines : List (List ℕ)) (last : List ℕ) → Took known held lines last → Holds known held lines last
holds_lines dump_laws tag_laws (dump_lines profile p) held lines last t = holds_dump dump_laws profile p held lines last t
holds_lines dump_laws tag_laws (tags_lines state) held lines last t =
    let all = map ended_line (settled tag_lines_of.longest_line lines last) in
    (map reading_of all, are_readings tag_laws all, holds_readings tag_laws state held lines last t)

pub stands_by : DumpLaws → TagLaws → (held : BodyValue) (body : List ℕ) → HasRead held body → StandsBy held body
stands_by dump_laws tag_laws held body (inl refused) = inl refused
stands_by dump_laws tag_laws held body (inr h) = inr (h.0, h.1, h.2, took_lines dump_laws tag_laws held.lines held.last h.0 h.1 h.3)

pub stands_for : DumpLaws → TagLaws → (held : BodyValue) (body : List ℕ) → StandsBy held body → HasRead held body
stands_for dump_laws tag_laws held body (inl refused) = inl refused
stands_for dump_laws tag_laws held body (inr t) = inr (t.0, t.1, t.2, holds_lines dump_laws tag_laws held.lines held.last t.0 t.1 t.3)

-- ---- a piece

-- bytes that were taken off the front of the rest
pub moved_on : (bytes front rest : List ℕ) (n : ℕ) → bytes ≡ front ++ rest → bytes ≡ (front ++ take n rest) ++ take (length rest - n) (drop n rest)
moved_on bytes front rest n is =
    is ∙ ap (λ r. front ++ r) (sym (take-append-drop n rest)) ∙ sym (append_assoc front (take n rest) (drop n rest))
    ∙ ap (λ r. (front ++ take n rest) ++ r) (sym (take_rest rest n))

pub no_rest : (bytes front rest : List ℕ) → true ≡ (length rest == 0) → bytes ≡ front ++ rest → bytes ≡ front
no_rest bytes front [] e is = is ∙ append-nil front
no_rest bytes front (b ∷ rest) e is =
    let none : length (b ∷ rest) ≡ 0 = grind (arith, nat_tests, e) in
    absurd (omega (arith, none))

-- ---- no byte

no_line : (k : ℕ) (line : faults.Reading) → slice_get [] k ≡ Some line → ⊥
no_line zero line e = cc
no_line (suc k) line e = no_line k line e

no_summary : record { count = 0; kept = []; last = None; checked = false } ≡ summary_of (tags_of []) []
unfolding summary_of tags_of
no_summary = refl

-- a reader of tags that has taken nothing represents the empty body
pub empty_tags : HasRead (empty no_tags_line) []
empty_tags = inr ([], [], (tt, tt, refl), ([], tt, (λ k c has. no_line k has.0 has.1, no_summary, refl)))

pub empty_reader : (state : State (List TagValue)) (held : BodyValue) → state ≡ tags.start [] → held ≡ empty (tags_lines state) → HasRead held []
empty_reader state held none is = subst (λ b. HasRead b []) (sym (is ∙ ap (λ s. empty (tags_lines s)) none)) empty_tags
