-- The verdict on a body, by the lines that were taken.
use Rattle.std.proofs.Common.{◌≡◌, ◌∙◌, ◌↔◌, ℕ, ◌<◌, ◌≤◌, ◌⊎◌, IfOk, List, [], ◌∷◌, ◌++◌, length, map, fold, true, false, Some, None, Result, Ok, Err, refl, sym, ap, subst, inl, inr, arith, append-nil}
use Rattle.std.specs.List.{AllByRecursion, flat_map}
use Rattle.std.proofs.lemmas.List.{map-append}
use Rattle.std.proofs.lemmas.List.Sums.{fold-append}
use Rattle.streams.specs.Lines as cuts
use Rattle.lsif.specs.Element as lsif
use Rattle.lsif.specs.Element.{ElementValue}
use Rattle.streams.specs.Pieces.{CutterValue, begun, unless_empty}
use Rattle.lsif.specs.Reading.{reading, longest_line}
use Rattle.lsif.specs.declared.profile.Profile.{Profile}
use Rattle.dump.specs.Lines.{dump_of}
use Rattle.dump.specs.Progress as dumps
use Rattle.dump.specs.Progress.{DumpValue, Progress, progress}
use Rattle.dump.specs.declared.fault.LineFault as dump_fault
use Rattle.dump.specs.declared.fault.LineFault.{LineFault}
use Rattle.tags.specs.Judging as texts
use Rattle.tags.specs.Judging.{HasTags, judged_at, lines_rise}
use Rattle.tags.specs.Lines as tag_lines_of
use Rattle.tags.specs.Lines.{Line, ended_line, with_last}
use Rattle.tags.specs.States as tags
use Rattle.tags.specs.States.{State, Summary, listed, state_after}
use Rattle.tags.specs.Steps.Readings.{reading_of, readings_of}
use Rattle.tags.specs.Values.{TagValue}
use Rattle.tags.specs.declared.code.Code.{Code}
use Rattle.tags.specs.declared.code.LineFault as tags_fault
use Rattle.machine.specs.Judging.{dump_at_end, dump_change, tags_change, judged, judged_dump, judged_tags}
use Rattle.machine.specs.State.{Change}
use Rattle.machine.specs.Reply.{ReplyValue}
use Rattle.machine.specs.Uploads.{TakenLines, dump_lines, tags_lines, action_of, settled, IsCut}
use Rattle.machine.specs.Steps.Uploads.{HasState, IsRunning, Judges, Rises, Says, StandsBy, Took, TookBody, body_value, is_out_of_memory, next, said}
use Rattle.machine.specs.Steps.Changes.{said_value}
use Rattle.machine.specs.declared.line_reader.ReadingState.{ReadingState}
use Rattle.machine.specs.declared.line_reader.ReadingState.TheVariants as states
use Rattle.machine.specs.declared.change.Change as makes
use Rattle.machine.proofs.LongLines.{long_tag}
use Rattle.machine.proofs.Standing.{after_dump, after_tags, progress_in, state_in}
use Rattle.machine.proofs.TakenLines.{lines_append, settled_long, settled_short, short_last, sized}

abbrev pub OnlyCut : Type 0
OnlyCut = (text : List ℕ) (lines : List (List ℕ)) → cuts.Cuts text lines → lines ≡ cuts.lines_of text

abbrev pub OnlyLines : Type 0
OnlyLines = (text : List ℕ) (pieces : List (List ℕ)) (last : List ℕ) → tag_lines_of.Cuts text pieces last → tag_lines_of.lines_of text ≡ with_last pieces last

-- ---- dumps

-- the last line, where it isn't empty
abbrev unempty : List ℕ → List (List ℕ)
unempty [] = []
unempty (b ∷ last) = (b ∷ last) ∷ []

all_lines : (body : List ℕ) (lines : List (List ℕ)) (last : List ℕ) → IsCut body lines last → cuts.Cuts body (lines ++ unempty last)
all_lines body lines [] cut = (subst (AllByRecursion cuts.IsLine) (sym (append-nil lines)) cut.0, inl (cut.2 ∙ append-nil (flat_map cuts.ended lines) ∙ ap (flat_map cuts.ended) (sym (append-nil lines))))
all_lines body lines (b ∷ last) cut = (lines_append lines (b ∷ last) cut.0 cut.1, inr (lines, b ∷ last, refl, omega arith, cut.2))

dump_of_cut : OnlyCut → (profile : Profile) (body : List ℕ) (lines : List (List ℕ)) (last : List ℕ) → IsCut body lines last
    → dump_of profile body ≡ map (reading profile) (lines ++ unempty last)
dump_of_cut only profile body lines last cut = ap (map (reading profile)) (sym (only body (lines ++ unempty last) (all_lines body lines last cut)))

-- the fold of readings, over the settled lines and those that aren't
progress_cut : OnlyCut → (profile : Profile) (body : List ℕ) (lines : List (List ℕ)) (last : List ℕ) → IsCut body lines last
    → progress (dump_of profile body) ≡ fold dumps.next (progress (map (reading profile) lines)) (map (reading profile) (unempty last))
progress_cut only profile body lines last cut =
    ap progress (dump_of_cut only profile body lines last cut ∙ map-append (reading profile) lines (unempty last))
    ∙ fold-append dumps.next (dumps.running []) (map (reading profile) lines) (map (reading profile) (unempty last))

dump_settled : (profile : Profile) (p : Progress) (held : List ℕ) (lines : List (List ℕ)) (last : List ℕ) → Took (dump_lines profile p) held lines last
    → p ≡ progress (map (reading profile) (settled longest_line lines last))
dump_settled profile p held lines last t = ap progress_in (t.0 ∙ after_dump profile (dumps.running []) (settled longest_line lines last))

stopped_stays : (fault : LineFault) (rs : List lsif.Reading) → fold dumps.next (dumps.stopped fault) rs ≡ dumps.stopped fault
stopped_stays fault [] = refl
stopped_stays fault (r ∷ rs) = stopped_stays fault rs

-- at the end of a body whose last line isn't empty, that is taken as well
dump_last : OnlyCut → (profile : Profile) (found : List ElementValue) (held body : List ℕ) (b : ℕ) (rest : List ℕ) → held ≡ b ∷ rest
    → TookBody (dump_lines profile (dumps.running found)) held body → dumps.next (dumps.running found) (reading profile held) ≡ progress (dump_of profile body)
dump_last only profile found held body b rest is t =
    let known = dump_lines profile (dumps.running found) in
    let last : t.1 ≡ b ∷ rest = sym ((t.3).1 tt) ∙ is in
    let short = short_last known held t.0 t.1 t.3 tt in
    let here : dumps.running found ≡ progress (map (reading profile) t.0) =
    dump_settled profile (dumps.running found) held t.0 t.1 t.3 ∙ ap (λ ls. progress (map (reading profile) ls)) (settled_short longest_line t.0 t.1 short) in
    ap (λ p. dumps.next p (reading profile held)) here ∙ ap (λ l. dumps.next (progress (map (reading profile) t.0)) (reading profile l)) is
    ∙ sym (ap (λ l. fold dumps.next (progress (map (reading profile) t.0)) (map (reading profile) (unempty l))) last)
    ∙ sym (progress_cut only profile body t.0 t.1 t.2)

dump_whole : OnlyCut → (profile : Profile) (found : List ElementValue) (body : List ℕ)
    → TookBody (dump_lines profile (dumps.running found)) [] body → dumps.running found ≡ progress (dump_of profile body)
dump_whole only profile found body t =
    let known = dump_lines profile (dumps.running found) in
    let last : t.1 ≡ [] = sym ((t.3).1 tt) in
    let short = short_last known [] t.0 t.1 t.3 tt in
    dump_settled profile (dumps.running found) [] t.0 t.1 t.3 ∙ ap (λ ls. progress (map (reading profile) ls)) (settled_short longest_line t.0 t.1 short)
    ∙ sym (ap (λ l. fold dumps.next (progress (map (reading profile) t.0)) (map (reading profile) (unempty l))) last)
    ∙ sym (progress_cut only profile body t.0 t.1 t.2)

-- a last line that is too long isn't empty
long_last : (longest : ℕ) (last : List ℕ) → longest < length last → unempty last ≡ last ∷ []
long_last longest [] long = absurd (omega (arith, long))
long_last longest (b ∷ last) long = refl

dump_stopped : OnlyCut → (profile : Profile) (fault : LineFault) (held body : List ℕ)
    → TookBody (dump_lines profile (dumps.stopped fault)) held body → dumps.stopped fault ≡ progress (dump_of profile body)
dump_stopped only profile fault held body t =
    let lines = t.0 in
    let last = t.1 in
    let here = dump_settled profile (dumps.stopped fault) held lines last t.3 in
    let within : length last ≤ longest_line → dumps.stopped fault ≡ fold dumps.next (progress (map (reading profile) lines)) (map (reading profile) (unempty last)) =
    λ short.
    let first : dumps.stopped fault ≡ progress (map (reading profile) lines) = here ∙ ap (λ ls. progress (map (reading profile) ls)) (settled_short longest_line lines last short) in
    sym (stopped_stays fault (map (reading profile) (unempty last))) ∙ ap (λ p. fold dumps.next p (map (reading profile) (unempty last))) first in
    let over : longest_line < length last → dumps.stopped fault ≡ fold dumps.next (progress (map (reading profile) lines)) (map (reading profile) (unempty last)) =
    λ long.
    here ∙ ap (λ ls. progress (map (reading profile) ls)) (settled_long longest_line lines last long)
    ∙ ap progress (map-append (reading profile) lines (last ∷ [])) ∙ fold-append dumps.next (dumps.running []) (map (reading profile) lines) (map (reading profile) (last ∷ []))
    ∙ ap (λ ls. fold dumps.next (progress (map (reading profile) lines)) (map (reading profile) ls)) (sym (long_last longest_line last long)) in
    elim (sized longest_line last) [ inl short ↦ within short | inr long ↦ over long ] ∙ sym (progress_cut only profile body lines last t.2)

-- ---- tags files

state_cut : OnlyLines → (body : List ℕ) (lines : List (List ℕ)) (last : List ℕ) → IsCut body lines last
    → readings_of body ≡ map reading_of (with_last lines last)
state_cut only body lines last cut = ap (map reading_of) (only body lines last cut)

tags_settled : (state : State (List TagValue)) (held : List ℕ) (lines : List (List ℕ)) (last : List ℕ) → Took (tags_lines state) held lines last
    → state ≡ state_after listed [] (map reading_of (map ended_line (settled tag_lines_of.longest_line lines last)))
tags_settled state held lines last t = ap state_in (t.0 ∙ after_tags (tags.start []) (settled tag_lines_of.longest_line lines last))

abbrev folded : State (List TagValue) → List Line → State (List TagValue)
folded state lines = fold (tags.next listed) state (map reading_of lines)

folded_append : (state : State (List TagValue)) (a b : List Line) → folded state (a ++ b) ≡ folded (folded state a) b
folded_append state a b = ap (fold (tags.next listed) state) (map-append reading_of a b) ∙ fold-append (tags.next listed) state (map reading_of a) (map reading_of b)

tags_stay : (n : ℕ) (c : Code) (lines : List Line) → folded (tags.stopped n c) lines ≡ tags.stopped n c
tags_stay n c [] = refl
tags_stay n c (line ∷ lines) = tags_stay n c lines

abbrev judging : List ℕ → State (List TagValue)
judging body = state_after listed [] (readings_of body)

tags_last : OnlyLines → (s : Summary (List TagValue)) (held body : List ℕ) (b : ℕ) (rest : List ℕ) → held ≡ b ∷ rest
    → TookBody (tags_lines (tags.running s)) held body → tags.next listed (tags.running s) (reading_of (record { bytes = held; ended = false })) ≡ judging body
tags_last only s held body b rest is t =
    let known = tags_lines (tags.running s) in
    let last : t.1 ≡ b ∷ rest = sym ((t.3).1 tt) ∙ is in
    let short = short_last known held t.0 t.1 t.3 tt in
    let here : tags.running s ≡ folded (tags.start []) (map ended_line t.0) =
    tags_settled (tags.running s) held t.0 t.1 t.3 ∙ ap (λ ls. folded (tags.start []) (map ended_line ls)) (settled_short tag_lines_of.longest_line t.0 t.1 short) in
    ap (λ l. tags.next listed (tags.running s) (reading_of (record { bytes = l; ended = false }))) is
    ∙ ap (λ x. tags.next listed x (reading_of (record { bytes = b ∷ rest; ended = false }))) here
    ∙ sym (folded_append (tags.start []) (map ended_line t.0) (record { bytes = b ∷ rest; ended = false } ∷ []))
    ∙ sym (ap (λ l. state_after listed [] (map reading_of (with_last t.0 l))) last) ∙ sym (ap (state_after listed []) (state_cut only body t.0 t.1 t.2))

tags_whole : OnlyLines → (s : Summary (List TagValue)) (body : List ℕ) → TookBody (tags_lines (tags.running s)) [] body → tags.running s ≡ judging body
tags_whole only s body t =
    let known = tags_lines (tags.running s) in
    let last : t.1 ≡ [] = sym ((t.3).1 tt) in
    let short = short_last known [] t.0 t.1 t.3 tt in
    tags_settled (tags.running s) [] t.0 t.1 t.3 ∙ ap (λ ls. folded (tags.start []) (map ended_line ls)) (settled_short tag_lines_of.longest_line t.0 t.1 short)
    ∙ sym (ap (λ l. state_after listed [] (map reading_of (with_last t.0 l))) last) ∙ sym (ap (state_after listed []) (state_cut only body t.0 t.1 t.2))

-- the lines as they are judged at the end: where the first of them stop, all do
stays_last : (n : ℕ) (c : Code) (lines : List (List ℕ)) (last : List ℕ) → folded (tags.start []) (map ended_line lines) ≡ tags.stopped n c
    → folded (tags.start []) (with_last lines last) ≡ tags.stopped n c
stays_last n c lines [] e = e
stays_last n c lines (b ∷ last) e =
    folded_append (tags.start []) (map ended_line lines) (record { bytes = b ∷ last; ended = false } ∷ [])
    ∙ ap (λ s. folded s (record { bytes = b ∷ last; ended = false } ∷ [])) e ∙ tags_stay n c (record { bytes = b ∷ last; ended = false } ∷ [])

-- a last line that is too long reads the same with a line feed
long_with_last : (lines : List (List ℕ)) (last : List ℕ) → tag_lines_of.longest_line < length last
    → folded (tags.start []) (with_last lines last) ≡ folded (tags.start []) (map ended_line (lines ++ last ∷ []))
long_with_last lines [] long = absurd (omega (arith, long))
long_with_last lines (b ∷ last) long =
    folded_append (tags.start []) (map ended_line lines) (record { bytes = b ∷ last; ended = false } ∷ [])
    ∙ ap (λ r. tags.next listed (folded (tags.start []) (map ended_line lines)) r) (long_tag (b ∷ last) false long ∙ sym (long_tag (b ∷ last) true long))
    ∙ sym (folded_append (tags.start []) (map ended_line lines) (map ended_line ((b ∷ last) ∷ [])))
    ∙ ap (folded (tags.start [])) (sym (map-append ended_line lines ((b ∷ last) ∷ [])))

tags_stopped : OnlyLines → (n : ℕ) (c : Code) (held body : List ℕ) → TookBody (tags_lines (tags.stopped n c)) held body → tags.stopped n c ≡ judging body
tags_stopped only n c held body t =
    let lines = t.0 in
    let last = t.1 in
    let here = tags_settled (tags.stopped n c) held lines last t.3 in
    let within : length last ≤ tag_lines_of.longest_line → tags.stopped n c ≡ folded (tags.start []) (with_last lines last) =
    λ short. sym (stays_last n c lines last (sym (here ∙ ap (λ ls. folded (tags.start []) (map ended_line ls)) (settled_short tag_lines_of.longest_line lines last short)))) in
    let over : tag_lines_of.longest_line < length last → tags.stopped n c ≡ folded (tags.start []) (with_last lines last) =
    λ long. here ∙ ap (λ ls. folded (tags.start []) (map ended_line ls)) (settled_long tag_lines_of.longest_line lines last long) ∙ sym (long_with_last lines last long) in
    elim (sized tag_lines_of.longest_line last) [ inl short ↦ within short | inr long ↦ over long ] ∙ sym (ap (state_after listed []) (state_cut only body lines last t.2))

-- ---- both

said_dump : (profile : Profile) (p : Progress) (body : List ℕ) → p ≡ progress (dump_of profile body) → said (dump_lines profile p) ≡ judged (action_of (dump_lines profile p) body)
said_dump profile p body is = ap (λ q. dump_change (dump_at_end profile q)) is

said_tags : (state other : State (List TagValue)) (body : List ℕ) → state ≡ judging body → said (tags_lines state) ≡ judged (action_of (tags_lines other) body)
said_tags state other body is = ap (λ s. tags_change (judged_at s)) is

-- where no byte is left, or a line has a fault
pub said_whole : OnlyCut → OnlyLines → (known : TakenLines) (body : List ℕ) → IsRunning known → TookBody known [] body → said known ≡ judged (action_of known body)
said_whole cut lines (dump_lines profile (dumps.running found)) body runs t = said_dump profile (dumps.running found) body (dump_whole cut profile found body t)
said_whole cut lines (dump_lines profile (dumps.stopped fault)) body runs t = absurd runs
said_whole cut lines (tags_lines (tags.running s)) body runs t = said_tags (tags.running s) (tags.running s) body (tags_whole lines s body t)
said_whole cut lines (tags_lines (tags.stopped n c)) body runs t = absurd runs

pub said_stopped : OnlyCut → OnlyLines → (known : TakenLines) (held body : List ℕ) → (IsRunning known → ⊥) → TookBody known held body → said known ≡ judged (action_of known body)
said_stopped cut lines (dump_lines profile (dumps.running found)) held body stops t = absurd (stops tt)
said_stopped cut lines (dump_lines profile (dumps.stopped fault)) held body stops t = said_dump profile (dumps.stopped fault) body (dump_stopped cut profile fault held body t)
said_stopped cut lines (tags_lines (tags.running s)) held body stops t = absurd (stops tt)
said_stopped cut lines (tags_lines (tags.stopped n c)) held body stops t = said_tags (tags.stopped n c) (tags.stopped n c) body (tags_stopped lines n c held body t)

-- where a last line has no line feed
pub said_last : OnlyCut → OnlyLines → (known : TakenLines) (held body : List ℕ) (b : ℕ) (rest : List ℕ) → held ≡ b ∷ rest → IsRunning known
    → TookBody known held body → said (next known held false) ≡ judged (action_of known body)
said_last cut lines (dump_lines profile (dumps.running found)) held body b rest is runs t =
    ap (λ q. dump_change (dump_at_end profile q)) (dump_last cut profile found held body b rest is t)
said_last cut lines (dump_lines profile (dumps.stopped fault)) held body b rest is runs t = absurd runs
said_last cut lines (tags_lines (tags.running s)) held body b rest is runs t =
    said_tags (tags.next listed (tags.running s) (reading_of (record { bytes = held; ended = false }))) (tags.running s) body (tags_last lines s held body b rest is t)
said_last cut lines (tags_lines (tags.stopped n c)) held body b rest is runs t = absurd runs

-- ---- the tags are in the order of their lines

abbrev pub TextTags : Type 0
TextTags = (text : List ℕ) (found : List TagValue) → (texts.judged text ≡ Ok found) ↔ HasTags text found

abbrev pub TextRises : Type 0
TextRises = (text : List ℕ) (found : List TagValue) → HasTags text found → lines_rise found ≡ true

tags_found : (found : List TagValue) (r : Result (List TagValue) tags_fault.LineFault) → tags_change (Ok found) ≡ tags_change r → r ≡ Ok found
tags_found found (Ok other) e = cc
tags_found found (Err f) e = cc

not_dump : (found : List TagValue) (r : Result DumpValue dump_fault.LineFault) → tags_change (Ok found) ≡ dump_change r → ⊥
not_dump found (Ok dump) e = cc
not_dump found (Err f) e = cc

pub rises : TextTags → TextRises → (known old : TakenLines) (body : List ℕ) → said known ≡ judged (action_of old body) → Rises known
rises all up (dump_lines profile p) old body e = tt
rises all up (tags_lines (tags.stopped n c)) old body e = tt
rises all up (tags_lines (tags.running s)) (tags_lines state) body e = up body s.kept ((all body s.kept).0 (tags_found s.kept (judged_tags body) e))
rises all up (tags_lines (tags.running s)) (dump_lines profile p) body e = absurd (not_dump s.kept (judged_dump profile body) e)

-- ---- the end of a body

pub some_rest : (held line : List ℕ) → Some line ≡ unless_empty held → (b : ℕ) × (rest : List ℕ) × (held ≡ b ∷ rest) × (line ≡ held)
some_rest [] line e = cc
some_rest (b ∷ rest) line e = (b, rest, refl, cc)

pub no_rest : (held : List ℕ) → None ≡ unless_empty held → held ≡ []
no_rest [] e = refl
no_rest (b ∷ rest) e = cc

pub says_judged : (state : ReadingState) (due new : TakenLines) (answer : Result Change ReplyValue) → Judges state due new → said due ≡ answer → Says state new answer
says_judged states.Running due new answer judges is = ap said judges.0 ∙ is
says_judged states.Faulty due new answer judges is = ap said judges.0 ∙ is
says_judged states.OutOfMemory due new answer judges is = tt

pub faulty_says : OnlyCut → OnlyLines → (known : TakenLines) (cutter : CutterValue) (state : ReadingState) (body : List ℕ)
    → (state ≡ states.Faulty) ⊎ (state ≡ states.OutOfMemory) → HasState state known cutter → StandsBy (body_value known cutter state) body
    → Says state known (judged (action_of known body))
faulty_says cut lines known cutter states.Running body (inl is) has stands = cc
faulty_says cut lines known cutter states.Running body (inr is) has stands = cc
faulty_says cut lines known cutter states.Faulty body is has (inl refused) = cc
faulty_says cut lines known cutter states.Faulty body is has (inr took) = said_stopped cut lines known (begun cutter) body has took
faulty_says cut lines known cutter states.OutOfMemory body is has stands = tt

pub says_is : (state : ReadingState) (known : TakenLines) (answer : Result Change ReplyValue) → (state ≡ states.Running) ⊎ (state ≡ states.Faulty)
    → Says state known answer → said known ≡ answer
says_is states.Running known answer is says = says
says_is states.Faulty known answer is says = says
says_is states.OutOfMemory known answer (inl is) says = cc
says_is states.OutOfMemory known answer (inr is) says = cc

pub not_refused : (state : ReadingState) → (state ≡ states.Running) ⊎ (state ≡ states.Faulty) → state ≡ states.OutOfMemory → ⊥
not_refused state (inl is) refused = cc
not_refused state (inr is) refused = cc

pub out_of_memory : (state : ReadingState) → is_out_of_memory state ≡ true → state ≡ states.OutOfMemory
out_of_memory states.Running e = cc
out_of_memory states.Faulty e = cc
out_of_memory states.OutOfMemory e = refl

pub same_answer : {E : Type 0} (r : Result (Result makes.Change ReplyValue) E) (a b : Result Change ReplyValue) → IfOk r (λ answer. said_value answer ≡ a) → a ≡ b
    → IfOk r (λ answer. said_value answer ≡ b)
same_answer (Ok x) a b h e = h ∙ e
same_answer (Err x) a b h e = tt
