-- The lines of a body, taken from its pieces.
use Rattle.std.proofs.Common.{suc, zero, ◌≡◌, ◌≢◌, ◌∙◌, ℕ, ◌+◌, ◌<◌, ◌≤◌, ◌⊎◌, ◌==◌, nat_lt, List, [], ◌∷◌, ◌++◌, length, take, Bool, true, false, Some, Ok, Err, refl, sym, ap, subst, inl, inr, arith, append_assoc, append-nil, length-append}
use Rattle.std.specs.List.{AllByRecursion, flat_map}
use Rattle.std.proofs.Math.Seq.{take-append_seam}
use Rattle.std.proofs.lemmas.List.Sums.{fold-append}
use Rattle.std.proofs.lemmas.Bool.{lt-ltb}
use Rattle.std.proofs.lemmas.Bool.Decides.{nat_tests}
use Rattle.streams.specs.Lines.{IsLine, ended, line_feed}
use Rattle.streams.specs.Pieces.{CutterValue, IsOver, Takes, begun, line_in}
use Rattle.lsif.specs.Reading.{reading}
use Rattle.streams.specs.declared.cutter.LineState.TheVariants.{TooLong}
use Rattle.streams.specs.declared.lines.LinesFault.{LinesFault}
use Rattle.streams.specs.declared.lines.LinesFault.TheVariants as faults
use Rattle.lsif.specs.declared.profile.Profile.{Profile}
use Rattle.dump.specs.Progress as dumps
use Rattle.dump.specs.Progress.{Progress}
use Rattle.tags.specs.States as tags
use Rattle.tags.specs.States.{State, listed}
use Rattle.tags.specs.Values.{TagValue}
use Rattle.machine.specs.Uploads.{TakenLines, dump_lines, tags_lines, action_of, longest_of, settled, IsCut}
use Rattle.machine.specs.Steps.Uploads.{next, HasState, IsRunning, Judges, StandsBy, body_value, emptied, after, Took, TookBody}
use Rattle.machine.specs.declared.line_reader.ReadingState.{ReadingState}
use Rattle.machine.specs.declared.line_reader.ReadingState.TheVariants as states
use Rattle.machine.proofs.LongLines.{long_element, long_tag}

-- ---- one line more

pub next_emptied : (known : TakenLines) (line : List ℕ) (is_ended : Bool) → emptied (next known line is_ended) ≡ emptied known
next_emptied (dump_lines profile progress) line is_ended = refl
next_emptied (tags_lines state) line is_ended = refl

pub next_longest : (known : TakenLines) (line : List ℕ) (is_ended : Bool) → longest_of (next known line is_ended) ≡ longest_of known
next_longest (dump_lines profile progress) line is_ended = refl
next_longest (tags_lines state) line is_ended = refl

pub same_longest : (a b : TakenLines) → emptied a ≡ emptied b → longest_of a ≡ longest_of b
same_longest (dump_lines p x) (dump_lines q y) e = refl
same_longest (dump_lines p x) (tags_lines t) e = cc
same_longest (tags_lines s) (dump_lines q y) e = cc
same_longest (tags_lines s) (tags_lines t) e = refl

pub same_action : (a b : TakenLines) (body : List ℕ) → emptied a ≡ emptied b → action_of a body ≡ action_of b body
same_action (dump_lines p x) (dump_lines q y) body e = ap (λ k. action_of k body) e
same_action (dump_lines p x) (tags_lines t) body e = cc
same_action (tags_lines s) (dump_lines q y) body e = cc
same_action (tags_lines s) (tags_lines t) body e = refl

-- after a faulty line nothing changes
pub stopped_next : (known : TakenLines) (line : List ℕ) (is_ended : Bool) → (IsRunning known → ⊥) → next known line is_ended ≡ known
stopped_next (dump_lines profile (dumps.running elements)) line is_ended stops = absurd (stops tt)
stopped_next (dump_lines profile (dumps.stopped fault)) line is_ended stops = refl
stopped_next (tags_lines (tags.running summary)) line is_ended stops = absurd (stops tt)
stopped_next (tags_lines (tags.stopped n c)) line is_ended stops = refl

-- all lines that are too long are taken alike
pub long_next : (known : TakenLines) (a b : List ℕ) (is_ended is_too : Bool) → longest_of known < length a → longest_of known < length b
    → next known a is_ended ≡ next known b is_too
long_next (dump_lines profile progress) a b is_ended is_too long longer =
    ap (λ r. dump_lines profile (dumps.next progress r)) (long_element profile a long ∙ sym (long_element profile b longer))
long_next (tags_lines state) a b is_ended is_too long longer =
    ap (λ r. tags_lines (tags.next listed state r)) (long_tag a is_ended long ∙ sym (long_tag b is_too longer))

-- and have a fault
long_dump : (profile : Profile) (progress : Progress) (line : List ℕ) → longest_of (dump_lines profile progress) < length line
    → dumps.IsRunning (dumps.next progress (reading profile line)) → ⊥
long_dump profile (dumps.running elements) line long runs =
    subst (λ r. dumps.IsRunning (dumps.next (dumps.running elements) r)) (long_element profile line long) runs
long_dump profile (dumps.stopped fault) line long runs = runs

long_tags : (state : State (List TagValue)) (line : List ℕ) (is_ended : Bool) → longest_of (tags_lines state) < length line
    → IsRunning (next (tags_lines state) line is_ended) → ⊥
long_tags (tags.running summary) line is_ended long runs =
    subst (λ r. tags.IsRunning (tags.next listed (tags.running summary) r)) (long_tag line is_ended long) runs
long_tags (tags.stopped n c) line is_ended long runs = runs

pub long_stops : (known : TakenLines) (line : List ℕ) (is_ended : Bool) → longest_of known < length line → IsRunning (next known line is_ended) → ⊥
long_stops (dump_lines profile progress) line is_ended long = long_dump profile progress line long
long_stops (tags_lines state) line is_ended long = long_tags state line is_ended long

-- ---- lines one after another

pub after_one : (known : TakenLines) (lines : List (List ℕ)) (line : List ℕ) → after known (lines ++ line ∷ []) ≡ next (after known lines) line true
after_one known lines line = fold-append (λ k l. next k l true) known lines (line ∷ [])

pub after_longest : (known : TakenLines) (lines : List (List ℕ)) → longest_of (after known lines) ≡ longest_of known
after_longest known [] = refl
after_longest known (line ∷ lines) = after_longest (next known line true) lines ∙ next_longest known line true

emptied_longest : (known : TakenLines) → longest_of (emptied known) ≡ longest_of known
emptied_longest (dump_lines profile progress) = refl
emptied_longest (tags_lines state) = refl

-- ---- the settled lines

pub settled_short : (longest : ℕ) (lines : List (List ℕ)) (last : List ℕ) → length last ≤ longest → settled longest lines last ≡ lines
settled_short longest lines last short =
    let test : nat_lt longest (length last) ≡ false = grind (arith, nat_tests, short) in
    rw test refl

pub settled_long : (longest : ℕ) (lines : List (List ℕ)) (last : List ℕ) → longest < length last → settled longest lines last ≡ lines ++ last ∷ []
settled_long longest lines last long = rw (lt-ltb longest (length last) long) refl

-- a text is within the longest or over it
pub sized : (longest : ℕ) (last : List ℕ) → (length last ≤ longest) ⊎ (longest < length last)
sized longest last = sized_by longest (length last)
  where
    sized_by : (m n : ℕ) → (n ≤ m) ⊎ (m < n)
    sized_by m zero = inl (omega arith)
    sized_by zero (suc n) = inr (omega arith)
    sized_by (suc m) (suc n) = elim (sized_by m n) [ inl short ↦ inl (omega (arith, short)) | inr long ↦ inr (omega (arith, long)) ]

-- where no line has a fault, none is too long
pub short_last : (known : TakenLines) (held : List ℕ) (lines : List (List ℕ)) (last : List ℕ) → Took known held lines last → IsRunning known
    → length last ≤ longest_of known
short_last known held lines last took runs = elim (sized (longest_of known) last) [
  | inl short ↦ short
  | inr long ↦
      let is : known ≡ next (after (emptied known) lines) last true =
      took.0 ∙ ap (after (emptied known)) (settled_long (longest_of known) lines last long) ∙ after_one (emptied known) lines last in
      let over : longest_of (after (emptied known) lines) < length last =
      subst (λ n. n < length last) (sym (after_longest (emptied known) lines ∙ emptied_longest known)) long in
      absurd (long_stops (after (emptied known) lines) last true over (subst IsRunning is runs))
]

-- ---- the cut of a body

pub line_append : (a b : List ℕ) → IsLine a → IsLine b → IsLine (a ++ b)
line_append [] b h k = k
line_append (x ∷ a) b h k = (h.0, line_append a b h.1 k)

line_back : (a b : List ℕ) → IsLine (a ++ b) → IsLine b
line_back [] b h = h
line_back (x ∷ a) b h = line_back a b h.1

pub lines_append : (a : List (List ℕ)) (line : List ℕ) → AllByRecursion IsLine a → IsLine line → AllByRecursion IsLine (a ++ line ∷ [])
lines_append [] line h k = (k, tt)
lines_append (x ∷ a) line h k = (h.0, lines_append a line h.1 k)

flat_one : (lines : List (List ℕ)) (line : List ℕ) → flat_map ended (lines ++ line ∷ []) ≡ flat_map ended lines ++ ended line
flat_one [] line = append-nil (ended line)
flat_one (x ∷ lines) line = ap (λ t. ended x ++ t) (flat_one lines line) ∙ sym (append_assoc (ended x) (flat_map ended lines) (ended line))

-- bytes without a line feed go on with the last line
pub cut_open : (body : List ℕ) (lines : List (List ℕ)) (last part : List ℕ) → IsCut body lines last → IsLine part → IsCut (body ++ part) lines (last ++ part)
cut_open body lines last part cut is =
    (cut.0, line_append last part cut.1 is, ap (λ b. b ++ part) cut.2 ∙ append_assoc (flat_map ended lines) last part)

-- a line feed ends it
pub cut_ended : (body : List ℕ) (lines : List (List ℕ)) (last part : List ℕ) → IsCut body lines last → IsLine part
    → IsCut (body ++ (part ++ line_feed ∷ [])) (lines ++ (last ++ part) ∷ []) []
cut_ended body lines last part cut is =
    let whole = line_append last part cut.1 is in
    let bytes : body ++ (part ++ line_feed ∷ []) ≡ flat_map ended lines ++ ended (last ++ part) =
    ap (λ b. b ++ (part ++ line_feed ∷ [])) cut.2 ∙ append_assoc (flat_map ended lines) last (part ++ line_feed ∷ [])
    ∙ ap (λ t. flat_map ended lines ++ t) (sym (append_assoc last part (line_feed ∷ []))) in
    (lines_append lines (last ++ part) cut.0 whole, tt, bytes ∙ sym (flat_one lines (last ++ part)) ∙ sym (append-nil (flat_map ended (lines ++ (last ++ part) ∷ []))))

-- ---- what a piece makes of it

-- the line has ended
pub took_ended : (known : TakenLines) (held body part : List ℕ) → IsRunning known → TookBody known held body → IsLine part
    → TookBody (next known (held ++ part) true) [] (body ++ (part ++ line_feed ∷ []))
took_ended known held body part runs t is =
    let lines = t.0 in
    let last = t.1 in
    let took = t.3 in
    let same : held ≡ last = took.1 runs in
    let new = next known (held ++ part) true in
    let before : length last ≤ longest_of known = short_last known held lines last took runs in
    let old : known ≡ after (emptied known) lines = took.0 ∙ ap (after (emptied known)) (settled_short (longest_of known) lines last before) in
    let made : new ≡ after (emptied new) (lines ++ (last ++ part) ∷ []) =
    ap (λ k. next k (held ++ part) true) old ∙ ap (λ l. next (after (emptied known) lines) (l ++ part) true) same
    ∙ sym (after_one (emptied known) lines (last ++ part)) ∙ ap (λ k. after k (lines ++ (last ++ part) ∷ [])) (sym (next_emptied known (held ++ part) true)) in
    let settles : lines ++ (last ++ part) ∷ [] ≡ settled (longest_of new) (lines ++ (last ++ part) ∷ []) [] =
    sym (settled_short (longest_of new) (lines ++ (last ++ part) ∷ []) [] (omega arith)) in
    (lines ++ (last ++ part) ∷ [], [], cut_ended body lines last part t.2 is, (made ∙ ap (after (emptied new)) settles, λ r. refl))

-- after a faulty line: one byte more
stays_feed : (known : TakenLines) (held now body : List ℕ) → (IsRunning known → ⊥) → TookBody known held body → TookBody known now (body ++ line_feed ∷ [])
stays_feed known held now body stops t =
    let lines = t.0 in
    let last = t.1 in
    let longest = longest_of known in
    let more = lines ++ last ∷ [] in
    let long_case : longest < length last → known ≡ after (emptied known) more =
    λ long. (t.3).0 ∙ ap (after (emptied known)) (settled_long longest lines last long) in
    let short_case : length last ≤ longest → known ≡ after (emptied known) more =
    λ short. sym (stopped_next known last true stops)
    ∙ ap (λ k. next k last true) ((t.3).0 ∙ ap (after (emptied known)) (settled_short longest lines last short)) ∙ sym (after_one (emptied known) lines last) in
    let is : known ≡ after (emptied known) more = elim (sized longest last) [ inl short ↦ short_case short | inr long ↦ long_case long ] in
    let settles : settled longest more [] ≡ more = settled_short longest more [] (omega arith) in
    let cut = cut_ended body lines last [] t.2 tt in
    let whole : lines ++ (last ++ []) ∷ [] ≡ more = ap (λ l. lines ++ l ∷ []) (append-nil last) in
    (more, [], subst (λ ls. IsCut (body ++ line_feed ∷ []) ls []) whole cut, (is ∙ ap (after (emptied known)) (sym settles), λ r. absurd (stops r)))

stays_byte : (known : TakenLines) (held now body : List ℕ) (b : ℕ) → b ≢ line_feed → (IsRunning known → ⊥) → TookBody known held body → TookBody known now (body ++ b ∷ [])
stays_byte known held now body b other stops t =
    let lines = t.0 in
    let last = t.1 in
    let longest = longest_of known in
    let later = last ++ b ∷ [] in
    let longer : length later ≡ length last + 1 = length-append last (b ∷ []) in
    let here : length last ≤ longest → known ≡ after (emptied known) lines =
    λ short. (t.3).0 ∙ ap (after (emptied known)) (settled_short longest lines last short) in
    let size : longest_of (after (emptied known) lines) ≡ longest = after_longest (emptied known) lines ∙ emptied_longest known in
    let over : longest < length last → known ≡ after (emptied known) (settled longest lines later) =
    λ long.
    let too : longest < length later = omega (arith, long, longer) in
    (t.3).0 ∙ ap (after (emptied known)) (settled_long longest lines last long) ∙ after_one (emptied known) lines last
    ∙ long_next (after (emptied known) lines) last later true true (subst (λ n. n < length last) (sym size) long) (subst (λ n. n < length later) (sym size) too)
    ∙ sym (after_one (emptied known) lines later) ∙ ap (after (emptied known)) (sym (settled_long longest lines later too)) in
    let within : length last ≤ longest → known ≡ after (emptied known) (settled longest lines later) =
    λ short. elim (sized longest later) [
      | inl small ↦ here short ∙ ap (after (emptied known)) (sym (settled_short longest lines later small))
      | inr large ↦
          sym (stopped_next known later true stops) ∙ ap (λ k. next k later true) (here short) ∙ sym (after_one (emptied known) lines later)
          ∙ ap (after (emptied known)) (sym (settled_long longest lines later large))
    ] in
    let is : known ≡ after (emptied known) (settled longest lines later) = elim (sized longest last) [ inl short ↦ within short | inr long ↦ over long ] in
    (lines, later, cut_open body lines last (b ∷ []) t.2 (other, tt), (is, λ r. absurd (stops r)))

stays_one : (known : TakenLines) (held now body : List ℕ) (b : ℕ) (test : Bool) → (b == line_feed) ≡ test → (IsRunning known → ⊥)
    → TookBody known held body → TookBody known now (body ++ b ∷ [])
stays_one known held now body b true e stops t =
    let is : b ≡ line_feed = grind (arith, nat_tests, e) in
    subst (λ x. TookBody known now (body ++ x ∷ [])) (sym is) (stays_feed known held now body stops t)
stays_one known held now body b false e stops t =
    let other : b ≢ line_feed = λ (is : b ≡ line_feed). grind (arith, nat_tests, e, is) in
    stays_byte known held now body b other stops t

-- after a faulty line no byte counts
pub took_stays : (known : TakenLines) (held now body more : List ℕ) → (IsRunning known → ⊥) → TookBody known held body → TookBody known now (body ++ more)
took_stays known held now body [] stops t =
    subst (TookBody known now) (sym (append-nil body)) (t.0, t.1, t.2, ((t.3).0, λ r. absurd (stops r)))
took_stays known held now body (b ∷ more) stops t =
    let one = stays_one known held now body b (b == line_feed) refl stops t in
    subst (TookBody known now) (append_assoc body (b ∷ []) more) (took_stays known now now (body ++ b ∷ []) more stops one)

-- the line is too long
pub took_long : (known new : TakenLines) (held now body part rest : List ℕ) → IsRunning known → TookBody known held body → IsLine part
    → longest_of known < length (held ++ part) → new ≡ next known (held ++ part) true → TookBody new now (body ++ (part ++ rest))
took_long known new held now body part rest runs t is long made =
    let lines = t.0 in
    let last = t.1 in
    let took = t.3 in
    let same : held ≡ last = took.1 runs in
    let before : length last ≤ longest_of known = short_last known held lines last took runs in
    let old : known ≡ after (emptied known) lines = took.0 ∙ ap (after (emptied known)) (settled_short (longest_of known) lines last before) in
    let kind : emptied new ≡ emptied known = ap emptied made ∙ next_emptied known (held ++ part) true in
    let limit : longest_of new ≡ longest_of known = same_longest new known kind in
    let over : longest_of new < length (last ++ part) = subst (λ l. longest_of new < length (l ++ part)) same (subst (λ n. n < length (held ++ part)) (sym limit) long) in
    let stops : IsRunning new → ⊥ = λ r. long_stops known (held ++ part) true long (subst IsRunning made r) in
    let taken : new ≡ after (emptied new) (settled (longest_of new) lines (last ++ part)) =
    made ∙ ap (λ k. next k (held ++ part) true) old ∙ ap (λ l. next (after (emptied known) lines) (l ++ part) true) same
    ∙ sym (after_one (emptied known) lines (last ++ part)) ∙ ap (λ k. after k (lines ++ (last ++ part) ∷ [])) (sym kind)
    ∙ ap (after (emptied new)) (sym (settled_long (longest_of new) lines (last ++ part) over)) in
    let here : TookBody new now (body ++ part) = (lines, last ++ part, cut_open body lines last part t.2 is, (taken, λ r. absurd (stops r))) in
    subst (TookBody new now) (append_assoc body part rest) (took_stays new now now (body ++ part) rest stops here)

-- ---- what a cutter makes of it

-- a line has ended
cut_some : (old cut : CutterValue) (piece line : List ℕ) (n : ℕ) → Takes old piece (Ok n) cut → Some line ≡ line_in cut
    → (part : List ℕ) × (take n piece ≡ part ++ line_feed ∷ []) × IsLine part × (line ≡ begun old ++ part) × (begun cut ≡ [])
cut_some old cut piece line n takes some = elim takes.3 [
  | inl e ↦
      let front : take n piece ≡ e.0 ++ line_feed ∷ [] =
      ap (take n) (e.2 ∙ sym (append_assoc e.0 (line_feed ∷ []) e.1)) ∙ ap (λ k. take k ((e.0 ++ line_feed ∷ []) ++ e.1)) (e.4 ∙ sym (length-append e.0 (line_feed ∷ [])))
      ∙ take-append_seam (e.0 ++ line_feed ∷ []) e.1 in
      let is : line ≡ begun old ++ e.0 = cc (some, e.5) in
      (e.0, front, e.3, is, ap begun e.5)
  | inr g ↦ cc (some, g.2)
]

taken_line : (known new : TakenLines) (old cut : CutterValue) (piece line body : List ℕ) (n : ℕ)
    → IsRunning known → Takes old piece (Ok n) cut → Some line ≡ line_in cut → new ≡ next known line true
    → TookBody known (begun old) body → TookBody new (begun cut) (body ++ take n piece)
taken_line known new old cut piece line body n runs takes some is t =
    let cuts = cut_some old cut piece line n takes some in
    let made : new ≡ next known (begun old ++ cuts.0) true = is ∙ ap (λ l. next known l true) cuts.3 in
    let here = took_ended known (begun old) body cuts.0 runs t cuts.2 in
    let there : TookBody (next known (begun old ++ cuts.0) true) (begun cut) (body ++ take n piece) =
    subst (λ p. TookBody (next known (begun old ++ cuts.0) true) (begun cut) (body ++ p)) (sym cuts.1)
    (subst (λ h. TookBody (next known (begun old ++ cuts.0) true) h (body ++ (cuts.0 ++ line_feed ∷ []))) (sym cuts.4) here) in
    subst (λ k. TookBody k (begun cut) (body ++ take n piece)) (sym made) there

pub ended_stands : (known new : TakenLines) (state : ReadingState) (old cut : CutterValue) (piece line body : List ℕ) (n : ℕ)
    → IsRunning known → Takes old piece (Ok n) cut → Some line ≡ line_in cut → Judges state (next known line true) new
    → TookBody known (begun old) body → StandsBy (body_value new cut state) (body ++ take n piece)
ended_stands known new states.OutOfMemory old cut piece line body n runs takes some judges t = inl refl
ended_stands known new states.Running old cut piece line body n runs takes some judges t =
    inr (taken_line known new old cut piece line body n runs takes some judges.0 t)
ended_stands known new states.Faulty old cut piece line body n runs takes some judges t =
    inr (taken_line known new old cut piece line body n runs takes some judges.0 t)

-- a cutter refuses by that alone
pub too_long : (fault : LinesFault) (old cut : CutterValue) (piece : List ℕ) → Takes old piece (Err fault) cut → Takes old piece (Err faults.TooLong) cut
too_long faults.Memory old cut piece takes = absurd takes
too_long faults.TooLong old cut piece takes = takes
too_long faults.Read old cut piece takes = absurd takes

over_in : (old cut : CutterValue) (piece : List ℕ) → old.state ≢ TooLong → Takes old piece (Err faults.TooLong) cut → IsOver old piece
over_in old cut piece goes takes = elim takes.2 [ inl same ↦ absurd (goes same.0) | inr over ↦ over.1 ]

taken_long : (known new : TakenLines) (old cut : CutterValue) (piece body : List ℕ)
    → IsRunning known → old.longest ≡ longest_of known → old.state ≢ TooLong → Takes old piece (Err faults.TooLong) cut
    → ((bytes : List ℕ) → longest_of known < length bytes → new ≡ next known bytes true)
    → TookBody known (begun old) body → TookBody new (begun cut) (body ++ piece)
taken_long known new old cut piece body runs same goes takes is t =
    let over = over_in old cut piece goes takes in
    let long : longest_of known < length (begun old ++ over.0) = subst (λ n. n < length (begun old ++ over.0)) same over.4 in
    let here = took_long known new (begun old) (begun cut) body over.0 over.1 runs t (line_back (begun old) over.0 over.3) long (is (begun old ++ over.0) long) in
    subst (λ p. TookBody new (begun cut) (body ++ p)) (sym over.2) here

pub long_stands : (known new : TakenLines) (state : ReadingState) (old cut : CutterValue) (piece body : List ℕ)
    → IsRunning known → old.longest ≡ longest_of known → old.state ≢ TooLong → Takes old piece (Err faults.TooLong) cut
    → ((bytes : List ℕ) → longest_of known < length bytes → Judges state (next known bytes true) new)
    → TookBody known (begun old) body → StandsBy (body_value new cut state) (body ++ piece)
long_stands known new states.OutOfMemory old cut piece body runs same goes takes judges t = inl refl
long_stands known new states.Running old cut piece body runs same goes takes judges t =
    inr (taken_long known new old cut piece body runs same goes takes (λ bytes long. (judges bytes long).0) t)
long_stands known new states.Faulty old cut piece body runs same goes takes judges t =
    inr (taken_long known new old cut piece body runs same goes takes (λ bytes long. (judges bytes long).0) t)

-- the reading runs on, or a line has a fault
pub state_after : (known new : TakenLines) (state : ReadingState) (cut : CutterValue) → Judges state known new → cut.state ≢ TooLong → HasState state new cut
state_after known new states.Running cut judges goes = (subst IsRunning (sym judges.0) judges.1, goes)
state_after known new states.Faulty cut judges goes = λ runs. judges.1 (subst IsRunning judges.0 runs)
state_after known new states.OutOfMemory cut judges goes = tt

-- a line that is too long has a fault
pub state_long : (known new : TakenLines) (state : ReadingState) (old cut : CutterValue) (piece : List ℕ) → old.longest ≡ longest_of known → old.state ≢ TooLong
    → Takes old piece (Err faults.TooLong) cut → ((bytes : List ℕ) → longest_of known < length bytes → Judges state (next known bytes true) new) → HasState state new cut
state_long known new states.OutOfMemory old cut piece same goes takes judges = tt
state_long known new states.Running old cut piece same goes takes judges =
    let over = over_in old cut piece goes takes in
    let long : longest_of known < length (begun old ++ over.0) = subst (λ n. n < length (begun old ++ over.0)) same over.4 in
    absurd (long_stops known (begun old ++ over.0) true long (judges (begun old ++ over.0) long).1)
state_long known new states.Faulty old cut piece same goes takes judges =
    let over = over_in old cut piece goes takes in
    let long : longest_of known < length (begun old ++ over.0) = subst (λ n. n < length (begun old ++ over.0)) same over.4 in
    let is = judges (begun old ++ over.0) long in
    λ runs. is.1 (subst IsRunning is.0 runs)

pub ended_goes : (old cut : CutterValue) (piece line : List ℕ) (n : ℕ) → Takes old piece (Ok n) cut → Some line ≡ line_in cut → cut.state ≢ TooLong
ended_goes old cut piece line n takes some = elim takes.3 [ inl e ↦ (λ is. cc (ap (λ (c : CutterValue). c.state) e.5, is)) | inr g ↦ cc (some, g.2) ]

-- ---- the invariant of a reader of a body

-- where no line has a fault the lines were taken
pub running_took : (known : TakenLines) (cutter : CutterValue) (state : ReadingState) (body : List ℕ) → state ≡ states.Running
    → StandsBy (body_value known cutter state) body → TookBody known (begun cutter) body
running_took known cutter states.Running body is (inl refused) = cc
running_took known cutter states.Running body is (inr took) = took
running_took known cutter states.Faulty body is stands = cc
running_took known cutter states.OutOfMemory body is stands = cc

pub running_state : (known : TakenLines) (cutter : CutterValue) (state : ReadingState) → state ≡ states.Running → HasState state known cutter → HasState states.Running known cutter
running_state known cutter state is has = subst (λ s. HasState s known cutter) is has

-- where one has, or memory was refused, no byte counts
pub faulty_stands : (known : TakenLines) (cutter : CutterValue) (state : ReadingState) (body more : List ℕ) → (state ≡ states.Faulty) ⊎ (state ≡ states.OutOfMemory)
    → HasState state known cutter → StandsBy (body_value known cutter state) body → StandsBy (body_value known cutter state) (body ++ more)
faulty_stands known cutter states.Running body more (inl is) has stands = cc
faulty_stands known cutter states.Running body more (inr is) has stands = cc
faulty_stands known cutter states.Faulty body more is has (inl refused) = cc
faulty_stands known cutter states.Faulty body more is has (inr took) = inr (took_stays known (begun cutter) (begun cutter) body more has took)
faulty_stands known cutter states.OutOfMemory body more is has stands = inl refl
