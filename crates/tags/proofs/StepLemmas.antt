-- Where the steps of a reader stop, and what they leave.
use Rattle.std.proofs.Common.{◌≡◌, ◌∙◌, ℕ, ◌+◌, ◌<◌, zero, suc, List, [], ◌∷◌, ◌++◌, length, take, fold, Option, None, Some, Ok, Err, refl, ap, sym, append_assoc, append-nil, length-append, arith, slice_get}
use Rattle.tags.specs.Values.{ContentValue, TagValue}
use Rattle.tags.specs.declared.code.Code.{Code}
use Rattle.tags.specs.Fault.{Reading, contents, code_of, order_code, IsFaultless, IsFirstFault}
use Rattle.tags.specs.States.{State, running, stopped, Summary, add, next, advance, state_after}
use Rattle.tags.proofs.SummaryLemmas.{kept_of, summary_by, summary_by-push, order_code-summary, count-summary, start-summary}

-- line k of the rest has this code, where items come before the rest
abbrev pub CodeFrom : List ContentValue → List Reading → ℕ → Code → Type 0
CodeFrom items rest k c = (line : Reading) × (slice_get rest k ≡ Some line) × (code_of (items ++ contents (take k rest)) line ≡ Some c)

pub record FirstFrom (items : List ContentValue) (rest : List Reading) (k : ℕ) (c : Code) : Type 0 where
  pub code : CodeFrom items rest k c
  pub least : (j : ℕ) (b : Code) → j < k → CodeFrom items rest j b → ⊥

-- one line more in front
front_code : (items : List ContentValue) (x : ContentValue) (rest : List Reading) (k : ℕ) (c : Code) → CodeFrom (items ++ x ∷ []) rest k c → CodeFrom items (Ok x ∷ rest) (suc k) c
front_code items x rest k c h = (h.0, h.1, rw (append_assoc items (x ∷ []) (contents (take k rest))) at h.2)

code_front : (items : List ContentValue) (x : ContentValue) (rest : List Reading) (k : ℕ) (c : Code) → CodeFrom items (Ok x ∷ rest) (suc k) c → CodeFrom (items ++ x ∷ []) rest k c
code_front items x rest k c h = (h.0, h.1, rw (append_assoc items (x ∷ []) (contents (take k rest))) h.2)

abbrev pub Stops : List ContentValue → List Reading → ℕ → Code → Type 0
Stops items rest n c = (k : ℕ) × (n ≡ length items + k + 1) × FirstFrom items rest k c

none_here : (items : List ContentValue) (x : ContentValue) (rest : List Reading) (b : Code) → order_code items x ≡ None → CodeFrom items (Ok x ∷ rest) zero b → ⊥
none_here items x rest b e g =
    let found : code_of items g.0 ≡ Some b = rw append-nil at g.2 in
    let line : g.0 ≡ Ok x = cc in
    let two : order_code items x ≡ Some b = rw line at found in
    cc

least_later : (items : List ContentValue) (x : ContentValue) (rest : List Reading) (k : ℕ) (c : Code) → order_code items x ≡ None → FirstFrom (items ++ x ∷ []) rest k c → (j : ℕ) (b : Code) → j < suc k → CodeFrom items (Ok x ∷ rest) j b → ⊥
least_later items x rest k c e first zero b lt g = none_here items x rest b e g
least_later items x rest k c e first (suc j) b lt g = first.least j b (omega arith) (code_front items x rest j b g)

-- the first line has none
first_later : (items : List ContentValue) (x : ContentValue) (rest : List Reading) (n : ℕ) (c : Code) → order_code items x ≡ None → Stops (items ++ x ∷ []) rest n c → Stops items (Ok x ∷ rest) n c
first_later items x rest n c e h =
    let number : n ≡ length items + suc h.0 + 1 = omega (arith, h.1, length-append items (x ∷ [])) in (
      suc h.0,
      number,
      record {
        code = front_code items x rest h.0 c h.2.code;
        least = least_later items x rest h.0 c e h.2;
      },
    )

no_line : (k : ℕ) (line : Reading) → slice_get [] k ≡ Some line → ⊥
no_line zero line e = cc
no_line (suc k) line e = cc

good_later : (items : List ContentValue) (x : ContentValue) (rest : List Reading) → order_code items x ≡ None → ((k : ℕ) (c : Code) → CodeFrom (items ++ x ∷ []) rest k c → ⊥) → (k : ℕ) (c : Code) → CodeFrom items (Ok x ∷ rest) k c → ⊥
good_later items x rest e good zero c g = none_here items x rest c e g
good_later items x rest e good (suc k) c g = good k c (code_front items x rest k c g)

-- ---- whatever is kept of the tags

-- what is true of lines that don't stop
pub record Passes {K : Type 0} (keep : K → TagValue → K) (none : K) (items : List ContentValue) (rest : List Reading) (s : Summary K) : Type 0 where
  pub summary : s ≡ summary_by keep none (items ++ contents rest)
  pub good : (k : ℕ) (c : Code) → CodeFrom items rest k c → ⊥

module _ {K : Type 0} (keep : K → TagValue → K) (none : K) where
  pub stays : (rest : List Reading) (n : ℕ) (c : Code) → fold (next keep) (stopped n c) rest ≡ stopped n c
  stays [] n c = refl
  stays (line ∷ rest) n c = stays rest n c

  -- the lines from a summary on
  abbrev pub after : List ContentValue → List Reading → State K
  after items rest = fold (next keep) (running (summary_by keep none items)) rest

  -- the first line has the code
  first_here : (items : List ContentValue) (line : Reading) (rest : List Reading) (n : ℕ) (b c : Code) → code_of items line ≡ Some b → fold (next keep) (stopped (length items + 1) b) rest ≡ stopped n c → Stops items (line ∷ rest) n c
  first_here items line rest n b c e h =
      let same : ◌≡◌ {A = State K} (stopped (length items + 1) b) (stopped n c) = sym (stays rest (length items + 1) b) ∙ h in
      let code : b ≡ c = cc in
      let number : length items + 1 ≡ n = cc in
      let here : code_of (items ++ []) line ≡ Some c = rw append-nil (e ∙ ap Some code) in
      (0, omega arith, record { code = (line, refl, here); least = λ j d lt g. absurd (omega arith) })

  -- a step over a line that says x
  after_ok : (items : List ContentValue) (x : ContentValue) (rest : List Reading) → after items (Ok x ∷ rest) ≡ fold (next keep) (advance keep (summary_by keep none items) x (order_code items x)) rest
  after_ok items x rest = ap (λ o. fold (next keep) (advance keep (summary_by keep none items) x o) rest) (sym (order_code-summary (kept_of keep none items) items x))

  pushed : (items : List ContentValue) (x : ContentValue) (rest : List Reading) → fold (next keep) (running (add keep (summary_by keep none items) x)) rest ≡ after (items ++ x ∷ []) rest
  pushed items x rest = ap (λ s. fold (next keep) (running s) rest) (sym (summary_by-push keep none items x))

  numbered_stop : (items : List ContentValue) (b : Code) (rest : List Reading) → fold (next keep) (stopped ((summary_by keep none items).count + 1) b) rest ≡ fold (next keep) (stopped (length items + 1) b) rest
  numbered_stop items b rest = ap (λ n. fold (next keep) (stopped (n + 1) b) rest) (count-summary (kept_of keep none items) items)

  first_ok : (items : List ContentValue) (x : ContentValue) (rest : List Reading) (n : ℕ) (c : Code) (o : Option Code) → order_code items x ≡ o
      → (after (items ++ x ∷ []) rest ≡ stopped n c → Stops (items ++ x ∷ []) rest n c)
      → fold (next keep) (advance keep (summary_by keep none items) x o) rest ≡ stopped n c → Stops items (Ok x ∷ rest) n c
  first_ok items x rest n c None e ih h = first_later items x rest n c e (ih (sym (pushed items x rest) ∙ h))
  first_ok items x rest n c (Some b) e ih h = first_here items (Ok x) rest n b c e (sym (numbered_stop items b rest) ∙ h)

  pub first_from : (rest : List Reading) (items : List ContentValue) (n : ℕ) (c : Code) → after items rest ≡ stopped n c → Stops items rest n c
  first_from [] items n c h = cc
  first_from (Err b ∷ rest) items n c h = first_here items (Err b) rest n b c refl (sym (numbered_stop items b rest) ∙ h)
  first_from (Ok x ∷ rest) items n c h = first_ok items x rest n c (order_code items x) refl (first_from rest (items ++ x ∷ []) n c) (sym (after_ok items x rest) ∙ h)

  never_runs : (rest : List Reading) (n : ℕ) (b : Code) (s : Summary K) → fold (next keep) (stopped n b) rest ≡ running s → ⊥
  never_runs rest n b s h = let no : ◌≡◌ {A = State K} (stopped n b) (running s) = sym (stays rest n b) ∙ h in cc

  passes_ok : (items : List ContentValue) (x : ContentValue) (rest : List Reading) (s : Summary K) (o : Option Code) → order_code items x ≡ o
      → (after (items ++ x ∷ []) rest ≡ running s → Passes keep none (items ++ x ∷ []) rest s)
      → fold (next keep) (advance keep (summary_by keep none items) x o) rest ≡ running s → Passes keep none items (Ok x ∷ rest) s
  passes_ok items x rest s None e ih h =
      let later : Passes keep none (items ++ x ∷ []) rest s = ih (sym (pushed items x rest) ∙ h) in
      record {
        summary = later.summary ∙ ap (summary_by keep none) (append_assoc items (x ∷ []) (contents rest));
        good = good_later items x rest e later.good;
      }
  passes_ok items x rest s (Some b) e ih h = absurd (never_runs rest _ b s h)

  pub passes_from : (rest : List Reading) (items : List ContentValue) (s : Summary K) → after items rest ≡ running s → Passes keep none items rest s
  passes_from [] items s h =
      let same : summary_by keep none items ≡ s = cc in
      record {
        summary = rw (append-nil items) (sym same);
        good = λ k c g. no_line k g.0 g.1;
      }
  passes_from (Err b ∷ rest) items s h = absurd (never_runs rest _ b s h)
  passes_from (Ok x ∷ rest) items s h = passes_ok items x rest s (order_code items x) refl (passes_from rest (items ++ x ∷ []) s) (sym (after_ok items x rest) ∙ h)

  from_start : (lines : List Reading) → after [] lines ≡ state_after keep none lines
  from_start lines = ap (λ state. fold (next keep) state lines) (sym (start-summary keep none))

  pub stops_at : (lines : List Reading) (n : ℕ) (c : Code) → state_after keep none lines ≡ stopped n c → (k : ℕ) × (n ≡ k + 1) × IsFirstFault lines k c
  stops_at lines n c h =
      let first = first_from lines [] n c (from_start lines ∙ h) in
      (first.0, omega (arith, first.1), record { code = first.2.code; least = λ j j_lt b g. first.2.least j b j_lt g })

  pub passes_all : (lines : List Reading) (s : Summary K) → state_after keep none lines ≡ running s → IsFaultless lines × (s ≡ summary_by keep none (contents lines))
  passes_all lines s h = let passes = passes_from lines [] s (from_start lines ∙ h) in (passes.good, passes.summary)
