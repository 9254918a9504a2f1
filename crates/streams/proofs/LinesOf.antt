-- The lines of a text are the one list that cuts it.
use Rattle.std.proofs.Common.{◌≡◌, ◌≢◌, ◌∙◌, ℕ, ◌<◌, ◌==◌, List, [], ◌∷◌, ◌++◌, Bool, true, false, length, refl, ap, sym, inl, inr, append_assoc, arith, if◌then◌else◌}
use Rattle.std.specs.List.{AllByRecursion, flat_map}
use Rattle.std.proofs.lemmas.Bool.Decides.{nat_tests}
use Rattle.streams.specs.Lines.{line_feed, lines_of, onto_first, IsLine, ended, Cuts}

not_feed : (b : ℕ) → b ≢ line_feed → (b == line_feed) ≡ false
not_feed b h = grind (arith, nat_tests, h)

-- a line with its line feed is the first line
pub lines_of-feed : (line rest : List ℕ) → IsLine line → lines_of (line ++ line_feed ∷ rest) ≡ line ∷ lines_of rest
unfolding lines_of
lines_of-feed [] rest h = refl
lines_of-feed (b ∷ line) rest h = rw (not_feed b h.0, lines_of-feed line rest h.1) refl

-- a line alone is the only line
pub lines_of-last : (line : List ℕ) → IsLine line → 0 < length line → lines_of line ≡ line ∷ []
unfolding lines_of
lines_of-last [] h some = absurd (omega arith)
lines_of-last (b ∷ []) h some = rw (not_feed b h.0) refl
lines_of-last (b ∷ c ∷ line) h some = rw (not_feed b h.0) (ap (onto_first b) (lines_of-last (c ∷ line) h.1 (omega arith)))

onto_first-some : (b : ℕ) (lines : List (List ℕ)) → (more : List ℕ) × (others : List (List ℕ)) × (onto_first b lines ≡ (b ∷ more) ∷ others)
onto_first-some b [] = ([], [], refl)
onto_first-some b (line ∷ lines) = (line, lines, refl)

-- bytes with no line feed begin the first line
pub lines_of-front : (b : ℕ) (front rest : List ℕ) → IsLine (b ∷ front)
    → (more : List ℕ) × (others : List (List ℕ)) × (lines_of ((b ∷ front) ++ rest) ≡ ((b ∷ front) ++ more) ∷ others)
unfolding lines_of
lines_of-front b [] rest h =
    let first = onto_first-some b (lines_of rest) in
    (first.0, first.1, rw (not_feed b h.0) first.2)
lines_of-front b (c ∷ front) rest h =
    let first = lines_of-front c front rest h.1 in
    (first.0, first.1, rw (not_feed b h.0) (ap (onto_first b) first.2))

-- the text after a line feed is cut, and so the whole is
cuts_feed : (text : List ℕ) (lines : List (List ℕ)) → Cuts text lines → Cuts (line_feed ∷ text) ([] ∷ lines)
cuts_feed text lines c = (
  (tt, c.0),
  elim c.1 [
    | inl e ↦ inl (ap (λ t. line_feed ∷ t) e)
    | inr f ↦ inr ([] ∷ f.0, f.1, ap (λ ls. [] ∷ ls) f.2, f.3, ap (λ t. line_feed ∷ t) f.4)
  ],
)

not_empty : (front : List (List ℕ)) (last : List ℕ) → [] ≡ front ++ last ∷ [] → ⊥
not_empty [] last e = cc
not_empty (line ∷ front) last e = cc

-- a text of no line is empty
no_text : (text : List ℕ) → Cuts text [] → text ≡ []
no_text text c = elim c.1 [ inl e ↦ e | inr f ↦ absurd (not_empty f.0 f.1 f.2) ]

-- a byte before a text whose last line feed is missing
cuts_longer : (b : ℕ) (text : List ℕ) (line : List ℕ) (lines front : List (List ℕ)) (last : List ℕ)
    → line ∷ lines ≡ front ++ last ∷ [] → 0 < length last → text ≡ flat_map ended front ++ last
    → (front' : List (List ℕ)) × (last' : List ℕ)
    × ((b ∷ line) ∷ lines ≡ front' ++ last' ∷ []) × (0 < length last') × (b ∷ text ≡ flat_map ended front' ++ last')
cuts_longer b text line lines [] last e some is =
    let same : line ≡ last = cc in
    let none : lines ≡ [] = cc in
    ([], b ∷ line, ap (λ ls. (b ∷ line) ∷ ls) none, omega arith, ap (λ t. b ∷ t) (is ∙ sym same))
cuts_longer b text line lines (first ∷ front) last e some is =
    let same : line ≡ first = cc in
    let others : lines ≡ front ++ last ∷ [] = cc in
    ((b ∷ first) ∷ front, last, rw (same, others) refl, some, ap (λ t. b ∷ t) is)

cuts_byte : (b : ℕ) (text : List ℕ) (lines : List (List ℕ)) → b ≢ line_feed → Cuts text lines → Cuts (b ∷ text) (onto_first b lines)
cuts_byte b text [] h c =
    (((h, tt), tt), inr ([], b ∷ [], refl, omega arith, ap (λ t. b ∷ t) (no_text text c)))
cuts_byte b text (line ∷ lines) h c = (
  ((h, c.0.0), c.0.1),
  elim c.1 [
    | inl e ↦ inl (ap (λ t. b ∷ t) e)
    | inr f ↦ inr (cuts_longer b text line lines f.0 f.1 f.2 f.3 f.4)
  ],
)

cuts_step : (b : ℕ) (text : List ℕ) (lines : List (List ℕ)) (test : Bool) → (b == line_feed) ≡ test → Cuts text lines
    → Cuts (b ∷ text) (if test then [] ∷ lines else onto_first b lines)
cuts_step b text lines true is c =
    let feed : b ≡ line_feed = grind (arith, nat_tests, is) in
    rw feed (cuts_feed text lines c)
cuts_step b text lines false is c =
    let other : b ≢ line_feed = λ (e : b ≡ line_feed). grind (arith, nat_tests, is, e) in
    cuts_byte b text lines other c

-- a text is cut into its lines
pub cuts-lines_of : (text : List ℕ) → Cuts text (lines_of text)
unfolding lines_of
cuts-lines_of [] = (tt, inl refl)
cuts-lines_of (b ∷ text) = cuts_step b text (lines_of text) (b == line_feed) refl (cuts-lines_of text)

lines_of-ended : (lines : List (List ℕ)) → AllByRecursion IsLine lines → lines_of (flat_map ended lines) ≡ lines
unfolding lines_of
lines_of-ended [] h = refl
lines_of-ended (line ∷ lines) h =
    let regrouped : flat_map ended (line ∷ lines) ≡ line ++ (line_feed ∷ flat_map ended lines) = simp append_assoc in
    rw regrouped (lines_of-feed line (flat_map ended lines) h.0 ∙ ap (λ rest. line ∷ rest) (lines_of-ended lines h.1))

lines_of-open : (front : List (List ℕ)) (last : List ℕ) → AllByRecursion IsLine (front ++ last ∷ []) → 0 < length last
    → lines_of (flat_map ended front ++ last) ≡ front ++ last ∷ []
lines_of-open [] last h some = lines_of-last last h.0 some
lines_of-open (line ∷ front) last h some =
    let regrouped : flat_map ended (line ∷ front) ++ last ≡ line ++ (line_feed ∷ (flat_map ended front ++ last)) = simp append_assoc in
    rw regrouped (lines_of-feed line (flat_map ended front ++ last) h.0 ∙ ap (λ rest. line ∷ rest) (lines_of-open front last h.1 some))

-- what cuts a text is the list of its lines
pub lines_of-cuts : (text : List ℕ) (lines : List (List ℕ)) → Cuts text lines → lines ≡ lines_of text
lines_of-cuts text lines c =
    elim c.1 [
      | inl e ↦ sym (ap lines_of e ∙ lines_of-ended lines c.0)
      | inr f ↦
          let whole : AllByRecursion IsLine (f.0 ++ f.1 ∷ []) = rw f.2 at c.0 in
          f.2 ∙ sym (ap lines_of f.4 ∙ lines_of-open f.0 f.1 whole f.3)
    ]
