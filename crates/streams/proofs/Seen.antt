-- How many lines were seen of a text.
use Rattle.std.proofs.Common.{◌≡◌, ◌∙◌, ℕ, ◌+◌, Bool, List, [], ◌∷◌, ◌++◌, Option, Some, None, length, refl, ap, sym, arith, length-append, append_assoc}
use Rattle.streams.specs.Lines.{lines_of, GivesLine}

-- known lines are this many and then those that are left
abbrev pub Seen : Option (List ℕ) → ℕ → Option (List ℕ) → Type 0
Seen None n left = Unit {0}
Seen (Some text) n left =
    (seen : List (List ℕ)) × (rest : List ℕ) × (left ≡ Some rest) × (length seen ≡ n) × (lines_of text ≡ seen ++ lines_of rest)

pub seen_none : (text : Option (List ℕ)) → Seen text 0 text
seen_none None = tt
seen_none (Some text) = ([], text, refl, refl, refl)

pub seen_more : (text : Option (List ℕ)) (n : ℕ) (old : Option (List ℕ)) (line : List ℕ) (has_feed : Bool) (new : Option (List ℕ))
    → Seen text n old → GivesLine old line has_feed new → Seen text (n + 1) new
seen_more None n old line has_feed new s gives = tt
seen_more (Some text) n None line has_feed new s gives = cc (s.2)
seen_more (Some text) n (Some left) line has_feed new s gives =
    let same : left ≡ s.1 = cc (s.2) in
    let grown : lines_of text ≡ (s.0 ++ line ∷ []) ++ lines_of gives.0 =
    s.4 ∙ ap (λ t. s.0 ++ lines_of t) (sym same) ∙ ap (λ ls. s.0 ++ ls) gives.2
    ∙ sym (append_assoc s.0 (line ∷ []) (lines_of gives.0)) in
    (s.0 ++ line ∷ [], gives.0, gives.1, simp length-append (omega (arith, s.3)), grown)
