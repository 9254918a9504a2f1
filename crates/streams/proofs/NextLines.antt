-- What was taken of the bytes, in the words of the lines of a text.
use Rattle.std.proofs.Common.{◌≡◌, ◌∙◌, ℕ, ◌<◌, List, [], ◌∷◌, ◌++◌, Option, Some, None, Result, Ok, Err, Bool, true, false, length, refl, ap, sym, inr, arith, length-append}
use Rattle.streams.specs.Lines.{Reader, lines_of, IsLine, BeginsWith, GivesLine, GivesNone, HasLongLine, NextLine}
use Rattle.streams.specs.Steps.Cutting.{CutsKnown, TakesKnown, BeginsLong, NextTaken}
use Rattle.streams.specs.declared.lines.LinesFault.{LinesFault}
use Rattle.streams.specs.declared.lines.LinesFault.TheVariants.{Memory, TooLong, Read}
use Rattle.streams.proofs.LinesOf.{lines_of-feed, lines_of-last, lines_of-front}

no_lines : lines_of [] ≡ []
unfolding lines_of
no_lines = refl

lines_of-begins : (text line : List ℕ) (has_feed : Bool) (rest : List ℕ) → IsLine line → BeginsWith text line has_feed rest
    → lines_of text ≡ line ∷ lines_of rest
lines_of-begins text line true rest h b = ap lines_of b ∙ lines_of-feed line rest h
lines_of-begins text line false rest h b =
    ap lines_of b.1 ∙ lines_of-last line h b.0 ∙ ap (λ ls. line ∷ ls) (sym (ap lines_of b.2 ∙ no_lines))

gives_line : (old : Option (List ℕ)) (line : List ℕ) (has_feed : Bool) (new : Option (List ℕ)) → TakesKnown old line has_feed new → GivesLine old line has_feed new
gives_line None line has_feed new t = tt
gives_line (Some text) line has_feed new t =
    (t.0, t.1, lines_of-begins text line has_feed t.0 t.2 t.3, t.2, t.3)

pub gives_none : (old : Option (List ℕ)) (line : List ℕ) (new : Option (List ℕ)) → CutsKnown old line None new → GivesNone old new
gives_none None line new c = tt
gives_none (Some text) line new c = (ap lines_of c.0 ∙ no_lines, c.1)

long_line : (longest : ℕ) (text front rest : List ℕ) → text ≡ front ++ rest → IsLine front → longest < length front
    → HasLongLine longest (Some text)
long_line longest text [] rest e none long = absurd (omega arith)
long_line longest text (b ∷ front) rest e none long =
    let first = lines_of-front b front rest none in
    ((b ∷ front) ++ first.0, first.1, ap lines_of e ∙ first.2, simp length-append (omega arith))

has_long_line : (longest : ℕ) (left : Option (List ℕ)) → BeginsLong longest left → HasLongLine longest left
has_long_line longest None b = tt
has_long_line longest (Some text) b = long_line longest text b.0 b.1 b.2 b.3 b.4

pub next_line : (old : Reader) (result : Result (Option (List ℕ)) LinesFault) (new : Reader) → old.fault ≡ None
    → NextTaken old result new → NextLine old result new
next_line old (Ok (Some line)) new none n = (none, n.0, n.1, n.2, n.3, gives_line old.left line new.has_feed new.left n.4)
next_line old (Ok None) new none n = (none, n.0, n.1, n.2, n.3)
next_line old (Err Memory) new none n = absurd n.2
next_line old (Err TooLong) new none n = (λ e. cc, n.0, inr (none, n.1, (n.2.0, has_long_line old.longest old.left n.2.1)))
next_line old (Err Read) new none n = (λ e. cc, n.0, inr (none, n.1, n.2))
