use Rattle.std.proofs.Common.{rules, ◌≡◌, ◌≢◌, ◌∙◌, ℕ, ◌-◌, ◌<◌, ◌++◌, List, [], ◌∷◌, length, Bool, true, false, arith, refl, sym, append-nil, inr, length-append}
use Rattle.streams.specs.Pieces.{CutterValue, IsOver, begun, begun_by}
use Rattle.streams.specs.Lines.{IsLine, line_feed}
use Rattle.streams.specs.Steps.Cutting.{IsFirstPart}
use Rattle.streams.specs.declared.cutter.LineState.{LineState}
use Rattle.streams.specs.declared.cutter.LineState.TheVariants.{Open, Ended, TooLong}
use Rattle.streams.proofs.cutter.Cutter.take.Goals as goal
use Rattle.streams.proofs.cutter.Cutter.take.Goals.{in-Ended, in-Open}

line_append : (line part : List ℕ) → IsLine line → IsLine part → IsLine (line ++ part)
line_append [] part l p = p
line_append (b ∷ line) part l p = (l.0, line_append line part l.1 p)

begun_line : (state : LineState) (line : List ℕ) → IsLine line → IsLine (begun_by state line)
begun_line Open line l = l
begun_line Ended line l = tt
begun_line TooLong line l = tt

is_long : (old : CutterValue) (line part : List ℕ) → begun old ≡ line → old.longest - length line < length part → old.longest < length (begun old ++ part)
is_long old line part is long = rw is (simp length-append (omega arith))

is_over : (old : CutterValue) (line piece part : List ℕ) (has_feed : Bool) → begun old ≡ line → old.longest - length line < length part
    → IsLine (begun old) → IsFirstPart piece part has_feed → IsOver old piece
is_over old line piece part true is long begins first = (part, line_feed ∷ first.1.0, first.1.1, line_append (begun old) part begins first.0, is_long old line part is long)
is_over old line piece part false is long begins first = (part, [], sym (append-nil part ∙ first.1), line_append (begun old) part begins first.0, is_long old line part is long)

pub returns-then-part-self : goal.returns-then-part-self
returns-then-part-self c =
    let old = c.args.self.now in
    let longest : c.match-self.self-inside.longest ≡ old.longest = elim c.match-self.branch [ in-Ended w ↦ search rules | in-Open w ↦ search rules ] in
    let other : old.state ≢ TooLong = elim c.match-self.branch [ in-Ended w ↦ search rules | in-Open w ↦ search rules ] in
    let line : begun old ≡ c.match-self.self-inside.line.items = elim c.match-self.branch [ in-Ended w ↦ search rules | in-Open w ↦ search rules ] in
    let long : old.longest - length c.match-self.self-inside.line.items < length c.first_part-has_feed.result.0.now = search rules in
    let begins : IsLine (begun old) = rw (← c.self.view_is) (begun_line c.self.inside.state c.self.inside.line.items c.self.invariant.0) in
    (refl, longest, inr (other, is_over old _ c.args.piece.now c.first_part-has_feed.result.0.now c.first_part-has_feed.result.1 line long begins c.first_part-has_feed.ensures))
