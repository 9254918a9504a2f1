use Rattle.std.proofs.Common.{rules, ◌≡◌, ◌≢◌, ◌++◌, ◌∙◌, sym, List, ℕ, Ok, Err, subst, None}
use Rattle.streams.specs.Buffered.{unread}
use Rattle.streams.specs.Pieces.{begun, line_in, Takes}
use Rattle.streams.proofs.CutLines.{cuts_fault, cuts_feed, cuts_last, some_line, no_line}
use Rattle.streams.proofs.lines.cut_line.Goals as goal

pub returns-in_err-taken-clause-cut : goal.returns-in_err-taken-clause-cut
returns-in_err-taken-clause-cut g c =
    let first = begun c.args.cutter.now ++ c.args.buffer.now.pending in
    let pending = c.filling.buffer.pending in
    let fault = c.in_err-taken.field-0.0 in
    let takes = subst (λ (p : List ℕ). Takes c.filling.cutter p (Err fault) c.take.new.self) c.pending.ensures.bytes c.in_err-taken.ensures in
    let left = g.S.Source.left c.filling.source in
    let more = unread (begun c.take.new.self ++ pending) left in
    let result : c.from_residual.result ≡ Err fault = search rules in
    let before = c.filling.invariant in
    rw result (cuts_fault first (g.S.Source.left c.args.source.now) c.filling.cutter c.take.new.self pending left more fault before.unread before.goes_on takes)

pub returns-then-is_some-clause-cut : goal.returns-then-is_some-clause-cut
returns-then-is_some-clause-cut g c =
    let first = begun c.args.cutter.now ++ c.args.buffer.now.pending in
    let pending = c.filling.buffer.pending in
    let n = c.in_ok-taken.taken in
    let takes = subst (λ (p : List ℕ). Takes c.filling.cutter p (Ok n) c.take.new.self) c.pending.ensures.bytes c.in_ok-taken.ensures in
    let some : line_in c.take.new.self ≢ None =
    some_line c.line.result (line_in c.take.new.self) (sym c.is_some.ensures ∙ c.if-is_some.true) c.line.ensures.value in
    let left = g.S.Source.left c.filling.source in
    let cut = cuts_feed first (g.S.Source.left c.args.source.now) c.filling.cutter c.take.new.self pending n left c.filling.invariant.unread takes some in
    rw c.advance.ensures.pending cut

pub returns-then-end-clause-cut : goal.returns-then-end-clause-cut
returns-then-end-clause-cut g c =
    let first = begun c.args.cutter.now ++ c.args.buffer.now.pending in
    let pending = c.filling.buffer.pending in
    let n = c.in_ok-taken.taken in
    let takes = subst (λ (p : List ℕ). Takes c.filling.cutter p (Ok n) c.take.new.self) c.pending.ensures.bytes c.in_ok-taken.ensures in
    let none : line_in c.take.new.self ≡ None =
    no_line c.line.result (line_in c.take.new.self) (sym c.is_some.ensures ∙ c.if-is_some.false) c.line.ensures.value in
    let left = g.S.Source.left c.filling.source in
    let fill = c.in-Ok-eq0 in
    cuts_last first (g.S.Source.left c.args.source.now) c.filling.cutter c.take.new.self c.end.new.self pending c.advance.new.self.pending
    c.fill.new.self.pending n fill.field-0 left (g.S.Source.left c.fill.new.source) c.filling.invariant.unread takes none
    c.advance.ensures.pending fill.ensures.bytes fill.field-0-test c.if-end.ensures
