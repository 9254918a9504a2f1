use Rattle.std.proofs.Common.{◌++◌, take, sym, ap, ◌∙◌, arith}
use Rattle.std.proofs.Math.Seq.{drop-nil}
use Rattle.std.proofs.lemmas.List.{take-append-drop, length-take-le}
use Rattle.http_edge.proofs.reading.next_piece.Goals as goal

pub returns-in-Ok-clause-piece : goal.returns-in-Ok-clause-piece
returns-in-Ok-clause-piece g c =
    let read = c.in-Ok.ensures.read in
    let taken = c.take_piece.ensures in
    let count = c.take_piece.result in
    let pending = c.refill.new.buffer.pending in (
      read.0,
      take count pending,
      read.1,
      sym read.2 ∙ sym (take-append-drop count pending) ∙ ap (λ l. take count pending ++ l) (sym taken.pending),
      length-take-le count pending taken.fits,
      taken.within,
      λ none.
          let empty = taken.some none (λ e. absurd (omega (arith, e, c.requires.most))) in
          (read.3 empty, taken.pending ∙ (rw empty (drop-nil count))),
      taken.asked,
      taken.known,
    )
