use Rattle.std.proofs.Common.{◌≡◌, ◌∙◌, ◌==◌, [], true, false, fold, length, Ok, sym, ap}
use Rattle.std.proofs.lemmas.Result.{err_from_is_err_and}
use Rattle.tags.specs.Steps.Readings.{handed, readings_of}
use Rattle.tags.specs.States.{listed, next}
use Rattle.tags.proofs.ConditionLemmas.{reads_handed}
use Rattle.tags.proofs.LineLemmas.{readings_of-line, readings_of-last, readings_of-end, after_line, fault_answers, finish_answers, text_answers}
use Rattle.tags.proofs.reader.read_tags.Goals as goal
use Rattle.tags.proofs.reader.read_tags.Goals.{then-not-is_empty+in_ok-feed-2, else-not-is_empty}

pub returns-in_err-feed : goal.returns-in_err-feed
returns-in_err-feed c =
    let line = readings_of-line c.loop-line.rest.now c.in-Some.line.now c.in-Some.more.now (sym c.in-Some.ensures.value) in
    let p = err_from_is_err_and c.from_residual.result c.from_residual.ensures.1 in
    text_answers _ c.args.text.now (rw (p.1, p.2) (fault_answers c.in_err-feed.field-0.0 c.loop-line.reader c.feed.new.self (handed (Ok c.in-Some.line.now) true) (readings_of c.in-Some.more.now) (readings_of c.args.text.now) (c.in_err-feed.ensures (handed (Ok c.in-Some.line.now) true) (reads_handed (Ok c.in-Some.line.now) true)) (ap (fold (next listed) c.loop-line.reader) (sym line) ∙ c.loop-line.invariant)))

pub loop-line-preserved : goal.loop-line-preserved
loop-line-preserved c =
    let line = readings_of-line c.loop-line.rest.now c.in-Some.line.now c.in-Some.more.now (sym c.in-Some.ensures.value) in
    after_line c.loop-line.reader c.feed.new.self (handed (Ok c.in-Some.line.now) true) (readings_of c.in-Some.more.now) (readings_of c.args.text.now) (c.in_ok-feed.ensures (handed (Ok c.in-Some.line.now) true) (reads_handed (Ok c.in-Some.line.now) true)) (ap (fold (next listed) c.loop-line.reader) (sym line) ∙ c.loop-line.invariant)

pub returns-in_err-feed-2 : goal.returns-in_err-feed-2
returns-in_err-feed-2 c =
    let full : (length c.loop-line.rest.now == 0) ≡ false = sym c.is_empty.ensures ∙ c.if-not-is_empty.true in
    let last = readings_of-last c.loop-line.rest.now (sym c.in_default.ensures.value) full in
    let p = err_from_is_err_and c.from_residual-in_err-feed-2.result c.from_residual-in_err-feed-2.ensures.1 in
    text_answers _ c.args.text.now (rw (p.1, p.2) (fault_answers c.in_err-feed-2.field-0.0 c.loop-line.reader c.feed-then-not-is_empty.new.self (handed (Ok c.loop-line.rest.now) false) [] (readings_of c.args.text.now) (c.in_err-feed-2.ensures (handed (Ok c.loop-line.rest.now) false) (reads_handed (Ok c.loop-line.rest.now) false)) (ap (fold (next listed) c.loop-line.reader) (sym last) ∙ c.loop-line.invariant)))

pub returns : goal.returns
returns c =
    elim c.if-not-is_empty.branch [
      | then-not-is_empty+in_ok-feed-2 w ↦
          let full : (length c.loop-line.rest.now == 0) ≡ false = sym c.is_empty.ensures ∙ w.if-not-is_empty.true in
          let last = readings_of-last c.loop-line.rest.now (sym c.in_default.ensures.value) full in
          text_answers _ c.args.text.now (finish_answers (λ tags. tags.items) c.finish.result c.if-not-is_empty.reader (readings_of c.args.text.now) c.finish.ensures
          (w.reader-is ∙ after_line c.loop-line.reader w.feed-then-not-is_empty.new.self (handed (Ok c.loop-line.rest.now) false) [] (readings_of c.args.text.now) (w.in_ok-feed-2.ensures (handed (Ok c.loop-line.rest.now) false) (reads_handed (Ok c.loop-line.rest.now) false)) (ap (fold (next listed) c.loop-line.reader) (sym last) ∙ c.loop-line.invariant)))
      | else-not-is_empty w ↦
          let empty : (length c.loop-line.rest.now == 0) ≡ true = sym c.is_empty.ensures ∙ w.if-not-is_empty.false in
          let no_line = readings_of-end c.loop-line.rest.now (sym c.in_default.ensures.value) empty in
          text_answers _ c.args.text.now (finish_answers (λ tags. tags.items) c.finish.result c.if-not-is_empty.reader (readings_of c.args.text.now) c.finish.ensures
          (w.reader-is ∙ ap (fold (next listed) c.loop-line.reader) (sym no_line) ∙ c.loop-line.invariant))
    ]
