use Rattle.std.proofs.Common.{◌≡◌, ◌++◌, rules, refl, true, sym, subst, Some, Err}
use Rattle.std.proofs.Math.Seq.{take-length}
use Rattle.streams.specs.Pieces.{Takes, line_in}
use Rattle.streams.specs.declared.lines.LinesFault.TheVariants as faults
use Rattle.machine.specs.Steps.Uploads.{StandsBy, body_value, next, taken}
use Rattle.machine.proofs.TakenLines.{ended_goes, ended_stands, long_stands, state_after, state_long, too_long}
use Rattle.machine.proofs.upload.take_line.Goals as goal

pub returns-in-Some-clause-stands : goal.returns-in-Some-clause-stands
returns-in-Some-clause-stands c = λ body took.
    let some : Some c.in-Some.line.now ≡ line_in c.take.new.self = search rules in
    ended_stands (taken c.args.lines.now) _ c.feed.result c.args.cutter.now c.take.new.self c.args.piece.now c.in-Some.line.now body c.in-Ok.count
    c.requires.running.0 c.in-Ok.ensures some (c.feed.ensures.judged c.in-Some.line.now refl) took

pub returns-in-Some-clause-state : goal.returns-in-Some-clause-state
returns-in-Some-clause-state c =
    let some : Some c.in-Some.line.now ≡ line_in c.take.new.self = search rules in
    state_after (next (taken c.args.lines.now) c.in-Some.line.now true) _ c.feed.result c.take.new.self (c.feed.ensures.judged c.in-Some.line.now refl)
    (ended_goes c.args.cutter.now c.take.new.self c.args.piece.now c.in-Some.line.now c.in-Ok.count c.in-Ok.ensures some)

pub returns-in-Err-clause-stands : goal.returns-in-Err-clause-stands
returns-in-Err-clause-stands c = λ body took.
    let takes : Takes c.args.cutter.now c.args.piece.now (Err faults.TooLong) c.take.new.self =
    too_long c.in-Err.field-0 c.args.cutter.now c.take.new.self c.args.piece.now c.in-Err.ensures in
    subst (λ p. StandsBy (body_value (taken c.feed-in-Err.new.self) c.take.new.self c.feed-in-Err.result) (body ++ p)) (sym (take-length c.args.piece.now))
    (long_stands (taken c.args.lines.now) _ c.feed-in-Err.result c.args.cutter.now c.take.new.self c.args.piece.now body
    c.requires.running.0 c.requires.longest c.requires.running.1 takes (λ bytes long. c.feed-in-Err.ensures.judged bytes long) took)

pub returns-in-Err-clause-state : goal.returns-in-Err-clause-state
returns-in-Err-clause-state c =
    let takes : Takes c.args.cutter.now c.args.piece.now (Err faults.TooLong) c.take.new.self =
    too_long c.in-Err.field-0 c.args.cutter.now c.take.new.self c.args.piece.now c.in-Err.ensures in
    state_long (taken c.args.lines.now) _ c.feed-in-Err.result c.args.cutter.now c.take.new.self c.args.piece.now c.requires.longest c.requires.running.1
    takes (λ bytes long. c.feed-in-Err.ensures.judged bytes long)
