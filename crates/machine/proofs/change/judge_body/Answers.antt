use Rattle.std.specs.Prelude.{[]}
use Rattle.std.proofs.Common.{ap}
use Rattle.machine.specs.Judging.{judged}
use Rattle.machine.proofs.Saying.{same_answer}
use Rattle.machine.proofs.TakenLines.{same_action}
use Rattle.machine.proofs.change.judge_body.Goals as goal

pub returns : goal.returns
returns c =
    let body = c.args.body.now in
    let same = ap judged (same_action c.piece.new.self.lines c.args.reader.lines body c.piece.ensures.same) in
    same_answer c.finish.result _ _ (c.finish.ensures.said body (c.piece.ensures.stands [] c.requires)) same
