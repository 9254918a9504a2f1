use Rattle.machine.proofs.OneReplies.{one_reply}
use Rattle.machine.proofs.laws.answer_law.Goals as goal

pub returns : goal.returns
returns c = one_reply c.pick_law.ensures.first c.pick_law.ensures.pick
