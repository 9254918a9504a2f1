use Rattle.machine.proofs.EachReplies.{has_reply}
use Rattle.machine.proofs.Indexed.{is_index}
use Rattle.machine.proofs.laws.reply_law.Goals as goal

pub returns-clause-index : goal.returns-clause-index
returns-clause-index c = is_index c.judgement_law.ensures.dump c.judgement_law.ensures.tags

pub returns-clause-reply : goal.returns-clause-reply
returns-clause-reply c = has_reply
