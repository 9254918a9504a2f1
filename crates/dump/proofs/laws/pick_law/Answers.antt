use Rattle.dump.proofs.OnePicks.{one_result, one_cover, one_pick}
use Rattle.dump.proofs.laws.pick_law.Goals as goal

pub returns-clause-first : goal.returns-clause-first
returns-clause-first c = one_result

pub returns-clause-cover : goal.returns-clause-cover
returns-clause-cover c = one_cover

pub returns-clause-pick : goal.returns-clause-pick
returns-clause-pick c = one_pick
