use Rattle.std.proofs.Common.{rules}
use Rattle.desk.proofs.MemoryStates.{clear_faultless}
use Rattle.desk.proofs.memory_index.MemoryIndexIndex.remove.Goals as goal

pub returns-clause-changes : goal.returns-clause-changes
returns-clause-changes c = λ _ m stands new. (record { state = (search rules, clear_faultless m c.args.project.now c.args.key.now stands.1); left = tt }, tt)
