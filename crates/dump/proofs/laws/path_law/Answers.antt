use Rattle.dump.proofs.Paths.{tested}
use Rattle.dump.proofs.laws.path_law.Goals as goal

pub returns : goal.returns
returns c = tested
