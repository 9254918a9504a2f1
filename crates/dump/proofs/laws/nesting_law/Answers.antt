use Rattle.dump.proofs.Nests.{nested}
use Rattle.dump.proofs.Progresses.{sound_of}
use Rattle.dump.proofs.laws.nesting_law.Goals as goal

pub returns : goal.returns
returns c = λ elements free. nested elements (sound_of elements free)
