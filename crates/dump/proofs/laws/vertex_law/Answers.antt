use Rattle.dump.proofs.Progresses.{sound_of}
use Rattle.dump.proofs.Uniques.{vertex_is}
use Rattle.dump.proofs.laws.vertex_law.Goals as goal

pub returns : goal.returns
returns c = λ elements free. vertex_is elements (sound_of elements free)
