use Rattle.dump.proofs.Known.{is_in_container}
use Rattle.dump.proofs.Progresses.{sound_of}
use Rattle.dump.proofs.laws.container_law.Goals as goal

pub returns : goal.returns
returns c = λ elements free d r. is_in_container elements (sound_of elements free) d r
