use Rattle.dump.proofs.Lines.{end_vertex}
use Rattle.dump.proofs.Progresses.{sound_of}
use Rattle.dump.proofs.laws.ends_law.Goals as goal

pub returns : goal.returns
returns c = λ elements free. end_vertex elements (sound_of elements free)
