use Rattle.dump.proofs.OwnPlaces.{first_contents}
use Rattle.dump.proofs.Progresses.{sound_of}
use Rattle.dump.proofs.laws.hover_law.Goals as goal

pub returns : goal.returns
returns c = λ elements free x result first. first_contents elements (sound_of elements free) x result first
