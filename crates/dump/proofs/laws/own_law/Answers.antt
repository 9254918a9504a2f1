use Rattle.dump.proofs.OwnPlaces.{own_places}
use Rattle.dump.proofs.Progresses.{sound_of}
use Rattle.dump.proofs.laws.own_law.Goals as goal

pub returns : goal.returns
returns c = λ elements free request other x result first in_roles place. own_places elements (sound_of elements free) request other x result first in_roles place
