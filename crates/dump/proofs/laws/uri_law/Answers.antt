use Rattle.dump.proofs.Progresses.{sound_of}
use Rattle.dump.proofs.Uniques.{one_document}
use Rattle.dump.proofs.laws.uri_law.Goals as goal

pub returns : goal.returns
returns c = λ elements free. one_document elements (sound_of elements free)
