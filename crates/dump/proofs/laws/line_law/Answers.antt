use Rattle.dump.proofs.Lines.{one_line, vertex_line}
use Rattle.dump.proofs.Progresses.{sound_of}
use Rattle.dump.proofs.laws.line_law.Goals as goal

pub returns-clause-one : goal.returns-clause-one
returns-clause-one c = one_line

pub returns-clause-there : goal.returns-clause-there
returns-clause-there c = λ elements free. vertex_line elements (sound_of elements free)
