use Rattle.tags.proofs.LineLemmas.{lines_of-pieces}
use Rattle.tags.proofs.laws.lines_law.Goals as goal

pub returns : goal.returns
returns c = λ text pieces last h. rw h.2 (lines_of-pieces pieces last h.0 h.1)
