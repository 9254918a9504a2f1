use Rattle.streams.proofs.LinesOf.{cuts-lines_of, lines_of-cuts}
use Rattle.streams.proofs.lines.lines_law.Goals as goal

pub returns-clause-cut : goal.returns-clause-cut
returns-clause-cut c = cuts-lines_of

pub returns-clause-only : goal.returns-clause-only
returns-clause-only c = lines_of-cuts
