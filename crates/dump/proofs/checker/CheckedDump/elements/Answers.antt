use Rattle.dump.proofs.Progresses.{faultless}
use Rattle.dump.proofs.checker.CheckedDump.elements.Goals as goal

pub returns-clause-faultless : goal.returns-clause-faultless
returns-clause-faultless c = rw (← c.self.view_is) (faultless c.self.inside.graph c.self.invariant.1 c.self.invariant.2)
