use Rattle.tables.proofs.tables.Tables.replace_dump.Goals.{in-Ok, in-Err}
use Rattle.tables.proofs.tables.Tables.replace_dump.Goals as goal

pub returns-clause-same : goal.returns-clause-same
returns-clause-same g c clean up m dump is of new = elim c.match-commit_dump.branch [
  | in-Ok w ↦ rw w.result-is tt
  | in-Err w ↦
      let same = rw (w.in-Err.is) at (c.commit_dump.ensures.same clean up m dump (rw (c.self.view_is) is) of new) in
      rw (w.result-is) (rw (c.self.view_is) at same)
]

pub returns-clause-crash : goal.returns-clause-crash
returns-clause-crash g c m dump is of new = rw (c.self.view_is) at (c.commit_dump.ensures.crash m dump (rw (c.self.view_is) is) of new)
