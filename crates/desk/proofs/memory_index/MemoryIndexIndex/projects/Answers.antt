use Rattle.std.proofs.Common.{sym, subst}
use Rattle.machine.specs.Selections.{FindsProjects}
use Rattle.desk.proofs.ProjectLists.{listing}
use Rattle.desk.proofs.memory_index.MemoryIndexIndex.projects.Goals as goal

pub returns-clause-found : goal.returns-clause-found
returns-clause-found c =
    λ _ m stands. subst (FindsProjects m) (sym c.in_ok-list_projects.ensures.found) (listing c.args.self.now.projects m stands.0 c.in_ok-list_projects.ensures.ordered)
