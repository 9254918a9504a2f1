use Rattle.std.proofs.Common.{◌≡◌, ◌++◌, map}
use Rattle.machine.specs.Found.{project_found}
use Rattle.desk.specs.Steps.Listed.{projects_of}
use Rattle.desk.proofs.listed.list_projects.Given as goal

abbrev pub invariant-loop-name : goal.invariant-loop-name
invariant-loop-name l = map project_found l.found.items ++ projects_of l.name-iterator ≡ projects_of l.projects.entries
