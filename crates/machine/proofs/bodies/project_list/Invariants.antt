use Rattle.std.proofs.Common.{◌≡◌, ◌++◌, map, drop}
use Rattle.serde_json.specs.View.{view}
use Rattle.machine.specs.Found.{project_found}
use Rattle.machine.specs.Reply.{project_data}
use Rattle.machine.proofs.bodies.project_list.Given as goal

abbrev pub invariant-loop-found : goal.invariant-loop-found
invariant-loop-found l =
    map view l.list.items ++ map project_data (map project_found (drop l.found-index l.projects)) ≡ map project_data (map project_found l.projects)
