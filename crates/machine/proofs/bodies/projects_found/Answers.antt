use Rattle.std.proofs.Common.{◌∙◌, ap, map}
use Rattle.serde_json.specs.Written.{has_float}
use Rattle.machine.specs.Found.{project_found}
use Rattle.machine.proofs.Floats.{projects_without}
use Rattle.machine.proofs.bodies.projects_found.Goals as goal

pub written-requires : goal.written-requires
written-requires c = ap has_float c.in_ok-body.ensures ∙ projects_without (map project_found c.args.projects.now)
