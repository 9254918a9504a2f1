use Rattle.http_edge.proofs.Paths.{route_form, form_route}
use Rattle.http_edge.proofs.route.route_law.Goals as goal

pub returns : goal.returns
returns c = λ path route project. (route_form path route project, form_route path route project)
