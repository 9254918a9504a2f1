use Rattle.std.proofs.Common.{◌≡◌, drop}
use Rattle.http_edge.specs.Steps.Routes.{routes, with_routes}
use Rattle.http_edge.proofs.route.router.Given as goal

abbrev pub invariant-loop-route : goal.invariant-loop-route
invariant-loop-route l = with_routes (drop l.route-index l.route-items) l.router ≡ routes
