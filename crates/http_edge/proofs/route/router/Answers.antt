use Rattle.http_edge.specs.Routes.{all_routes}
use Rattle.http_edge.proofs.Paths.{started, turned}
use Rattle.http_edge.proofs.route.router.Goals as goal

pub loop-route-init : goal.loop-route-init
loop-route-init c = started c.new-router.result c.new-router.ensures

pub loop-route-preserved : goal.loop-route-preserved
loop-route-preserved c =
    turned all_routes c.loop-route.route-index _ c.loop-route.router _ _ c.loop-route-test.true (rw c.template.ensures at c.in_ok-insert.ensures) c.loop-route.invariant
