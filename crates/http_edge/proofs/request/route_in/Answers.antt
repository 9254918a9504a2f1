use Rattle.std.proofs.Common.{◌∙◌}
use Rattle.http_edge.proofs.RequestLemmas.{text_route, no_text_route}
use Rattle.http_edge.proofs.request.route_in.Goals as goal

pub returns-in-Ok : goal.returns-in-Ok
returns-in-Ok c = (rw c.in-Ok.ensures.cases.0 at c.find_route.ensures) ∙ text_route c.args.path.now c.in-Ok.ensures.cases.1

pub returns-in-Err : goal.returns-in-Err
returns-in-Err c = no_text_route c.args.path.now c.in-Err.ensures.cases.0
