use Rattle.std.proofs.Common.{refl, sym}
use Rattle.http_edge.proofs.Paths.{hit, missed, answered}
use Rattle.http_edge.proofs.route.find_route.Goals as goal

pub returns-in-Ok : goal.returns-in-Ok
returns-in-Ok c =
    let found = hit c.args.path.now _ (λ k. (c.type_inv.path k).fits) (rw c.requires at c.in-Ok.ensures.found) in
    answered c.args.path.now _ c.get.result _ _ found c.utf8.path (rw c.in-Ok.ensures.path at c.get.ensures) c.unwrap_or.ensures refl

pub returns-in-Err : goal.returns-in-Err
returns-in-Err c = sym (missed c.args.path.now (rw c.requires at c.in-Err.ensures.missing))
