use Rattle.std.proofs.Common.{sym}
use Rattle.http_edge.proofs.RequestLemmas.{asks_no_route, asks_other_method, asks_read}
use Rattle.http_edge.proofs.request.read_request.Goals as goal

pub returns-in-None : goal.returns-in-None
returns-in-None c = asks_no_route c.args.method.now c.args.target.now (rw c.split_target.ensures.path at c.in-None.ensures)

pub returns-then-not-is_method : goal.returns-then-not-is_method
returns-then-not-is_method c =
    asks_other_method c.args.method.now c.args.target.now _ (rw c.split_target.ensures.path at c.in-Some.ensures) (sym c.if-not-is_method.ensures)

pub returns : goal.returns
returns c =
    asks_read c.read_route.result c.args.method.now c.args.target.now _ _ (rw c.split_target.ensures.path at c.in-Some.ensures) c.if-not-is_method.ensures
    (rw c.split_target.ensures.query at c.in_ok-parameters.ensures) c.read_route.ensures
