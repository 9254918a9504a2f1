use Rattle.std.proofs.Common.{◌≡◌, ◌++◌, take, drop}
use Rattle.http_edge.specs.Requests.{path_in, query_in}
use Rattle.http_edge.proofs.request.split_target.Given as goal

abbrev pub invariant-loop-i : goal.invariant-loop-i
invariant-loop-i l = record {
  path : path_in l.target ≡ take l.i l.target ++ path_in (drop l.i l.target);
  query : query_in l.target ≡ query_in (drop l.i l.target);
}
