use Rattle.std.proofs.Common.{◌≡◌, ◌++◌, map}
use Rattle.form_urlencoded.specs.Parse.{pairs_left}
use Rattle.http_edge.specs.Parameters.{decoded_pair, parameters}
use Rattle.http_edge.specs.Steps.Parameters.{pair_of}
use Rattle.http_edge.proofs.parameters.Parameters.read.Given as goal

abbrev pub invariant-loop-pair : goal.invariant-loop-pair
invariant-loop-pair l =
    map pair_of l.list.items ++ map decoded_pair (pairs_left l.pair-iterator) ≡ parameters l.query
