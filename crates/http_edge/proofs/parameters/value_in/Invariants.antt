use Rattle.std.proofs.Common.{◌≡◌, drop, map}
use Rattle.http_edge.specs.Parameters.{parameter, values_named}
use Rattle.http_edge.specs.Steps.Parameters.{found_values, pair_of}
use Rattle.http_edge.specs.Steps.Values.{with_values}
use Rattle.http_edge.proofs.parameters.value_in.Given as goal

abbrev pub invariant-loop-pair : goal.invariant-loop-pair
invariant-loop-pair l =
    with_values (found_values l.found) (values_named l.name (map pair_of (drop l.pair-index l.list))) ≡ parameter l.name (map pair_of l.list)
