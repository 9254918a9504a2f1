use Rattle.std.proofs.Common.{◌≡◌, map, take}
use Rattle.flatten.specs.Rows.{results_value}
use Rattle.tables.proofs.kinds.has_same_more.Given as goal

abbrev pub invariant-loop-kind : goal.invariant-loop-kind
invariant-loop-kind l =
    map (results_value l.first) (take l.kind-index l.kind-items) ≡ map (results_value l.second) (take l.kind-index l.kind-items)
