use Rattle.std.proofs.Common.{◌≡◌, drop, is_some, map}
use Rattle.std.specs.List.{list_any}
use Rattle.flatten.specs.Rows.{results_value}
use Rattle.tables.specs.Kinds.{more_kinds}
use Rattle.tables.proofs.kinds.has_more.Given as goal

abbrev pub invariant-loop-kind : goal.invariant-loop-kind
invariant-loop-kind l =
    list_any (λ kind. is_some (results_value l.results kind)) (drop l.kind-index l.kind-items)
    ≡ list_any is_some (map (results_value l.results) more_kinds)
