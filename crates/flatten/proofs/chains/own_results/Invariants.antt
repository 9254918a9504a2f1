use Rattle.std.proofs.Common.{◌≡◌, ◌<◌}
use Rattle.lsif.specs.Element.{id_value}
use Rattle.lsif.specs.RequestKinds.{kind_number}
use Rattle.lsif.specs.declared.request_kind.RequestKind.{RequestKind}
use Rattle.flatten.specs.Rows.{results_value}
use Rattle.flatten.specs.Steps.Chains.{own_number}
use Rattle.flatten.proofs.chains.own_results.Given as goal

abbrev pub invariant-loop-kind : goal.invariant-loop-kind
invariant-loop-kind l =
    (kind : RequestKind) → kind_number kind < l.kind-index → results_value l.results kind ≡ own_number l.dump.elements kind (id_value l.vertex)
