use Rattle.std.proofs.Common.{◌≡◌, ◌<◌}
use Rattle.std.specs.Option.{option_or}
use Rattle.lsif.specs.RequestKinds.{kind_number}
use Rattle.lsif.specs.declared.request_kind.RequestKind.{RequestKind}
use Rattle.flatten.specs.Rows.{results_value}
use Rattle.flatten.proofs.results.Results.or.Given as goal

abbrev pub invariant-loop-kind : goal.invariant-loop-kind
invariant-loop-kind l =
    (kind : RequestKind) → kind_number kind < l.kind-index → results_value l.results kind ≡ option_or (results_value l.self kind) (results_value l.others kind)
