use Rattle.std.proofs.Common.{◌≡◌, bytes_eq, drop}
use Rattle.std.specs.Prelude.{◌&&◌, find}
use Rattle.lsif.specs.RequestKinds.{is_read, named_by_edge, spelling_of}
use Rattle.lsif.proofs.request_kind.RequestKind.named_by_edge.Given as goal

abbrev pub invariant-loop-kind : goal.invariant-loop-kind
invariant-loop-kind l = find (λ kind. is_read l.profile kind && bytes_eq l.label (spelling_of kind).edge) (drop l.kind-index l.kind-items) ≡ named_by_edge l.profile l.label
