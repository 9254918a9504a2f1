use Rattle.std.proofs.Common.{◌≡◌}
use Rattle.std.specs.List.{list_all}
use Rattle.dump.specs.Graph.{vertex_at}
use Rattle.dump.specs.Kinds.{is_of_kind}
use Rattle.dump.proofs.vertices.are_of_kind.Given as goal

abbrev pub invariant-loop-id : goal.invariant-loop-id
invariant-loop-id l = list_all (λ i. is_of_kind l.kind (vertex_at l.graph i)) l.id-iterator ≡ list_all (λ i. is_of_kind l.kind (vertex_at l.graph i)) l.fn.ids
