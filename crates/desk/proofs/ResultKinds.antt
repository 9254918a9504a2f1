-- In a sound dump the first result of a request other than hover is a result that may have items.
use Rattle.std.proofs.Common.{◌≡◌, true, List, ap, Some}
use Rattle.lsif.specs.Element.{IdValue, ElementValue}
use Rattle.lsif.specs.declared.request_kind.RequestKind.{RequestKind}
use Rattle.lsif.specs.declared.request_kind.RequestKind.TheVariants as requests
use Rattle.dump.specs.Graph.{vertex_at}
use Rattle.dump.specs.Progress.{IsSound}
use Rattle.dump.specs.Requests.{First}
use Rattle.dump.proofs.OwnPlaces.{first_target, result_in}
use Rattle.flatten.specs.Flat.{is_result}

pub first_result : (d : List ElementValue) → IsSound d → (q : RequestKind) → (q ≡ requests.Hover → ⊥) → (x result : IdValue) → First q d x (Some result) → is_result (vertex_at d result) ≡ true
first_result d h q other x result first = ap is_result (result_in q (vertex_at d result) other (first_target d h q x result first)).1
