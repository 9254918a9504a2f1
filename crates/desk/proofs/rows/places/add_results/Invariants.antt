use Rattle.std.proofs.Common.{◌⊎◌, drop, map}
use Rattle.std.specs.Prelude.{◌↔◌, Contains}
use Rattle.machine.specs.State.{State}
use Rattle.machine.specs.Reply.{FoundPlace}
use Rattle.desk.specs.Steps.RowPlaces.{item_place}
use Rattle.desk.specs.Steps.Rows.{IsPlaceOfOne, ProjectResultValue, project_result_value}
use Rattle.desk.specs.Indexes.{ReadsOnly}
use Rattle.desk.proofs.rows.places.add_results.Given as goal

abbrev pub invariant-loop-project_result : goal.invariant-loop-project_result
invariant-loop-project_result g l =
    let stands = g.I.Index.stands in
    let is_reliable = g.I.Index.is_reliable in
    record {
      reliable : is_reliable l.index → is_reliable l.fn.index;
      reads_only : is_reliable l.index → ReadsOnly stands g.I.Index.may_leave l.fn.index l.index;
      found : is_reliable l.index → (m : State) → stands l.fn.index m → (place : FoundPlace)
          → (Contains (map item_place l.found.items) place ⊎ IsPlaceOfOne m l.roles (λ (t : ProjectResultValue). Contains (map project_result_value (drop l.project_result-index l.project_results)) t) place)
          ↔ (Contains (map item_place l.fn.found.items) place ⊎ IsPlaceOfOne m l.roles (λ (t : ProjectResultValue). Contains (map project_result_value l.project_results) t) place);
    }
