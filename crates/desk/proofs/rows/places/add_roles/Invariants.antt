use Rattle.std.proofs.Common.{◌⊎◌, drop, map}
use Rattle.std.specs.Prelude.{◌↔◌, Contains}
use Rattle.machine.specs.State.{State}
use Rattle.machine.specs.Reply.{FoundPlace}
use Rattle.desk.specs.Steps.RowPlaces.{item_place}
use Rattle.desk.specs.Steps.Rows.{IsPlaceOf, project_result_value}
use Rattle.desk.specs.Indexes.{ReadsOnly}
use Rattle.desk.proofs.rows.places.add_roles.Given as goal

abbrev pub invariant-loop-role : goal.invariant-loop-role
invariant-loop-role g l =
    let stands = g.I.Index.stands in
    let is_reliable = g.I.Index.is_reliable in
    record {
      reliable : is_reliable l.index → is_reliable l.fn.index;
      reads_only : is_reliable l.index → ReadsOnly stands g.I.Index.may_leave l.fn.index l.index;
      found : is_reliable l.index → (m : State) → stands l.fn.index m → (place : FoundPlace)
          → (Contains (map item_place l.found.items) place ⊎ IsPlaceOf m (drop l.role-index l.roles) (project_result_value l.project_result) place) ↔ (Contains (map item_place l.fn.found.items) place ⊎ IsPlaceOf m l.roles (project_result_value l.project_result) place);
    }
