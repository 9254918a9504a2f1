use Rattle.std.proofs.Common.{map}
use Rattle.machine.specs.Selections.{item_found}
use Rattle.desk.specs.Steps.Rows.{project_result_value}
use Rattle.desk.proofs.Finding.{or_other}
use Rattle.desk.proofs.RowLists.{role_items}
use Rattle.desk.proofs.rows.places.add_role.Goals as goal

pub returns-clause-found : goal.returns-clause-found
returns-clause-found g c = λ sound m stood place.
    or_other (c.in_ok-add_items.ensures place)
    (role_items m (project_result_value c.args.project_result.now) c.as_str.result.now c.as_str-2.result.now c.as_str.ensures.value c.as_str-2.ensures.value c.args.role (map item_found c.in_ok-items.items.items) (c.in_ok-items.ensures.found sound m stood) place)
