use Rattle.std.proofs.Common.{◌≡◌, ◌⊎◌, length, map}
use Rattle.std.specs.Prelude.{◌↔◌, Contains}
use Rattle.desk.specs.Steps.Rows.{JoinedValue, ProjectResultValue, joined_value, project_result_value, result_of_joined}
use Rattle.desk.proofs.Popped.{IsLeft}
use Rattle.desk.proofs.rows.results.add_joined.Given as goal

abbrev pub invariant-loop-row : goal.invariant-loop-row
invariant-loop-row l =
    let Makes = λ (j : JoinedValue) (t : ProjectResultValue). result_of_joined j ≡ t in
    (t : ProjectResultValue) →
    (Contains (map project_result_value l.project_results.items) t ⊎ IsLeft joined_value Makes l.joined.items t) ↔ (Contains (map project_result_value l.fn.project_results.items) t ⊎ IsLeft joined_value Makes l.fn.joined.items t)

abbrev pub decreases-loop-row : goal.decreases-loop-row
decreases-loop-row l = length l.joined.items
