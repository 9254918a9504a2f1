use Rattle.std.proofs.Common.{◌⊎◌, length, map}
use Rattle.std.specs.Prelude.{◌↔◌, Contains}
use Rattle.machine.specs.Selections.{bearer_found}
use Rattle.desk.specs.Steps.Rows.{JoinedValue, OfBearer, joined_value}
use Rattle.desk.proofs.Popped.{IsLeft}
use Rattle.desk.proofs.rows.bearers.add_bearers.Given as goal

abbrev pub invariant-loop-bearer : goal.invariant-loop-bearer
invariant-loop-bearer l =
    (j : JoinedValue) →
    (Contains (map joined_value l.found.items) j ⊎ IsLeft bearer_found (OfBearer l.request l.own) l.bearers.items j)
    ↔ (Contains (map joined_value l.fn.found.items) j ⊎ IsLeft bearer_found (OfBearer l.request l.own) l.fn.bearers.items j)

abbrev pub decreases-loop-bearer : goal.decreases-loop-bearer
decreases-loop-bearer l = length l.bearers.items
