use Rattle.std.proofs.Common.{to_z-of_z}
use Rattle.tables.proofs.covering.complete.Goals as goal

pub returns-clause-whole : goal.returns-clause-whole
returns-clause-whole g c clean has m s project dump slot is r row t =
    let result = (rw (to_z-of_z c.ranges.slot) at c.in_ok-result.ensures.result) clean has m s project dump slot is r row t in
    λ i. record { line = t.line i; span = t.span i; result = result i }
