use Rattle.desk.proofs.Finding.{or_other}
use Rattle.desk.proofs.rows.bearers.add_key.Goals as goal

pub returns-clause-found : goal.returns-clause-found
returns-clause-found g c = λ sound m stood j.
    let found = c.in_ok-bearers.ensures.found sound m stood in
    or_other (c.in_ok-add_bearers.ensures j) ((λ (b, at, p). (b, (found b).0 at, p)), (λ (b, at, p). (b, (found b).1 at, p)))
