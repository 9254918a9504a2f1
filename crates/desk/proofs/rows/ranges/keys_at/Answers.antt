use Rattle.desk.proofs.Finding.{iff_trans}
use Rattle.desk.proofs.rows.ranges.keys_at.Goals as goal

pub returns-clause-found : goal.returns-clause-found
returns-clause-found g c = λ sound m stood text.
    let found = c.in_ok-marks.ensures.found sound m stood in
    iff_trans (c.in_ok-keys.ensures text) ((λ (mark, at, (follow, key)). (mark, (found mark).0 at, follow, key)), (λ (mark, has, follow, key). (mark, (found mark).1 has, (follow, key))))
