use Rattle.std.proofs.Common.{inr}
use Rattle.tables.proofs.Empty.{rests_format}
use Rattle.tables.proofs.Found.{rests_found}
use Rattle.calls.proofs.database.open_desk.Goals as goal

pub returns-in-Ok-clause-clean : goal.returns-in-Ok-clause-clean
returns-in-Ok-clause-clean g c reliable = c.in-Ok.ensures.clean.0 (c.new.ensures.reliable.0 reliable)

pub returns-in-Ok-clause-stands : goal.returns-in-Ok-clause-stands
returns-in-Ok-clause-stands g c reliable m found =
    let clean = c.new.ensures.reliable.0 reliable in
    (c.new.ensures.stands m).1 (λ up. (c.in-Ok.ensures.stands m (inr found)).0 clean)

pub returns-in-Ok-clause-alone : goal.returns-in-Ok-clause-alone
returns-in-Ok-clause-alone g c reliable m found =
    let clean = c.new.ensures.reliable.0 reliable in
    let same = c.in-Ok.ensures.known (rests_format _ m (rests_found _ m found)) clean in
    c.new.ensures.alone m same.0.is_open ((c.in-Ok.ensures.stands m (inr found)).0 clean)
