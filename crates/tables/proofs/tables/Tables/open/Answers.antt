use Rattle.std.proofs.Common.{rules, ◌≡◌, sym, subst}
use Rattle.sqlite.specs.State.{Survives}
use Rattle.sqlite.specs.Held.{state}
use Rattle.tables.specs.Schema.{empty_schema}
use Rattle.tables.specs.Databases.{WasMade}
use Rattle.tables.specs.Stands.{StandsFor}
use Rattle.machine.specs.State.{nothing}
use Rattle.tables.proofs.Crashes.{implied}
use Rattle.tables.proofs.Empty.{made_rests, stands_empty, rests_format, unchanged_rests}
use Rattle.tables.proofs.Found.{is_format_one, resting}
use Rattle.tables.proofs.tables.Tables.open.Goals as goal

pub returns-in-Ok-clause-fresh : goal.returns-in-Ok-clause-fresh
returns-in-Ok-clause-fresh g c has = rw c.over.ensures (λ clean.
    let found = c.find_format.ensures.absent has in
    let made = c.in-Ok.ensures.made (subst (λ h. (state g.S.Store h).now.schema ≡ empty_schema) (sym found.1) has) clean in
    made_rests (state g.S.Store c.make.new.conn) made.0 made.1)

pub returns-in-Ok-clause-left : goal.returns-in-Ok-clause-left
returns-in-Ok-clause-left g c has = rw c.over.ensures (
    let found = c.find_format.ensures.absent has in
    let crash = c.make.ensures.crash (subst (λ h. (state g.S.Store h).now.schema ≡ empty_schema) (sym found.1) has) in
    (implied _ _ WasMade (λ db. StandsFor db nothing) stands_empty (subst (λ h. Survives (state g.S.Store h) (state g.S.Store c.make.new.conn) WasMade) found.1 crash), tt))

pub returns-in-Err-make-clause-left : goal.returns-in-Err-make-clause-left
returns-in-Err-make-clause-left g c has =
    let found = c.find_format.ensures.absent has in
    let crash = c.make.ensures.crash (subst (λ h. (state g.S.Store h).now.schema ≡ empty_schema) (sym found.1) has) in
    (tt, implied _ _ WasMade (λ db. StandsFor db nothing) stands_empty (subst (λ h. Survives (state g.S.Store h) (state g.S.Store c.make.new.conn) WasMade) found.1 crash))

pub returns-in-Ok-clause-stands : goal.returns-in-Ok-clause-stands
returns-in-Ok-clause-stands g c m it = rw c.over.ensures (
  (λ clean.
      let found = c.find_format.ensures.known (c.make.ensures.ended.clean clean) (rests_format _ m (resting _ m it)) in
      absurd (search (found, rules))),
  tt,
)

pub returns-in-Ok-Two-clause-stands : goal.returns-in-Ok-Two-clause-stands
returns-in-Ok-Two-clause-stands g c m it = rw c.over-in-Ok-Two.ensures (
    let is = resting _ m it in
    ((λ clean. unchanged_rests _ _ m (c.in-Ok-Two.ensures.known clean (rests_format _ m is)).1 is), tt))

pub returns-in-Ok-One-clause-stands : goal.returns-in-Ok-One-clause-stands
returns-in-Ok-One-clause-stands g c m it = (
  tt,
  (λ clean.
      let found = c.find_format.ensures.known clean (rests_format _ m (resting _ m it)) in
      absurd (search (found, rules))),
)

pub returns-in-Ok-Unknown-clause-stands : goal.returns-in-Ok-Unknown-clause-stands
returns-in-Ok-Unknown-clause-stands g c m it = (
  tt,
  (λ clean.
      let found = c.find_format.ensures.known clean (rests_format _ m (resting _ m it)) in
      absurd (search (found, rules))),
)

pub returns-in-Ok-clause-known : goal.returns-in-Ok-clause-known
returns-in-Ok-clause-known g c is = rw c.over.ensures (λ clean.
    let found = c.find_format.ensures.known (c.make.ensures.ended.clean clean) is in
    absurd (search (found, rules)))

pub returns-in-Ok-clause-old : goal.returns-in-Ok-clause-old
returns-in-Ok-clause-old g c it = rw c.over.ensures (
  (λ clean.
      let found = c.find_format.ensures.old (c.make.ensures.ended.clean clean) (is_format_one _ it) in
      absurd (search (found, rules))),
  tt,
)

pub returns-in-Ok-Two-clause-old : goal.returns-in-Ok-Two-clause-old
returns-in-Ok-Two-clause-old g c it = rw c.over-in-Ok-Two.ensures (
  (λ clean.
      let found = c.find_format.ensures.old clean (is_format_one _ it) in
      absurd (search (found, rules))),
  tt,
)

pub returns-in-Ok-Unknown-clause-old : goal.returns-in-Ok-Unknown-clause-old
returns-in-Ok-Unknown-clause-old g c it = (
  tt,
  (λ clean.
      let found = c.find_format.ensures.old clean (is_format_one _ it) in
      absurd (search (found, rules))),
)
