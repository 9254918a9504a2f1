use Rattle.std.proofs.Common.{rules, arith}
use Rattle.sqlite.specs.Held.{state}
use Rattle.tables.proofs.Asking.{refused}
use Rattle.tables.proofs.Knowing.{known_on}
use Rattle.tables.proofs.Looking.{as_before}
use Rattle.tables.proofs.tables.Tables.check.Goals as goal

pub returns-in-Err-clause-same : goal.returns-in-Err-clause-same
returns-in-Err-clause-same g c clean up =
    let said = refused _ _ _ c.prepare.result (c.prepare.ensures.err clean) up in
    search (said, rules)

pub invariant_of-self-in_default : goal.invariant_of-self-in_default
invariant_of-self-in_default g c = (
  c.prepare.ensures.mode c.self.invariant.0,
  known_on (state g.S.Store c.self.inside.conn) (state g.S.Store c.prepare.new.self) c.self.inside.slot (λ clean. omega (arith, c.prepare.ensures.survives.clean)) (λ clean. as_before _ _ (c.in_default.ensures.ok clean).1) c.self.invariant.1,
)
