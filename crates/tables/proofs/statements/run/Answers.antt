use Rattle.std.proofs.Common.{inl, inr, subst, sym}
use Rattle.std.proofs.lemmas.Bool.{cases_Bool}
use Rattle.sqlite.specs.State.{KeepsCommit}
use Rattle.sqlite.specs.Held.{state}
use Rattle.tables.proofs.Puts.{inside_keeps, commit_same}
use Rattle.tables.proofs.statements.run.Goals as goal

pub returns-clause-uncommitted : goal.returns-clause-uncommitted
returns-clause-uncommitted g c = record {
  same_reference = c.execute.ensures.same_reference;
  kept = λ clean. elim (cases_Bool c.args.tx.now.conn.now.in_transaction) [
    | inl inside ↦ inside_keeps _ _ _ _ _ (c.execute.ensures.runs clean inside)
    | inr ended ↦ subst (λ h. KeepsCommit (state g.S.Store c.args.tx.now.conn.now) (state g.S.Store h)) (sym (c.execute.ensures.ended ended).1) (commit_same (state g.S.Store c.args.tx.now.conn.now))
  ];
  survives = c.execute.ensures.survives;
}
