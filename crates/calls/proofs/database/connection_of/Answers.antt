use Rattle.std.proofs.Common.{sym, subst}
use Rattle.sqlite.specs.Held.{state}
use Rattle.desk.specs.TableStates.{LeavesOneOf, ServesFor}
use Rattle.calls.proofs.database.connection_of.Goals as goal

pub returns-clause-stands : goal.returns-clause-stands
returns-clause-stands g c m = (
  λ serves. (c.into_tables.ensures.stands m).0 (subst (λ h. ServesFor (state g.S.Store h) m) c.into_connection.ensures.same serves),
  λ stands. subst (λ h. ServesFor (state g.S.Store h) m) (sym c.into_connection.ensures.same) ((c.into_tables.ensures.stands m).1 stands),
)

pub returns-clause-may_leave : goal.returns-clause-may_leave
returns-clause-may_leave g c states = (
  λ leaves. (c.into_tables.ensures.may_leave states).0 (subst (λ h. LeavesOneOf (state g.S.Store h) states) c.into_connection.ensures.same leaves),
  λ leaves. subst (λ h. LeavesOneOf (state g.S.Store h) states) (sym c.into_connection.ensures.same) ((c.into_tables.ensures.may_leave states).1 leaves),
)
