use Rattle.std.proofs.Common.{◌∷◌, [], sym, subst}
use Rattle.sqlite.specs.Held.{state}
use Rattle.desk.specs.TableStates.{LeavesOneOf}
use Rattle.desk.proofs.TableStates.{leaves_alone}
use Rattle.desk.proofs.table_desk.TableDesk+S.new.Goals as goal

pub returns-clause-alone : goal.returns-clause-alone
returns-clause-alone g c = λ m up rests.
    subst (λ t. LeavesOneOf (state g.S.Store t) (m ∷ [])) (sym c.over.ensures) (leaves_alone g.S.Store g.met.S.Store.settled c.args.tables m up rests)
