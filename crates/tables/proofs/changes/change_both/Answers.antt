use Rattle.std.proofs.Common.{arith, subst, [], ◌∷◌}
use Rattle.sqlite.specs.State.{HasCleanDisk}
use Rattle.sqlite.specs.Held.{state}
use Rattle.sqlite_value.specs.declared.value.Value.TheVariants.{Text}
use Rattle.machine.specs.State.{parts_removed, accepted_text}
use Rattle.tables.specs.Steps.Puts.{Steps, PutsAll}
use Rattle.tables.specs.TableTrees.{keyed_tree}
use Rattle.tables.proofs.Filling.{goes_then}
use Rattle.tables.proofs.Keeping.{keeps_reply}
use Rattle.tables.proofs.changes.change_both.Goals as goal

pub returns-clause-changed : goal.returns-clause-changed
returns-clause-changed g c clean inside has parts replies is free =
    let first : HasCleanDisk (state g.S.Store c.clear_parts.new.tx.conn.now) = omega (arith, c.insert_reply.ensures.uncommitted.survives.clean) in
    let gone = c.in_ok-was_there.ensures.gone first inside has parts replies is in
    let put = c.in_ok-insert_reply.ensures.put clean gone.1.inside gone.1.schema in
    let reply = subst (λ text. Steps (PutsAll keyed_tree ((Text c.args.project.now ∷ Text c.args.key.now ∷ Text text ∷ []) ∷ [])) (state g.S.Store c.clear_parts.new.tx.conn.now) (state g.S.Store c.insert_reply.new.tx.conn.now)) c.removal_text.ensures put in (
      gone.0,
      goes_then _ _ _ gone.1 reply.0,
      keeps_reply _ replies c.args.project.now c.args.key.now (accepted_text (parts_removed c.in_ok-was_there.was_there)) _ _ gone.2 free reply.1,
      c.in_ok-insert_reply.ensures.listed clean gone.1.inside gone.1.schema,
    )
