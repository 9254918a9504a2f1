use Rattle.std.proofs.Common.{◌≡◌, IsTrue, rules, sym, subst}
use Rattle.sqlite.specs.Held.{state}
use Rattle.sqlite.specs.State.{HasCleanDisk}
use Rattle.tables.specs.Schema.{empty_schema}
use Rattle.tables.specs.Stands.{Rests}
use Rattle.machine.specs.State.{nothing}
use Rattle.desk.proofs.memory_desk.make_desk.Goals as goal

pub returns-in-Ok-clause-stands : goal.returns-in-Ok-clause-stands
returns-in-Ok-clause-stands g c reliable =
    let clean = subst (λ t. HasCleanDisk (state g.S.Store t)) c.in_memory.ensures (c.new.ensures.reliable.0 reliable) in
    let empty : (state g.S.Store c.args.conn).now.schema ≡ empty_schema = search rules in
    let rests = c.in-Ok.ensures.fresh empty clean in
    (c.new.ensures.stands nothing).1 (λ up. subst (λ t. Rests (state g.S.Store t) nothing) (sym c.in_memory.ensures) rests)

pub returns-in-Ok-clause-may_leave : goal.returns-in-Ok-clause-may_leave
returns-in-Ok-clause-may_leave g c reliable =
    let clean = subst (λ t. HasCleanDisk (state g.S.Store t)) c.in_memory.ensures (c.new.ensures.reliable.0 reliable) in
    let empty : (state g.S.Store c.args.conn).now.schema ≡ empty_schema = search rules in
    let rests = c.in-Ok.ensures.fresh empty clean in
    let up = c.in-Ok.ensures.up empty clean in
    c.new.ensures.alone nothing (subst (λ t. IsTrue (state g.S.Store t).is_open) (sym c.in_memory.ensures) up) (subst (λ t. Rests (state g.S.Store t) nothing) (sym c.in_memory.ensures) rests)
