use Rattle.std.proofs.Common.{rules, arith, ◌≡◌, to_z, of_z, w64}
use Rattle.std.proofs.lemmas.Result.{on_ok_weaker}
use Rattle.sqlite.specs.State.{HasCleanDisk}
use Rattle.sqlite.specs.Held.{state}
use Rattle.flatten.specs.Rows.{rows_value}
use Rattle.tables.proofs.Filling.{dump_filled}
use Rattle.tables.proofs.dump_part.insert_dump.Goals as goal

pub returns-clause-put : goal.returns-clause-put
returns-clause-put g c clean inside has parts replies is =
    let fourth : HasCleanDisk (state g.S.Store c.insert_profile.new.tx.conn.now) = omega (arith, c.insert_more.ensures.uncommitted.survives.clean) in
    let third : HasCleanDisk (state g.S.Store c.insert_contents.new.tx.conn.now) = omega (arith, c.insert_profile.ensures.uncommitted.survives.clean) in
    let second : HasCleanDisk (state g.S.Store c.insert_places.new.tx.conn.now) = omega (arith, c.insert_contents.ensures.uncommitted.survives.clean) in
    let first : HasCleanDisk (state g.S.Store c.insert_slot.new.tx.conn.now) = omega (arith, c.insert_places.ensures.uncommitted.survives.clean) in
    let back : to_z w64 (of_z w64 c.in_ok-slot.slot) ≡ c.in_ok-slot.slot = search rules in
    let p = c.in_ok-slot.ensures.put first inside has in
    let q = rw back at (c.in_ok-insert_places.ensures.put second p.0.inside p.0.schema) in
    let r = rw back at (c.in_ok-insert_contents.ensures.put third q.0.inside q.0.schema) in
    let s = rw back at (c.in_ok-insert_profile.ensures.put fourth r.0.inside r.0.schema) in
    on_ok_weaker c.insert_more.result
    (λ t. dump_filled parts replies c.args.project.now c.in_ok-slot.slot c.args.rows.now.profile (rows_value c.args.rows.now) _ _ _ _ _ _ is p q r s t)
    (rw back at (c.insert_more.ensures.put clean s.0.inside s.0.schema))
