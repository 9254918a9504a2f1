use Rattle.std.proofs.Common.{rules, arith, ◌≡◌, to_z, of_z, w64, refl}
use Rattle.std.proofs.lemmas.Result.{on_ok_weaker}
use Rattle.sqlite.specs.State.{HasCleanDisk}
use Rattle.sqlite.specs.Held.{state}
use Rattle.tags.specs.Views.{tag_value, tag_values}
use Rattle.tables.specs.Columns.{tag_columns}
use Rattle.tables.specs.TableTrees.{tag_tree}
use Rattle.tables.proofs.Filling.{put_values, tags_filled}
use Rattle.tables.proofs.tags_part.insert_tags.Goals as goal

pub returns-clause-put : goal.returns-clause-put
returns-clause-put g c clean inside has parts replies is =
    let first : HasCleanDisk (state g.S.Store c.insert_slot.new.tx.conn.now) = omega (arith, c.insert_rows.ensures.uncommitted.survives.clean) in
    let back : to_z w64 (of_z w64 c.in_ok-slot.slot) ≡ c.in_ok-slot.slot = search rules in
    let p = c.in_ok-slot.ensures.put first inside has in
    on_ok_weaker c.insert_rows.result
    (λ q. tags_filled parts replies c.args.project.now c.in_ok-slot.slot (tag_values c.args.tags.now) _ _ _ is p (put_values tag_tree c.in_ok-slot.slot tag_columns tag_value c.args.tags.now c.args.tags.now _ _ refl q))
    (rw back at (c.insert_rows.ensures.put clean p.0.inside p.0.schema))
