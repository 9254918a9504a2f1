use Rattle.std.proofs.Common.{refl}
use Rattle.calls.specs.Call.{check_lsif_app, check_tags_app, migrate_app, replay_app, serve_app, top_app}
use Rattle.calls.proofs.command_line.command.Goals as goal

pub returns : goal.returns
returns c =
    let checks_dumps = c.add-with_check.ensures top_app check_lsif_app c.top.ensures c.check_lsif.ensures refl in
    let checks = c.add-with_checks.ensures _ check_tags_app checks_dumps c.check_tags.ensures refl in
    let replays = c.add-with_replay.ensures _ replay_app checks c.replay.ensures refl in
    let serves = c.add-with_serve.ensures _ serve_app replays c.serve.ensures refl in
    c.add.ensures _ migrate_app serves c.migrate.ensures refl
