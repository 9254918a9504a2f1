use Rattle.calls.proofs.Databases.{implied}
use Rattle.calls.proofs.replay.replay_file.Goals as goal

pub returns-clause-replays : goal.returns-clause-replays
returns-clause-replays g c = implied c.replay_database.result c.replay_database.ensures.clean c.replay_database.ensures.replays (λ o clean replays reliable m holds.
    replays reliable m (c.in_ok-conn.ensures.finds (clean reliable) m holds))
