use Rattle.std.proofs.Common.{◌∷◌, []}
use Rattle.http_edge.specs.Serving.{after_a_stop_of_answers}
use Rattle.calls.proofs.replay.replay_database.Goals as goal

pub returns-clause-clean : goal.returns-clause-clean
returns-clause-clean g c clean = c.in_ok-desk.ensures.clean (c.replay-answer.ensures.reliable (c.connection_of.ensures.reliable.0 clean))

pub returns-clause-replays : goal.returns-clause-replays
returns-clause-replays g c clean m finds =
    let reliable = c.connection_of.ensures.reliable.0 clean in
    let first = c.replay-answer.ensures.reliable reliable in
    let served = c.replay-answer.ensures.replays in
    let run = served.2 reliable m (c.in_ok-desk.ensures.stands first m finds) in
    let left = after_a_stop_of_answers m (m ∷ []) served.0 served.1 in (
      served.0,
      served.1,
      run.0,
      run.1,
      (c.connection_of.ensures.stands run.0).1 run.2,
      (c.connection_of.ensures.may_leave left).1 (run.3 (m ∷ []) (c.in_ok-desk.ensures.alone first m finds)),
    )
