use Rattle.machine.specs.State.{nothing}
use Rattle.calls.proofs.replay.replay_in_memory.Goals as goal

pub returns-clause-replays : goal.returns-clause-replays
returns-clause-replays g c =
    let served = c.replay-answer.ensures.replays in
    let run = served.2 c.memory_law.ensures nothing c.in-Ok.ensures.stands in
    (served.0, served.1, run.0, run.1)

pub returns-clause-memory : goal.returns-clause-memory
returns-clause-memory g c = λ refused.
    let same = c.replay-answer.ensures.memory refused in
    (same.1, same.2)
