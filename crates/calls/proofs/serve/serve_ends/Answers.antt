use Rattle.calls.proofs.Connections.{serves}
use Rattle.calls.proofs.serve.serve_ends.Goals as goal

pub returns-in-Ok-clause-served : goal.returns-in-Ok-clause-served
returns-in-Ok-clause-served g c =
    let served = c.serve_stream.ensures.served in
    (record { messages = served.0; answers = served.1 }, λ k m s. let run = served.2 k m s in (run.0, serves _ m run.0 _ _ _ _ _ _ run.1, run.2, run.3))

pub returns-in-Err-Memory-clause-served : goal.returns-in-Err-Memory-clause-served
returns-in-Err-Memory-clause-served g c =
    let served = c.serve_stream.ensures.served in
    (record { messages = served.0; answers = served.1 }, λ k m s. let run = served.2 k m s in (run.0, serves _ m run.0 _ _ _ _ _ _ run.1, run.2, run.3))

pub returns-clause-served : goal.returns-clause-served
returns-clause-served g c =
    let served = c.serve_stream.ensures.served in
    (record { messages = served.0; answers = served.1 }, λ k m s. let run = served.2 k m s in (run.0, serves _ m run.0 _ _ _ _ _ _ run.1, run.2, run.3))
