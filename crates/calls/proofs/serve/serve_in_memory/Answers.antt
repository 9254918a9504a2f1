use Rattle.calls.proofs.serve.serve_in_memory.Goals as goal

pub returns : goal.returns
returns g c =
    let served = c.serve_connections-answer.ensures in
    (served.0, served.1, λ m states stood may. served.2 c.memory_law.ensures m states stood may)
