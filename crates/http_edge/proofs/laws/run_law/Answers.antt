use Rattle.std.proofs.Common.{◌∙◌, sym}
use Rattle.machine.specs.Retries.{states_after_a_stop}
use Rattle.http_edge.specs.Serving.{replies_in, requests_in}
use Rattle.http_edge.proofs.ServedRuns.{run_of, left_of}
use Rattle.http_edge.proofs.laws.run_law.Goals as goal

pub returns-clause-run : goal.returns-clause-run
returns-clause-run c = λ store m n messages answers. run_of store m messages answers n

pub returns-clause-left : goal.returns-clause-left
returns-clause-left c = λ store m n states messages answers. left_of store m states messages answers n

pub returns-clause-life : goal.returns-clause-life
returns-clause-life c = λ store events t messages answers n life run.
    let more = c.retry_law.ensures.runs store events t (requests_in messages) (replies_in messages answers) n life (run_of store t.now messages answers n run) in
    (more.0, more.1, more.2, more.3 ∙ sym (left_of store t.now (states_after_a_stop t) messages answers n run))
