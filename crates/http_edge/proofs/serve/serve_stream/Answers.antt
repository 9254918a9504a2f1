use Rattle.std.proofs.Common.{◌≡◌, [], refl, rules, Err}
use Rattle.http_edge.specs.declared.serve.ServeFault.TheVariants.{Memory}
use Rattle.http_edge.proofs.serve.serve_stream.Goals as goal

pub returns-in_err-reader-clause-served : goal.returns-in_err-reader-clause-served
returns-in_err-reader-clause-served g c =
    let is : c.from_residual.result ≡ Err Memory = search rules in
    rw is ([], [], λ k m s. (m, (refl, refl, refl, refl, refl), s, λ states h. h))

pub returns-in_err-joined-clause-served : goal.returns-in_err-joined-clause-served
returns-in_err-joined-clause-served g c =
    let is : c.from_residual-in_err-joined.result ≡ Err Memory = search rules in
    rw is ([], [], λ k m s. (m, (refl, refl, refl, refl, refl), s, λ states h. h))
