use Rattle.std.proofs.Common.{[], ◌∷◌, refl, arith}
use Rattle.http_edge.specs.Serving.{after_a_stop_of_answers}
use Rattle.calls.proofs.serve.serve_connections.Goals as goal

pub serving-init : goal.serving-init
serving-init g c = record {
  connections = [];
  served = refl;
  accepted = omega arith;
  within = omega arith;
  reliable = λ k. k;
  each = λ k m states s may. (m, states, (refl, refl), s, may);
}

pub serving-preserved : goal.serving-preserved
serving-preserved g c =
    let i = c.serving.invariant in
    let one = c.in-Ok.ensures.served in
    record {
      connections = one.0 ∷ i.connections;
      served = omega (arith, i.served);
      accepted = omega (arith, i.accepted, c.in-Some.ensures);
      within = omega (arith, c.serving-test.true);
      reliable = λ k. i.reliable (c.in-Ok.ensures.reliable k);
      each = λ k m states s may.
          let before = i.each (c.in-Ok.ensures.reliable k) m states s may in
          let after = one.1 k before.0 before.3 in (
            after.0,
            after_a_stop_of_answers before.0 before.1 one.0.messages one.0.answers,
            (before.0, before.1, before.2, after.1, refl),
            after.2,
            after.3 before.1 before.4,
          );
    }

pub returns : goal.returns
returns g c =
    let i = c.serving.invariant in
    (i.connections, (omega (arith, i.served, i.within), omega (arith, i.accepted, i.served)), i.each)

pub returns-in-None : goal.returns-in-None
returns-in-None g c =
    let i = c.serving.invariant in
    (i.connections, (omega (arith, i.served, c.serving-test.true), omega (arith, i.accepted, i.served, c.in-None.ensures)), i.each)

pub returns-in-Err : goal.returns-in-Err
returns-in-Err g c =
    let i = c.serving.invariant in (
      i.connections,
      (omega (arith, i.served, c.serving-test.true), omega (arith, i.accepted, i.served, c.in-Some.ensures)),
      λ k m states s may.
          let before = i.each (rw c.in-Err.ensures.memory at k) m states s may in (before.0, before.1, before.2, rw c.in-Err.ensures.memory before.3, rw c.in-Err.ensures.memory before.4),
    )
