use Rattle.std.proofs.Common.{◌++◌, [], refl, ◌∙◌, arith, length-append, append-nil}
use Rattle.http_edge.proofs.MovedLemmas.{moves_refl, moves_more, moves_or_more}
use Rattle.http_edge.proofs.BodyLemmas.{joined, still_short}
use Rattle.http_edge.proofs.reading.read_body.Goals as goal

pub reading-init : goal.reading-init
reading-init g c = record {
  bytes = [];
  body = [];
  moved = moves_refl _;
  held = append-nil _;
  count = omega arith;
  asked = λ method target asks. asks;
  known = refl;
  capacity = refl;
  failed = refl;
}

pub reading-preserved : goal.reading-preserved
reading-preserved g c =
    let i = c.reading.invariant in
    let p = c.in-Ok.ensures.piece in
    record {
      bytes = i.bytes ++ p.0;
      body = i.body ++ p.1;
      moved = moves_more _ _ _ i.bytes p.0 i.moved p.2;
      held = joined _ i.bytes p.0 i.body p.1 _ _ i.held p.3;
      count = let l = length-append i.body p.1 in omega (arith, i.count, p.4, p.5);
      asked = λ method target asks. p.7 method target i.body (i.asked method target asks);
      known = p.8 ∙ i.known;
      capacity = c.next_piece.ensures.capacity ∙ i.capacity;
      failed = c.in-Ok.ensures.counted ∙ i.failed;
    }

pub returns-in-Err-clause-body : goal.returns-in-Err-clause-body
returns-in-Err-clause-body g c =
    let i = c.reading.invariant in
    let p = c.in-Err.ensures.piece in (
      i.bytes ++ p.0,
      moves_or_more _ _ _ i.bytes p.0 i.moved p.1,
      still_short _ i.bytes p.0 i.body _ c.reading.rest _ i.held p.2 i.count (omega (arith, c.reading-test.true)),
    )
