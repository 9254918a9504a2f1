use Rattle.std.proofs.Common.{◌≡◌, ◌<◌, ◌++◌, inl, inr, [], ◌∷◌, length, sym, arith, refl, ◌∙◌, length-append}
use Rattle.http_edge.proofs.MovedLemmas.{writes_nothing, writes_more, writes_to_more, moves_refl, moves_more, moves_or_more}
use Rattle.http_edge.proofs.Runs.{run-snoc, left-snoc, texts-snoc, begun}
use Rattle.http_edge.specs.Serving.{answered}
use Rattle.http_edge.proofs.Sures.{settled-append, settled-snoc, requests-full, requests-ended, sure-full, gives_settles, stops-last, sure-unended}
use Rattle.http_edge.proofs.serve.serve.Goals as goal

pub serving-init : goal.serving-init
serving-init g c = record {
  bytes = [];
  messages = [];
  moved = moves_refl _;
  chain = c.requires.empty;
  count = refl;
  within = omega arith;
  answers = [];
  reliable = λ k. k;
  run = λ k m s. (m, refl, s, λ states h. h);
  written = writes_nothing _;
  reads = refl;
  counts = (refl, refl);
}

pub returns-clause-served : goal.returns-clause-served
returns-clause-served g c =
    let i = c.serving.invariant in
    let full : length i.messages ≡ c.args.limit = omega (arith, i.count, i.within) in (
      i.messages,
      i.answers,
      λ k m s.
          let run = i.run k m s in (
            run.0,
            (
              i.bytes,
              i.moved,
              (requests-full c.args.limit i.bytes i.messages c.serving.reader i.chain full, inr (inl full, sure-full c.args.limit i.bytes i.messages c.serving.reader i.chain full)),
              i.count,
              run.1,
              i.written,
            ),
            run.2,
            run.3,
          ),
    )

pub returns-in-Ok-None-clause-served : goal.returns-in-Ok-None-clause-served
returns-in-Ok-None-clause-served g c =
    let i = c.serving.invariant in
    let stays = c.next.ensures.stays in
    let next = rw c.in-Ok-None.field-0-is at c.in-Ok-None.ensures.message in
    let chain = settled-append i.bytes i.messages c.serving.reader next.0 i.chain in
    let lt : length i.messages < c.args.limit = omega (arith, i.count, c.serving-test.true) in (
      i.messages,
      i.answers,
      λ k m s.
          let run = i.run (stays.reliable k) m s in (
            run.0,
            (
              i.bytes ++ next.0,
              moves_more _ _ _ i.bytes next.0 i.moved next.1,
              (requests-ended c.args.limit _ i.messages _ chain lt next.3, inl next.2),
              i.count,
              run.1,
              i.written,
            ),
            stays.state k run.0 run.2,
            λ states h. stays.left k run.0 _ run.2 (run.3 states h),
          ),
    )

pub returns-then-is_last-clause-served : goal.returns-then-is_last-clause-served
returns-then-is_last-clause-served g c =
    let i = c.serving.invariant in
    let stays = c.next.ensures.stays in
    let next = rw c.in-Ok-Some.field-0-is at c.in-Ok-Some.ensures.message in
    let said = c.in-Ok.ensures.sent in
    let message = next.1 in
    let chain = settled-append i.bytes i.messages c.serving.reader next.0 i.chain in
    let lt : length i.messages < c.args.limit = omega (arith, i.count, c.serving-test.true) in
    let last = sym (c.if-is_last.ensures message next.4) in (
      i.messages ++ message ∷ [],
      i.answers ++ said.0 ∷ [],
      λ k m s.
          let read = said.1.reliable k in
          let run = i.run (stays.reliable read) m s in
          let here = stays.state read run.0 run.2 in
          let known = rw c.in-Ok-Some.field-0-is at (c.in-Ok-Some.ensures.known read run.0 run.2) in (
            answered run.0 message said.0,
            (
              i.bytes ++ next.0,
              moves_more _ _ _ i.bytes next.0 i.moved next.2,
              stops-last c.args.limit _ i.messages _ message _ _ chain lt next.3 last,
              simp length-append (omega (arith, i.count)),
              run-snoc _ m i.messages i.answers run.0 message said.0 run.1 (said.1.answer k run.0 message here known next.4),
              rw (texts-snoc i.answers said.0) (writes_more _ _ _ _ _ i.written said.2),
            ),
            said.1.state k run.0 message here known next.4,
            λ states h. rw (left-snoc _ m states i.messages i.answers run.0 message said.0 run.1) (said.1.left k run.0 _ message here (stays.left read run.0 _ run.2 (run.3 states h)) known next.4),
          ),
    )

pub serving-preserved : goal.serving-preserved
serving-preserved g c =
    let i = c.serving.invariant in
    let stays = c.next.ensures.stays in
    let next = rw c.in-Ok-Some.field-0-is at c.in-Ok-Some.ensures.message in
    let said = c.in-Ok.ensures.sent in
    let message = next.1 in
    let chain = settled-append i.bytes i.messages c.serving.reader next.0 i.chain in
    let goes_on = sym (c.if-is_last.ensures message next.4) in
    let settled = gives_settles _ message _ _ next.3 goes_on in
    record {
      bytes = i.bytes ++ next.0;
      messages = i.messages ++ message ∷ [];
      moved = moves_more _ _ _ i.bytes next.0 i.moved next.2;
      chain = settled-snoc _ i.messages _ message _ chain settled goes_on;
      count = simp length-append (omega (arith, i.count));
      within = omega (arith, c.serving-test.true);
      answers = i.answers ++ said.0 ∷ [];
      reliable = λ k. i.reliable (stays.reliable (said.1.reliable k));
      run = λ k m s.
          let read = said.1.reliable k in
          let run = i.run (stays.reliable read) m s in
          let here = stays.state read run.0 run.2 in
          let known = rw c.in-Ok-Some.field-0-is at (c.in-Ok-Some.ensures.known read run.0 run.2) in (
            answered run.0 message said.0,
            run-snoc _ m i.messages i.answers run.0 message said.0 run.1 (said.1.answer k run.0 message here known next.4),
            said.1.state k run.0 message here known next.4,
            λ states h. rw (left-snoc _ m states i.messages i.answers run.0 message said.0 run.1) (said.1.left k run.0 _ message here (stays.left read run.0 _ run.2 (run.3 states h)) known next.4),
          );
      written = rw (texts-snoc i.answers said.0) (writes_more _ _ _ _ _ i.written said.2);
      reads = c.in-Ok-Some.ensures.counted ∙ i.reads;
      counts = (c.in-Ok.ensures.counted.0 ∙ i.counts.0, c.in-Ok.ensures.counted.1 ∙ i.counts.1);
    }

pub returns-in-Err-clause-served : goal.returns-in-Err-clause-served
returns-in-Err-clause-served g c =
    let i = c.serving.invariant in
    let stays = c.next.ensures.stays in
    let next = c.in-Err.ensures.message in
    let chain = settled-append i.bytes i.messages c.serving.reader next.0 i.chain in
    let lt : length i.messages < c.args.limit = omega (arith, i.count, c.serving-test.true) in (
      i.messages,
      i.answers,
      λ k m s.
          let run = i.run (stays.reliable k) m s in (
            run.0,
            (
              i.bytes ++ next.0,
              moves_or_more _ _ _ i.bytes next.0 i.moved next.1,
              sure-unended c.args.limit _ i.messages _ next.2 chain next.3 lt,
              run.1,
              i.written,
            ),
            stays.state k run.0 run.2,
            λ states h. stays.left k run.0 _ run.2 (run.3 states h),
          ),
    )

pub returns-in-Err-respond-clause-served : goal.returns-in-Err-respond-clause-served
returns-in-Err-respond-clause-served g c =
    let i = c.serving.invariant in
    let stays = c.next.ensures.stays in
    let next = rw c.in-Ok-Some.field-0-is at c.in-Ok-Some.ensures.message in
    let said = c.in-Err-respond.ensures.sent in
    let message = next.1 in
    let chain = settled-append i.bytes i.messages c.serving.reader next.0 i.chain in
    let lt : length i.messages < c.args.limit = omega (arith, i.count, c.serving-test.true) in (
      i.messages ++ message ∷ [],
      i.answers ++ said.0 ∷ [],
      λ k m s.
          let read = said.1.reliable k in
          let run = i.run (stays.reliable read) m s in
          let here = stays.state read run.0 run.2 in
          let known = rw c.in-Ok-Some.field-0-is at (c.in-Ok-Some.ensures.known read run.0 run.2) in (
            answered run.0 message said.0,
            (
              i.bytes ++ next.0,
              i.answers,
              said.0,
              said.2.0,
              said.2.1,
              moves_more _ _ _ i.bytes next.0 i.moved next.2,
              begun c.args.limit _ i.messages _ message _ _ chain lt next.3,
              refl,
              said.2.2,
              said.2.3,
              run-snoc _ m i.messages i.answers run.0 message said.0 run.1 (said.1.answer k run.0 message here known next.4),
              writes_to_more _ _ _ _ _ i.written said.2.4,
            ),
            said.1.state k run.0 message here known next.4,
            λ states h. rw (left-snoc _ m states i.messages i.answers run.0 message said.0 run.1) (said.1.left k run.0 _ message here (stays.left read run.0 _ run.2 (run.3 states h)) known next.4),
          ),
    )
