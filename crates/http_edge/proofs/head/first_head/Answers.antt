use Rattle.std.proofs.Common.{arith}
use Rattle.http_edge.proofs.HeadLemmas.{head_limit_is, found_fits, found_fits_more, settles_found, settles_long, head_unended}
use Rattle.http_edge.proofs.head.first_head.Goals as goal

pub slice_bounds-judge-end : goal.slice_bounds-judge-end
slice_bounds-judge-end c =
    found_fits c.args.bytes.now c.min.result c.in-Some.len c.in-Some.ensures

pub returns-in-Some : goal.returns-in-Some
returns-in-Some c = record {
  settles = settles_found c.args.bytes.now c.min.result c.in-Some.len c.judge.result (rw head_limit_is c.min.ensures) c.in-Some.ensures c.judge.ensures.says c.judge.ensures.fits;
  fits = found_fits_more c.args.bytes.now c.min.result c.in-Some.len c.judge.result c.in-Some.ensures c.judge.ensures.fits;
}

pub returns-then-bytes-lt-HEAD_LIMIT : goal.returns-then-bytes-lt-HEAD_LIMIT
returns-then-bytes-lt-HEAD_LIMIT c = record {
  settles = head_unended c.args.bytes.now c.min.result (rw head_limit_is c.min.ensures) c.in-None.ensures (rw head_limit_is c.if-bytes-lt-HEAD_LIMIT.true);
  fits = tt;
}

pub returns-else-bytes-lt-HEAD_LIMIT : goal.returns-else-bytes-lt-HEAD_LIMIT
returns-else-bytes-lt-HEAD_LIMIT c = record {
  settles = (omega arith, settles_long c.args.bytes.now c.min.result (rw head_limit_is c.min.ensures) c.in-None.ensures (rw head_limit_is c.if-bytes-lt-HEAD_LIMIT.false));
  fits = tt;
}
