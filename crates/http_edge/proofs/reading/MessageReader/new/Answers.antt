use Rattle.std.proofs.Common.{arith}
use Rattle.http_edge.proofs.HeadLemmas.{head_limit_is}
use Rattle.http_edge.proofs.reading.MessageReader.new.Goals as goal

pub invariant_of-result : goal.invariant_of-result
invariant_of-result c = (c.in_ok-router.ensures, rw head_limit_is (let fits = c.in_ok-buffer.ensures.1 in omega arith))
