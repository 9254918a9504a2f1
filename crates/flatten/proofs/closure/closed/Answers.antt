use Rattle.flatten.proofs.Closures.{reached_from}
use Rattle.flatten.proofs.closure.closed.Goals as goal

pub returns : goal.returns
returns c = reached_from c.args.start c.in_ok-found.found c.follow.new.found c.args.pairs.now c.in_ok-found.ensures c.in_ok-follow.ensures
