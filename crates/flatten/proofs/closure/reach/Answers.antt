use Rattle.std.proofs.Common.{ℕ, subst}
use Rattle.std.specs.Prelude.{◌↔◌, Contains}
use Rattle.flatten.specs.Reached.{IsReached}
use Rattle.flatten.proofs.Closures.{relisted}
use Rattle.flatten.proofs.closure.reach.Goals as goal

pub returns : goal.returns
returns c =
    let first = c.in_ok-found.found in
    let all = c.follow.new.found in
    let sorted = c.in_ok-sorted.sorted.items in
    let reached : (y : ℕ) → Contains all y ↔ IsReached first sorted y = subst (λ pairs. (y : ℕ) → Contains all y ↔ IsReached first pairs y) c.deref.ensures.value c.in_ok-follow.ensures in
    relisted c.args.starts.now first all c.args.pairs.now sorted c.listed.result.items c.in_ok-sorted.ensures.all c.in_ok-found.ensures reached c.listed.ensures
