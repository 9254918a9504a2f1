use Rattle.std.proofs.Common.{◌≡◌, ◌∙◌, ℕ, length, map, ap, subst, arith}
use Rattle.std.specs.Prelude.{◌↔◌, Contains}
use Rattle.flatten.specs.Steps.Parents.{IsLinkPair, interval_value}
use Rattle.flatten.proofs.OpenIntervals.{pairs_none, pairs_some}
use Rattle.flatten.proofs.parents.link_pairs.Goals as goal
use Rattle.flatten.proofs.parents.link_pairs.Goals.{in-Some+in_ok-push, in_default}

pub loop-inner-preserved : goal.loop-inner-preserved
loop-inner-preserved c =
    let xs = c.args.intervals.now in
    let links = c.args.links.now in
    let k = c.loop-inner.inner in
    let pairs = c.loop-inner.pairs.items in
    elim c.match-link.branch [
      | in-Some+in_ok-push w ↦ pairs_some interval_value xs _ links k w.in-Some.outer pairs c.match-link.pairs.items c.requires.links c.requires.length c.loop-inner-test.true w.in-Some.is (ap (λ v. v.items) w.pairs-is ∙ w.in_ok-push.ensures.items) c.loop-inner.invariant
      | in_default w ↦ pairs_none (map interval_value xs) links k pairs c.match-link.pairs.items w.in_default.is (ap (λ v. v.items) w.pairs-is) c.loop-inner.invariant
    ]

pub returns : goal.returns
returns c =
    let all : c.loop-inner.inner ≡ length c.args.links.now = omega arith in
    subst (λ n. (p : ℕ × ℕ) → Contains c.loop-inner.pairs.items p ↔ IsLinkPair (map interval_value c.args.intervals.now) c.args.links.now n p) all c.loop-inner.invariant
