use Rattle.std.proofs.Common.{◌≡◌, ◌≤◌, ◌∙◌, ℕ, false, leb, ltb, get_or, ap, arith}
use Rattle.std.proofs.lemmas.List.{get_or_default}
use Rattle.flatten.proofs.closure.count_up_to.Goals as goal

above : (m n v : ℕ) → m ≤ n → ltb m v ≡ false → (m ≡ v → ⊥) → leb n v ≡ false
above m n v le below other = grind (arith, le, below, other)

pub returns-else-pairs-count-clause-point : goal.returns-else-pairs-count-clause-point
returns-else-pairs-count-clause-point g c =
    let pairs = c.args.pairs.now in
    let k = c.loop-count.count in
    let held = c.loop-count.invariant in (
      held.2,
      λ i d from short. above (get_or pairs k d).0 (get_or pairs i d).0 c.args.source (c.requires.sorted k i d from short) (c.requires.point.1 k d held.0 c.loop-count-test.true)
          (λ same. c.if-pairs-count.false (ap (λ (p : ℕ × _). p.0) (get_or_default pairs k c.index-pairs-count.result d c.loop-count-test.true) ∙ same)),
    )
