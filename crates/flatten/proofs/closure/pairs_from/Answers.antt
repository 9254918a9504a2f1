use Rattle.std.proofs.Common.{ℕ}
use Rattle.flatten.proofs.Runs.{in_order, part}
use Rattle.flatten.proofs.closure.pairs_from.Goals as goal

pub slice_bounds-result-count : goal.slice_bounds-result-count
slice_bounds-result-count g c = in_order (λ (p : ℕ × _). p.0) c.args.pairs.now c.args.source _ _ c.count_below-start.ensures.point c.count_up_to-end.ensures.point c.count_below-start.ensures.bound c.count_up_to-end.ensures.bound

pub slice_bounds-result-start : goal.slice_bounds-result-start
slice_bounds-result-start g c = in_order (λ (p : ℕ × _). p.0) c.args.pairs.now c.args.source _ _ c.count_below-start.ensures.point c.count_up_to-end.ensures.point c.count_below-start.ensures.bound c.count_up_to-end.ensures.bound

pub returns : goal.returns
returns g c =
    let le = in_order (λ (p : ℕ × _). p.0) c.args.pairs.now c.args.source _ _ c.count_below-start.ensures.point c.count_up_to-end.ensures.point c.count_below-start.ensures.bound c.count_up_to-end.ensures.bound in
    part (λ (p : ℕ × _). p.0) c.args.pairs.now c.args.source _ _ c.count_below-start.ensures.point c.count_up_to-end.ensures.point le c.count_up_to-end.ensures.bound
