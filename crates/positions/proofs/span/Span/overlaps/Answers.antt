use Rattle.std.proofs.Common.{◌≡◌, ◌∙◌, sym, rules}
use Rattle.positions.specs.Span.{overlaps}
use Rattle.positions.proofs.Overlaps.{overlaps-covered, covered-overlaps}
use Rattle.positions.proofs.span.Span.overlaps.Goals as goal

pub returns-clause-meaning : goal.returns-clause-meaning
returns-clause-meaning c =
    let is : c.is_before.result ≡ overlaps c.args.self c.args.other = search rules in
    (λ h. overlaps-covered c.args.self c.args.other (sym is ∙ h), λ k. is ∙ covered-overlaps c.args.self c.args.other k.0 k.1.0 k.1.1)
