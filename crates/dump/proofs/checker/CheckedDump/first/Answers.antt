use Rattle.std.proofs.Common.{◌∙◌, sym}
use Rattle.lsif.specs.Element.{id_value}
use Rattle.dump.proofs.Progresses.{faultless}
use Rattle.dump.proofs.checker.CheckedDump.first.Goals as goal

pub first_result-requires : goal.first_result-requires
first_result-requires c = c.chain_law.ensures.chain c.self.inside.graph (faultless c.self.inside.graph c.self.invariant.1 c.self.invariant.2) (id_value c.args.vertex.now)

pub returns-clause-value : goal.returns-clause-value
returns-clause-value c =
    let chain = c.chain_law.ensures.chain c.self.inside.graph (faultless c.self.inside.graph c.self.invariant.1 c.self.invariant.2) (id_value c.args.vertex.now) in
    rw (← c.self.view_is) (chain.0, chain.1, c.first_result.ensures chain.0 chain.1)

pub returns-clause-only : goal.returns-clause-only
returns-clause-only c = rw (← c.self.view_is) (λ other h. h.2 ∙ sym (c.first_result.ensures h.0 h.1))

pub returns-clause-faultless : goal.returns-clause-faultless
returns-clause-faultless c = rw (← c.self.view_is) (faultless c.self.inside.graph c.self.invariant.1 c.self.invariant.2)
