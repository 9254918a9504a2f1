use Rattle.std.proofs.Common.{◌∙◌, ap, arith}
use Rattle.lsif.specs.Element.{id_value}
use Rattle.dump.specs.Walks.{first_to, single_pairs, next_pairs}
use Rattle.dump.proofs.Chains.{follows, last}
use Rattle.dump.proofs.Leads.{few_pairs}
use Rattle.dump.proofs.walks.first_result.Goals as goal

pub loop-step-init : goal.loop-step-init
loop-step-init c = follows (next_pairs c.args.graph.now) (single_pairs c.args.label c.args.graph.now) (id_value c.args.from.now) c.requires.0 c.requires.1

pub returns : goal.returns
returns c = λ xs ends. c.target_of-2.ensures ∙ ap (first_to (single_pairs c.args.label c.args.graph.now)) c.lent-2.ensures ∙ last (next_pairs c.args.graph.now) (single_pairs c.args.label c.args.graph.now) (id_value c.args.from.now) (id_value c.loop-step.vertex.now) c.loop-step._step c.loop-step.invariant (omega (arith, few_pairs c.args.graph.now)) xs ends
