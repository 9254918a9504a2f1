use Rattle.std.proofs.Common.{◌∙◌, sym, ap}
use Rattle.lsif.specs.Element.{same_id}
use Rattle.lsif.specs.Lent.{lent_value}
use Rattle.dump.specs.Steps.Tables.{is_id}
use Rattle.dump.proofs.Known.{in_container}
use Rattle.dump.proofs.graph.Graph.is_in.Goals as goal

pub returns-in-Some : goal.returns-in-Some
returns-in-Some c = c.is.ensures.value ∙ ap (λ i. same_id i (lent_value c.args.document)) c.lent.ensures ∙ ap (is_id (lent_value c.args.document)) (rw c.in-Some.is at c.container.ensures) ∙ sym (in_container c.args.self.now c.requires (lent_value c.args.document) (lent_value c.args.range))

pub returns-in-None : goal.returns-in-None
returns-in-None c = ap (is_id (lent_value c.args.document)) (rw c.in-None.is at c.container.ensures) ∙ sym (in_container c.args.self.now c.requires (lent_value c.args.document) (lent_value c.args.range))
