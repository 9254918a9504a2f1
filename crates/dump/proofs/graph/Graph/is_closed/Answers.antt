use Rattle.std.proofs.Common.{◌∙◌, sym, ap}
use Rattle.lsif.specs.Lent.{lent_value}
use Rattle.dump.specs.Ended.{has_ended}
use Rattle.dump.specs.Steps.Tables.{passes}
use Rattle.dump.proofs.Known.{closed_container}
use Rattle.dump.proofs.graph.Graph.is_closed.Goals as goal

pub returns-in-Some : goal.returns-in-Some
returns-in-Some c = c.has_ended.ensures ∙ ap (has_ended c.args.self.now) c.lent.ensures ∙ ap (passes (has_ended c.args.self.now)) (rw c.in-Some.is at c.container.ensures) ∙ sym (closed_container c.args.self.now c.requires (lent_value c.args.range))

pub returns-in-None : goal.returns-in-None
returns-in-None c = ap (passes (has_ended c.args.self.now)) (rw c.in-None.is at c.container.ensures) ∙ sym (closed_container c.args.self.now c.requires (lent_value c.args.range))
