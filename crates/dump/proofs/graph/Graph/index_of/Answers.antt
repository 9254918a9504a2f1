use Rattle.std.proofs.Common.{◌≡◌, ◌∙◌, ap, subst, List, map}
use Rattle.lsif.specs.Element.{ElementValue, element_value}
use Rattle.lsif.specs.Lent.{lent_value}
use Rattle.dump.specs.Steps.Chains.{index_in}
use Rattle.dump.specs.Steps.Tables.{has_id}
use Rattle.dump.proofs.FirstIndices.{position_below}
use Rattle.dump.proofs.graph.Graph.index_of.Goals as goal

pub returns-clause-value : goal.returns-clause-value
returns-clause-value c =
    let same : map element_value c.deref.result.now ≡ c.args.self.now = ap (map element_value) c.deref.ensures.value ∙ c.self.view_is in
    subst (λ (d : List ElementValue). c.index_of_id.result ≡ index_in d (lent_value c.args.id)) same c.index_of_id.ensures

pub returns-clause-below : goal.returns-clause-below
returns-clause-below c =
    let same : map element_value c.deref.result.now ≡ c.args.self.now = ap (map element_value) c.deref.ensures.value ∙ c.self.view_is in
    position_below (has_id (lent_value c.args.id)) c.args.self.now c.index_of_id.result (subst (λ (d : List ElementValue). c.index_of_id.result ≡ index_in d (lent_value c.args.id)) same c.index_of_id.ensures)
