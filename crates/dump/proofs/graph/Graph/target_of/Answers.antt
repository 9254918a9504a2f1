use Rattle.std.proofs.Common.{◌≡◌, ◌∙◌, sym, ap, subst, List, map, find}
use Rattle.std.specs.Prelude.{option_map}
use Rattle.lsif.specs.Element.{ElementValue, element_value}
use Rattle.lsif.specs.Lent.{lent_value}
use Rattle.dump.specs.Steps.Links.{single_target, is_single}
use Rattle.dump.proofs.TablesAfter.{led_some, led_none}
use Rattle.dump.proofs.FirstIndices.{first_to-single}
use Rattle.dump.proofs.graph.Graph.target_of.Goals as goal

pub returns-in-Some : goal.returns-in-Some
returns-in-Some c =
    let i = lent_value c.args.id in
    let same : map element_value c.deref.result.now ≡ c.args.self.now = ap (map element_value) c.deref.ensures.value ∙ c.self.view_is in
    let found = subst (λ (d : List ElementValue). option_map (λ e. element_value e.now) c.linked.result ≡ find (is_single c.args.label i) d) same c.linked.ensures in
    c.target.ensures ∙ led_some single_target _ _ _ _ c.in-Some.is found ∙ sym (first_to-single c.args.label c.args.self.now i)

pub returns-in-None : goal.returns-in-None
returns-in-None c =
    let i = lent_value c.args.id in
    let same : map element_value c.deref.result.now ≡ c.args.self.now = ap (map element_value) c.deref.ensures.value ∙ c.self.view_is in
    let found = subst (λ (d : List ElementValue). option_map (λ e. element_value e.now) c.linked.result ≡ find (is_single c.args.label i) d) same c.linked.ensures in
    led_none single_target _ _ _ c.in-None.is found ∙ sym (first_to-single c.args.label c.args.self.now i)
