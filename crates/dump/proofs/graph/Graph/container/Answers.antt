use Rattle.std.proofs.Common.{◌≡◌, ◌∙◌, ap, subst, List, map, find}
use Rattle.std.specs.Prelude.{option_map}
use Rattle.lsif.specs.Element.{ElementValue, element_value}
use Rattle.lsif.specs.Lent.{lent_value}
use Rattle.dump.specs.Contained.{contains_range}
use Rattle.dump.specs.Contained.{contains_source}
use Rattle.dump.proofs.TablesAfter.{led_some, led_none}
use Rattle.dump.proofs.graph.Graph.container.Goals as goal

pub returns-in-Some : goal.returns-in-Some
returns-in-Some c =
    let same : map element_value c.deref.result.now ≡ c.args.self.now = ap (map element_value) c.deref.ensures.value ∙ c.self.view_is in
    let found = subst (λ (d : List ElementValue). option_map (λ e. element_value e.now) c.linked.result ≡ find (contains_range d (lent_value c.args.range)) d) same c.linked.ensures in
    c.contains_source.ensures ∙ led_some contains_source _ _ _ _ c.in-Some.is found

pub returns-in-None : goal.returns-in-None
returns-in-None c =
    let same : map element_value c.deref.result.now ≡ c.args.self.now = ap (map element_value) c.deref.ensures.value ∙ c.self.view_is in
    let found = subst (λ (d : List ElementValue). option_map (λ e. element_value e.now) c.linked.result ≡ find (contains_range d (lent_value c.args.range)) d) same c.linked.ensures in
    led_none contains_source _ _ _ c.in-None.is found
