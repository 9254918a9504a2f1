use Rattle.std.proofs.Common.{◌≡◌, ◌∙◌, ℕ, Some, rules, ap, sym, subst}
use Rattle.std.specs.Prelude.{◌↔◌, Contains}
use Rattle.lsif.specs.Element.{id_value, moniker_edge, ElementValue, edge, element_value}
use Rattle.lsif.specs.Lent.{lent_value}
use Rattle.dump.specs.Walks.{Path}
use Rattle.flatten.specs.Flat.{number_of}
use Rattle.flatten.specs.Steps.Borne.{IsBorneBy}
use Rattle.flatten.specs.Steps.Numbers.{both_numbers}
use Rattle.flatten.specs.Steps.Tables.{Adds}
use Rattle.flatten.proofs.MarkRows.{borne_adds}
use Rattle.flatten.proofs.borne.add_borne.Goals as goal

pub returns : goal.returns
returns c =
    let d = c.args.dump.now.elements in
    let attached = c.args.attached.now in
    let old = c.args.pairs.now.items in
    let new = c.add_monikers.new.pairs.items in
    let near = c.numbers-2.result.now in
    let m = c.in-Some.moniker in
    let from = id_value c.in-Edge-default-Moniker.from in
    let to = id_value c.in-Edge-default-Moniker.to in
    let i = id_value c.in-Edge-default-Moniker.field-0 in
    let is : element_value c.args.element.now ≡ edge i (moniker_edge from to) = search rules in
    let all : (y : ℕ) → Contains near y ↔ Path attached m y = subst (λ ns. (y : ℕ) → Contains ns y ↔ Path attached m y) (sym c.numbers-2.ensures) c.in_ok-near.ensures in
    let numbered : both_numbers (number_of d from) (number_of d to) ≡ Some (c.in-Some.vertex, m) =
    ap (λ v. both_numbers (number_of d v) (number_of d to)) (sym c.lent.ensures) ∙ ap (λ v. both_numbers (number_of d (lent_value c.lent.result)) (number_of d v)) (sym c.lent-2.ensures) ∙ sym c.in-Some.ensures in
    subst (λ (x : ElementValue). Adds old (IsBorneBy d attached x) new) (sym is) (borne_adds d attached old new near i from to c.in-Some.vertex m numbered all c.in_ok-add_monikers.ensures)
