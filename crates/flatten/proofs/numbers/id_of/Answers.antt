use Rattle.std.proofs.Common.{◌≡◌, ◌∙◌, ◌<◌, length, get_or, sym, ap, arith}
use Rattle.std.specs.Prelude.{Some}
use Rattle.std.proofs.lemmas.List.{get_or-map}
use Rattle.lsif.specs.Element.{element_id, element_value}
use Rattle.flatten.proofs.Rising.{at_number}
use Rattle.flatten.proofs.numbers.id_of.Goals as goal

pub returns-in-Some : goal.returns-in-Some
returns-in-Some c x at =
    let d = c.args.dump.now.elements in
    let k = c.in_ok-checked_sub.field-0 in
    let items = c.elements.result.now in
    let element = c.in-Some.element.now in
    let found = c.in-Some.ensures.lookup in
    let r = at_number d x c.args.number k (element_value element) at (omega (arith, c.in_ok-checked_sub.ensures.0, c.in_ok-checked_sub.ensures.1)) in
    let lt : k < length items = grind (arith, found.0) in
    let here : element_value element ≡ get_or d k (element_value element) = ap element_value found.1 ∙ sym (get_or-map element_value items k element (element_value element) lt) ∙ ap (λ es. get_or es k (element_value element)) c.elements.ensures.value in
    ap (λ i. Some i) (c.id.ensures ∙ ap element_id here ∙ r.1)
