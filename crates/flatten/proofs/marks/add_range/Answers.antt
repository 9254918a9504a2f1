use Rattle.std.proofs.Common.{◌≡◌, ◌∙◌, map, rules, ap, sym, subst}
use Rattle.std.proofs.lemmas.Result.{on_ok_weaker}
use Rattle.lsif.specs.Element.{id_value, range, ElementValue, vertex, element_value}
use Rattle.flatten.specs.Flat.{number_of}
use Rattle.flatten.specs.Rows.{mark_value as mark_row_value}
use Rattle.flatten.specs.Steps.Borne.{mark_values}
use Rattle.flatten.specs.Steps.Marks.{IsMarkAlong, IsMarkOfRange}
use Rattle.flatten.specs.Steps.Tables.{Adds}
use Rattle.flatten.proofs.Listing.{adds_same}
use Rattle.flatten.proofs.MarkRows.{marks_of_range}
use Rattle.flatten.proofs.marks.add_range.Goals as goal

pub returns-in-Some-clause-rows : goal.returns-in-Some-clause-rows
returns-in-Some-clause-rows c =
    let d = c.args.chains.now.dump.now.elements in
    let borne = c.args.chains.now.borne.items in
    let marks = mark_values c.args.marks.now in
    let number = c.in-Some.number in
    let i = id_value c.in-Vertex-default-Range.id in
    let old = map mark_row_value c.args.rows.now.items in
    let new = map mark_row_value c.add_chain.new.rows.items in
    let is : element_value c.args.element.now ≡ vertex i (range c.in-Vertex-default-Range.field-1-0) = search rules in
    on_ok_weaker c.add_chain.result
    (λ a. subst (λ (x : ElementValue). Adds old (IsMarkOfRange d borne marks x) new) (sym is) (adds_same old (IsMarkAlong d borne marks number i) _ new (marks_of_range d borne marks i c.in-Vertex-default-Range.field-1-0 number (ap (number_of d) (sym c.lent.ensures) ∙ sym c.in-Some.ensures)) a))
    c.add_chain.ensures.rows
