use Rattle.std.proofs.Common.{◌≡◌, ◌==◌, ◌∙◌, ◌++◌, ℕ, map, filter, sym, ap}
use Rattle.lsif.specs.Element.{id_value}
use Rattle.flatten.specs.Flat.{number_of}
use Rattle.flatten.specs.Rows.{mark_value as mark_row_value}
use Rattle.flatten.specs.Steps.Borne.{mark_values}
use Rattle.flatten.specs.Steps.Marks.{IsMarkOfVertex, marks_of}
use Rattle.flatten.proofs.Listing.{adds_list}
use Rattle.flatten.proofs.MarkRows.{vertex_marks}
use Rattle.flatten.proofs.marks.add_member.Goals as goal

pub returns-in_ok-add_targets : goal.returns-in_ok-add_targets
returns-in_ok-add_targets c =
    let d = c.args.chains.now.dump.now.elements in
    let borne = c.args.chains.now.borne.items in
    let marks = mark_values c.args.marks.now in
    let number = c.args.number in
    let x = id_value c.args.member.now in
    let n = c.in-Some.vertex in
    let old = map mark_row_value c.args.rows.now.items in
    let new = map mark_row_value c.add_targets.new.rows.items in
    let its = filter (λ (p : ℕ × ℕ). p.0 == n) in
    let pairs : c.pairs_from-pairs.result.now ≡ its borne = c.pairs_from-pairs.ensures ∙ ap its c.deref.ensures.value in
    adds_list old (marks_of number marks (its borne)) (IsMarkOfVertex d borne marks number x) new (vertex_marks d borne marks number x n (ap (number_of d) (sym c.lent.ensures) ∙ sym c.in-Some.ensures)) (c.in_ok-add_targets.ensures ∙ ap (λ ps. old ++ marks_of number marks ps) pairs)
