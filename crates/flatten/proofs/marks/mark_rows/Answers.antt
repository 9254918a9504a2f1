use Rattle.std.proofs.Common.{Bor, ◌≡◌, ◌∙◌, ℕ, List, [], ◌∷◌, length, map, refl, sym, ap, subst, arith}
use Rattle.std.specs.Prelude.{◌↔◌, Option}
use Rattle.std.proofs.lemmas.Map.Views.{exact_unsigned_eq}
use Rattle.dump.specs.Places.{IsListing}
use Rattle.dump.specs.declared.checker.CheckedDump.{CheckedDump}
use Rattle.flatten.specs.Flat.{IsMarkRow, MarkRowValue, mark_cmp}
use Rattle.flatten.specs.Rows.{mark_value as mark_row_value}
use Rattle.flatten.specs.Steps.Kinds.{said}
use Rattle.flatten.specs.Steps.Borne.{MarkText, mark_values}
use Rattle.flatten.specs.Steps.Marks.{IsMarkOfRange}
use Rattle.flatten.specs.Steps.Tables.{Adds, OfOne}
use Rattle.flatten.proofs.Listing.{added_listing, adds_done, adds_same, adds_step, no_listing}
use Rattle.flatten.proofs.MarkRows.{no_marks, range_marks}
use Rattle.flatten.proofs.NumberPairs.{number_ones}
use Rattle.flatten.proofs.OfKinds.{marks_of_ranges}
use Rattle.flatten.proofs.marks.mark_rows.Goals as goal

pub loop-element-preserved : goal.loop-element-preserved
loop-element-preserved c =
    let inv = c.loop-element.invariant in
    let d = c.args.chains.now.dump.now.elements in
    let borne = c.args.chains.now.borne.items in
    let here = c.loop-element.chains.dump.now.elements in
    let marks = mark_values c.args.marks.now in
    let old = map mark_row_value c.loop-element.rows.items in
    let more = map mark_row_value c.add_range.new.rows.items in
    let x = c.element-item.result in
    let added = subst (λ e. Adds old (IsMarkOfRange e borne marks (said x)) more) (ap (λ (b : Bor CheckedDump). b.now.elements) inv.2)
    (subst (λ b. Adds old (IsMarkOfRange here b marks (said x)) more) (ap (λ v. v.items) inv.3) c.in_ok-add_range.ensures.rows) in (
      adds_step said (IsMarkOfRange d borne marks) [] old more c.args.ranges.now c.loop-element.element-index x (omega (arith, c.loop-element-test.true)) c.element-item.is inv.0 added,
      c.in_ok-add_range.ensures.chains,
      c.in_ok-add_range.ensures.dump ∙ inv.2,
      c.in_ok-add_range.ensures.borne ∙ inv.3,
    )

no_pairs : (pairs : List (ℕ × ℕ)) → length pairs ≡ 0 → pairs ≡ []
no_pairs [] e = refl
no_pairs (p ∷ pairs) e = absurd (omega (arith, e))

pub returns-then-is_empty-clause-rows : goal.returns-then-is_empty-clause-rows
returns-then-is_empty-clause-rows c =
    let d = c.args.chains.now.dump.now.elements in
    let borne = c.args.chains.now.borne.items in
    let free = c.requires.faultless in
    let none : borne ≡ [] = no_pairs borne (sym c.args.chains.now.borne.ok.0 ∙ exact_unsigned_eq c.args.chains.now.borne.len 0 (sym c.is_empty.ensures ∙ c.if-is_empty.true)) in
    subst (λ l. IsListing mark_cmp (IsMarkRow d) (map mark_row_value l)) (sym c.new.ensures.items)
    (no_listing mark_cmp (IsMarkRow d) (no_marks d free (c.vertex_law.ensures d free) (number_ones d (c.line_law.ensures.one d)) (c.line_law.ensures.there d free) borne c.requires.borne (c.ends_law.ensures d free) none))

pub returns-clause-rows : goal.returns-clause-rows
returns-clause-rows c =
    let d = c.args.chains.now.dump.now.elements in
    let borne = c.args.chains.now.borne.items in
    let free = c.requires.faultless in
    let list = c.args.ranges.now in
    let marks = mark_values c.args.marks.now in
    let P = IsMarkOfRange d borne marks in
    let rows = map mark_row_value c.loop-element.rows.items in
    let added = adds_same [] (OfOne P (map said list)) (OfOne P d) rows (marks_of_ranges d borne marks list c.requires.ranges) (adds_done said P [] rows list c.loop-element.element-index (omega (arith, c.loop-element-test.false)) c.loop-element.invariant.0) in
    added_listing mark_cmp P (IsMarkRow d) d rows (map mark_row_value c.list_rows.new.rows.items) added c.list_rows.ensures
    (subst (λ (ms : List (Option MarkText)). (row : MarkRowValue) → OfOne (IsMarkOfRange d borne ms) d row ↔ IsMarkRow d row) (sym c.requires.marks)
    (range_marks d free (c.vertex_law.ensures d free) (number_ones d (c.line_law.ensures.one d)) (c.line_law.ensures.there d free) borne c.requires.borne (c.ends_law.ensures d free)))
