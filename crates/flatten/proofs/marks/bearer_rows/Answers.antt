use Rattle.std.proofs.Common.{Bor, ◌∙◌, ◌++◌, map, reverse, refl, sym, ap, subst, arith, append-nil}
use Rattle.std.specs.Prelude.{◌↔◌, List, Ok, Option}
use Rattle.std.specs.List.{All}
use Rattle.std.proofs.lemmas.List.Elements.{All-nil}
use Rattle.dump.specs.Fault.{IsFaultless}
use Rattle.dump.specs.Places.{IsListing}
use Rattle.dump.specs.declared.checker.CheckedDump.{CheckedDump}
use Rattle.flatten.specs.Flat.{IsBearerRow, MarkRowValue, mark_cmp}
use Rattle.flatten.specs.Rows.{bearer_value, mark_value as mark_row_value}
use Rattle.flatten.specs.Steps.Borne.{MarkText, mark_values}
use Rattle.flatten.specs.Steps.Marks.{IsBorneMark, IsBorneRow, bearer_mark}
use Rattle.streams.proofs.Members.{nil_of}
use Rattle.dump.proofs.Listing.{same_listing}
use Rattle.flatten.proofs.MarkRows.{all_left, bearer_listing, borne_rows, next_is, one_less}
use Rattle.flatten.proofs.NumberPairs.{number_ones}
use Rattle.flatten.proofs.marks.bearer_rows.Goals as goal

pub loop-mark-init : goal.loop-mark-init
loop-mark-init c =
    let d = c.args.chains.now.dump.now.elements in
    let borne = c.args.chains.now.borne.items in
    let marks = mark_values c.args.marks.now in
    let found = map mark_row_value c.in_ok-left.left.items in
    let free = c.requires.faultless in
    let P = IsBorneRow d in
    let rows_are = subst (λ (ms : List (Option MarkText)). (row : MarkRowValue) → IsBorneMark borne ms row ↔ IsBorneRow d row) (sym c.requires.marks)
    (borne_rows d free (c.vertex_law.ensures d free) (number_ones d (c.line_law.ensures.one d)) (c.line_law.ensures.there d free) borne c.requires.borne (c.ends_law.ensures d free)) in
    let listed = same_listing mark_cmp (IsBorneMark borne marks) P found rows_are (subst (λ ps. IsListing mark_cmp (IsBorneMark ps marks) found) c.deref.ensures.value c.in_ok-left.ensures) in
    let all = ap (λ xs. reverse (map mark_row_value xs)) c.reverse.ensures.items ∙ all_left mark_row_value c.in_ok-left.left.items in (
      subst (λ rs. IsListing mark_cmp P (map bearer_mark (map bearer_value rs) ++ reverse (map mark_row_value c.reverse.new.self.items))) (sym c.new-rows.ensures.items) (subst (IsListing mark_cmp P) (sym all) listed),
      subst (λ rs. All (IsBearerRow d) (map bearer_value rs)) (sym c.new-rows.ensures.items) (All-nil (IsBearerRow d)),
      c.requires.chains,
      refl,
      refl,
    )

pub add_bearer-requires-clause-borne : goal.add_bearer-requires-clause-borne
add_bearer-requires-clause-borne c =
    let inv = c.loop-mark.invariant in
    subst (λ (b : Bor CheckedDump). IsBorneRow b.now.elements (mark_row_value c.in-Some.mark)) (sym inv.3)
    (next_is mark_row_value (IsBorneRow c.args.chains.now.dump.now.elements) (map bearer_mark (map bearer_value c.loop-mark.rows.items)) c.loop-mark.left.items c.pop.new.self.items c.in-Some.mark c.in-Some.ensures.items inv.0)

pub add_bearer-requires-clause-faultless : goal.add_bearer-requires-clause-faultless
add_bearer-requires-clause-faultless c = subst (λ (b : Bor CheckedDump). IsFaultless (map Ok b.now.elements)) (sym c.loop-mark.invariant.3) c.requires.faultless

pub loop-mark-preserved : goal.loop-mark-preserved
loop-mark-preserved c =
    let d = c.args.chains.now.dump.now.elements in
    let inv = c.loop-mark.invariant in
    let more = map bearer_mark (map bearer_value c.add_bearer.new.rows.items) in
    let done = map bearer_mark (map bearer_value c.loop-mark.rows.items) in (
      subst (IsListing mark_cmp (IsBorneRow d)) (sym (one_less mark_row_value done more c.loop-mark.left.items c.pop.new.self.items c.in-Some.mark c.in-Some.ensures.items c.in_ok-add_bearer.ensures.marks)) inv.0,
      rw inv.3 at c.in_ok-add_bearer.ensures.rows,
      c.in_ok-add_bearer.ensures.chains,
      c.in_ok-add_bearer.ensures.dump ∙ inv.3,
      c.in_ok-add_bearer.ensures.borne ∙ inv.4,
    )

pub returns : goal.returns
returns c =
    let d = c.args.chains.now.dump.now.elements in
    let rows = map bearer_value c.loop-mark.rows.items in
    let done = map bearer_mark rows in
    let empty = nil_of c.loop-mark.left.items (omega (arith, c.loop-mark.left.ok.0, c.in_default.ensures.cases.0)) in
    let listed = subst (IsListing mark_cmp (IsBorneRow d)) (ap (λ l. done ++ reverse (map mark_row_value l)) empty ∙ append-nil done) c.loop-mark.invariant.0 in
    bearer_listing d (number_ones d (c.line_law.ensures.one d)) (λ request x found other. c.pick_law.ensures.first request d x found other) rows done refl listed c.loop-mark.invariant.1
