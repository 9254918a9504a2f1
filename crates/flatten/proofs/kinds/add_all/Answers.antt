use Rattle.std.proofs.Common.{◌≡◌, ◌∙◌, ◌+◌, [], ◌∷◌, map, drop, sym, ap, subst}
use Rattle.std.proofs.Math.ListN.{drop_of_length-le}
use Rattle.std.specs.Borrow.{Bor}
use Rattle.std.specs.Prelude.{Contains, Ok}
use Rattle.std.specs.List.{All}
use Rattle.std.proofs.lemmas.List.Elements.{All-cons, All-contains, All-nil, Contains-get_or}
use Rattle.lsif.specs.Element.{element_value, range, vertex}
use Rattle.streams.proofs.Lists.{drop_next}
use Rattle.streams.proofs.Members.{contains_map}
use Rattle.dump.specs.Fault.{IsFaultless}
use Rattle.dump.specs.declared.checker.CheckedDump.{CheckedDump}
use Rattle.dump.specs.Places.{IsListing}
use Rattle.flatten.specs.Flat.{IsHoverRow, by_result}
use Rattle.flatten.specs.Rows.{hover_value, range_value}
use Rattle.flatten.specs.Steps.Documents.{hovers_in}
use Rattle.flatten.specs.Steps.Parents.{IsWithinLimit, interval_value, intervals_in}
use Rattle.flatten.specs.Steps.Ranges.{IsFoundRange, range_lines}
use Rattle.flatten.proofs.DocumentLists.{hover_listing}
use Rattle.flatten.proofs.OfKinds.{AreTaken, HasSaid, said_all, said_at, said_more, taken_all, taken_more}
use Rattle.flatten.proofs.kinds.add_all.Goals as goal

pub add_found-requires-clause-faultless : goal.add_found-requires-clause-faultless
add_found-requires-clause-faultless c = subst (λ d. IsFaultless (map Ok d)) (sym (ap (λ v. v.elements) c.loop-element.invariant.5)) c.elements-element-items.ensures.faultless

pub add_found-requires-clause-element : goal.add_found-requires-clause-element
add_found-requires-clause-element c =
    let items = c.elements-element-items.result.now in
    let k = c.loop-element.element-index in
    let x = c.element-item.result in
    let here = contains_map element_value items x (subst (Contains items) (sym c.element-item.is) (Contains-get_or items k x c.loop-element-test.true)) in
    subst (λ l. Contains l (element_value x)) (c.elements-element-items.ensures.value ∙ ap (λ v. v.elements) (sym c.loop-element.invariant.5)) here

pub add_found-requires-clause-found : goal.add_found-requires-clause-found
add_found-requires-clause-found c = subst (λ v. All (IsFoundRange v.elements) (map range_value c.loop-element.gathered.ranges.items)) (sym c.loop-element.invariant.5) c.loop-element.invariant.3

pub loop-element-preserved : goal.loop-element-preserved
loop-element-preserved c =
    let d = c.args.gathered.now.kinds.dump.now.elements in
    let items = c.elements-element-items.result.now in
    let k = c.loop-element.element-index in
    let x = c.element-item.result in
    let rest = map element_value (drop (k + 1) items) in
    let same = ap (λ v. v.elements) c.loop-element.invariant.5 in
    let left : map element_value (drop k items) ≡ element_value x ∷ rest = ap (map element_value) (drop_next items k x c.loop-element-test.true c.element-item.is) in
    let old = map (λ r. r.line) (map range_value c.loop-element.gathered.ranges.items) in
    let new = map (λ r. r.line) (map range_value c.add_found.new.found.items) in (
      taken_more d rest (element_value x) c.loop-element.gathered.kinds c.add.new.kinds (ap (λ v. v.elements) c.loop-element.invariant.1) (subst (λ l. AreTaken d l c.loop-element.gathered.kinds) left c.loop-element.invariant.0) c.in_ok-add.ensures.takes,
      ap (λ (b : Bor CheckedDump). b.now) c.in_ok-add.ensures.dump ∙ c.loop-element.invariant.1,
      said_more (range_lines d) d rest (element_value x) old new (subst (λ l. HasSaid (range_lines d) d l old) left c.loop-element.invariant.2) (said_at range_lines d _ (element_value x) old new same c.in_ok-add_found.ensures.lines),
      subst (λ e. All (IsFoundRange e) (map range_value c.add_found.new.found.items)) same c.in_ok-add_found.ensures.found,
      c.in_ok-add_found.ensures.chains,
      ap (λ (b : Bor CheckedDump). b.now) c.in_ok-add_found.ensures.dump ∙ c.loop-element.invariant.5,
      said_more (hovers_in d) d rest (element_value x) _ _ (subst (λ l. HasSaid (hovers_in d) d l (map hover_value c.loop-element.gathered.hovers.items)) left c.loop-element.invariant.6) c.in_ok-add_hover.ensures,
      said_more (intervals_in d) d rest (element_value x) _ _ (subst (λ l. HasSaid (intervals_in d) d l (map interval_value c.loop-element.gathered.intervals.items)) left c.loop-element.invariant.7) c.in_ok-add_interval.ensures.intervals,
      λ all. c.loop-element.invariant.8 (subst (All IsWithinLimit) (sym left) (All-cons IsWithinLimit (element_value x) rest c.in_ok-add_interval.ensures.within all)),
    )

pub returns-clause-kinds : goal.returns-clause-kinds
returns-clause-kinds c =
    let d = c.args.gathered.now.kinds.dump.now.elements in
    let kinds = c.loop-element.gathered.kinds in
    let same : kinds.dump.now.elements ≡ d = ap (λ v. v.elements) c.loop-element.invariant.1 in
    let empty = drop_of_length-le c.elements-element-items.result.now c.loop-element-test.false in
    let all : AreTaken d [] kinds = subst (λ es. AreTaken d (map element_value es) kinds) empty c.loop-element.invariant.0 in
    taken_all kinds (subst (λ e. IsFaultless (map Ok e)) (sym same) c.elements-element-items.ensures.faultless) (subst (λ e. AreTaken e [] kinds) (sym same) all)

pub returns-clause-hovers : goal.returns-clause-hovers
returns-clause-hovers c =
    let d = c.args.gathered.now.kinds.dump.now.elements in
    let free = c.elements-element-items.ensures.faultless in
    let rows = map hover_value c.loop-element.gathered.hovers.items in
    let empty = drop_of_length-le c.elements-element-items.result.now c.loop-element-test.false in
    let all = said_all (hovers_in d) d rows (subst (λ es. HasSaid (hovers_in d) d (map element_value es) rows) empty c.loop-element.invariant.6) in
    subst (IsListing by_result (IsHoverRow d)) (sym all) (hover_listing d (c.vertex_law.ensures d free) free)

pub returns-clause-ranges : goal.returns-clause-ranges
returns-clause-ranges c =
    let d = c.args.gathered.now.kinds.dump.now.elements in
    let lines = map (λ r. r.line) (map range_value c.loop-element.gathered.ranges.items) in
    let empty = drop_of_length-le c.elements-element-items.result.now c.loop-element-test.false in
    record {
      lines = said_all (range_lines d) d lines (subst (λ es. HasSaid (range_lines d) d (map element_value es) lines) empty c.loop-element.invariant.2);
      each = c.loop-element.invariant.3;
    }

pub returns-clause-intervals : goal.returns-clause-intervals
returns-clause-intervals c =
    let d = c.args.gathered.now.kinds.dump.now.elements in
    let intervals = map interval_value c.loop-element.gathered.intervals.items in
    let empty = drop_of_length-le c.elements-element-items.result.now c.loop-element-test.false in
    said_all (intervals_in d) d intervals (subst (λ es. HasSaid (intervals_in d) d (map element_value es) intervals) empty c.loop-element.invariant.7)

pub returns-clause-within : goal.returns-clause-within
returns-clause-within c =
    let empty = drop_of_length-le c.elements-element-items.result.now c.loop-element-test.false in
    c.loop-element.invariant.8 (subst (λ es. All IsWithinLimit (map element_value es)) (sym empty) (All-nil IsWithinLimit))

pub returns-clause-located : goal.returns-clause-located
returns-clause-located c = λ r span is.
    let d = c.args.gathered.now.kinds.dump.now.elements in
    let free = c.elements-element-items.ensures.faultless in
    let empty = drop_of_length-le c.elements-element-items.result.now c.loop-element-test.false in
    let within = c.loop-element.invariant.8 (subst (λ es. All IsWithinLimit (map element_value es)) (sym empty) (All-nil IsWithinLimit)) in
    All-contains IsWithinLimit d (vertex r (range span)) within ((c.vertex_law.ensures d free r (range span)).0 is)
