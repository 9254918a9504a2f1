use Rattle.std.proofs.Common.{◌≡◌, ◌∙◌, ◌+◌, ◌++◌, ◌<◌, ℕ, List, length, map, take, drop, get_or, set, sym, ap, subst, append-nil, arith}
use Rattle.std.proofs.Math.ListN.{drop_of_length-le}
use Rattle.std.proofs.Math.Seq.{map-set_same}
use Rattle.std.specs.Prelude.{Contains, IfSome, IfNone}
use Rattle.std.specs.List.{All}
use Rattle.std.proofs.lemmas.List.{get_or_default, get_or-map, length-map, map-set, take_all, take_more_set}
use Rattle.std.proofs.lemmas.List.Elements.{All-get_or, All-push, All-set}
use Rattle.lsif.specs.Element.{ElementValue}
use Rattle.dump.specs.Places.{IsListing}
use Rattle.flatten.specs.Flat.{HasEachRange, IsRangeRow, RangeRowValue, by_line}
use Rattle.flatten.specs.Rows.{range_value}
use Rattle.flatten.specs.Steps.Ranges.{AreFoundRanges, IsFoundRange}
use Rattle.flatten.specs.declared.rows.RangeRow.{RangeRow}
use Rattle.flatten.proofs.NumberPairs.{number_ones}
use Rattle.flatten.proofs.RangeRows.{has_each, range_listing, row_is}
use Rattle.flatten.proofs.ranges.range_rows.Goals as goal

-- the next row has its parent now
next_row : (d : List ElementValue) (rows : List RangeRow) (k : ℕ) (row : RangeRow) → k < length rows → (range_value row).line ≡ (range_value (get_or rows k row)).line → IsRangeRow d (range_value row) → IsFoundRange d (range_value row)
    → AreFoundRanges d (map range_value rows) → All (IsRangeRow d) (take k (map range_value rows)) → AreFoundRanges d (map range_value (set rows k row)) × All (IsRangeRow d) (take (k + 1) (map range_value (set rows k row)))
next_row d rows k row lt line is found are before =
    let xs = map range_value rows in
    let short : k < length xs = omega (arith, lt, length-map rows range_value) in
    let moved : map range_value (set rows k row) ≡ set xs k (range_value row) = map-set range_value rows k row in
    let at : get_or xs k (range_value row) ≡ range_value (get_or rows k row) = get_or-map range_value rows k row (range_value row) lt in
    let lines : map (λ r. r.line) (set xs k (range_value row)) ≡ map (λ r. r.line) xs = map-set_same (λ (r : RangeRowValue). r.line) xs k (range_value row) (range_value row) (line ∙ ap (λ (r : RangeRowValue). r.line) (sym at)) in (
      subst (AreFoundRanges d) (sym moved) (record { lines = lines ∙ are.lines; each = All-set (IsFoundRange d) xs k (range_value row) found are.each }),
      subst (λ l. All (IsRangeRow d) (take (k + 1) l)) (sym moved) (subst (All (IsRangeRow d)) (sym (take_more_set xs k (range_value row) short)) (All-push (IsRangeRow d) (take k xs) (range_value row) before is)),
    )

-- what was written over a list of the same length
written : (rows old : List RangeRow) (n : ℕ) → length rows ≡ length old → length old ≡ n → take n (rows ++ drop (length rows) old) ≡ rows
written rows old n same all =
    ap (λ l. take n (rows ++ l)) (drop_of_length-le old (omega (arith, same))) ∙ ap (take n) (append-nil rows) ∙ take_all n rows (omega (arith, same, all))

pub loop-row-preserved : goal.loop-row-preserved
loop-row-preserved c =
    let d = c.args.dump.now.elements in
    let rows = c.loop-row.row-items in
    let k = c.loop-row.row-index in
    let old = get_or rows k c.row-item.result in
    let row : RangeRow = record { line = old.line; uri = old.uri; span = old.span; parent = c.target_of-row.result; results = old.results } in
    let lt : k < length rows = omega (arith, c.loop-row-test.true, c.loop-row.auto.row-items) in
    let at : get_or (map range_value rows) k (range_value old) ≡ range_value old = get_or-map range_value rows k c.row-item.result (range_value old) lt in
    let here : IsFoundRange d (range_value old) = subst (IsFoundRange d) at (All-get_or (IsFoundRange d) (map range_value rows) k (range_value old) (omega (arith, lt, length-map rows range_value)) c.loop-row.invariant.0.each) in
    let found : IsFoundRange d (range_value row) = record { range = here.range; at_line = here.at_line; is_at = here.is_at; are_results = here.are_results } in
    let pairs = c.in_ok-parents.parents.items in
    let some = subst (λ ps. IfSome row.parent (λ m. Contains ps (row.line, m))) c.deref.ensures.value c.target_of-row.ensures.some in
    let none = subst (λ ps. IfNone row.parent ((m : ℕ) → Contains ps (row.line, m) → ⊥)) c.deref.ensures.value c.target_of-row.ensures.none in
    next_row d rows k row lt (ap (λ (r : RangeRow). r.line) (get_or_default rows k c.row-item.result row lt)) (row_is d pairs c.in_ok-parents.ensures.parents (range_value row) found some none) found
    c.loop-row.invariant.0 c.loop-row.invariant.1

pub returns-clause-rows : goal.returns-clause-rows
returns-clause-rows c =
    let d = c.args.dump.now.elements in
    let free = c.requires.faultless in
    let rows = c.loop-row.row-items in
    let whole = written rows c.args.found.items c.args.found.len (c.loop-row.auto.row-items ∙ ap length c.deref_mut-row-items.ensures.value) (ap length (sym c.deref_mut-row-items.ensures.value) ∙ c.deref_mut-row-items.ensures.len) in
    let all = take_all c.loop-row.row-index (map range_value rows) (omega (arith, c.loop-row-test.false, c.loop-row.auto.row-items, length-map rows range_value)) in
    subst (λ l. IsListing by_line (IsRangeRow d) (map range_value l)) (sym whole)
    (range_listing d (c.container_law.ensures d free) (number_ones d (c.line_law.ensures.one d)) (λ request x found other. c.pick_law.ensures.first request d x found other) (c.nesting_law.ensures d free) free (c.vertex_law.ensures d free)
    (map range_value rows) c.loop-row.invariant.0.lines (subst (All (IsRangeRow d)) all c.loop-row.invariant.1))

pub returns-clause-each : goal.returns-clause-each
returns-clause-each c =
    let d = c.args.dump.now.elements in
    let free = c.requires.faultless in
    let rows = c.loop-row.row-items in
    let whole = written rows c.args.found.items c.args.found.len (c.loop-row.auto.row-items ∙ ap length c.deref_mut-row-items.ensures.value) (ap length (sym c.deref_mut-row-items.ensures.value) ∙ c.deref_mut-row-items.ensures.len) in
    subst (λ l. HasEachRange d (map range_value l)) (sym whole)
    (has_each d (c.container_law.ensures d free) (c.line_law.ensures.there d free) (c.vertex_law.ensures d free) (map range_value rows) c.loop-row.invariant.0.lines)
