use Rattle.std.proofs.Common.{ℕ, [], map, sym, subst, arith}
use Rattle.std.specs.List.{flat_map}
use Rattle.std.specs.List.Sorted.{IsStrictlySortedBy}
use Rattle.std.specs.Ordering.{nat_cmp}
use Rattle.std.proofs.lemmas.List.{take_all}
use Rattle.dump.specs.Places.{IsListing}
use Rattle.flatten.specs.Flat.{IsItemRow, item_cmp}
use Rattle.flatten.specs.Rows.{item_value}
use Rattle.flatten.specs.Steps.Items.{IsReachedRow, numbers_in}
use Rattle.flatten.specs.Steps.Tables.{OfOne}
use Rattle.flatten.proofs.ItemListings.{listing_none, next_listing, results_rise}
use Rattle.flatten.proofs.ItemRows.{item_rows_are}
use Rattle.dump.proofs.Listing.{same_listing}
use Rattle.flatten.proofs.NumberPairs.{number_ones}
use Rattle.flatten.proofs.items.result_rows.Goals as goal

pub loop-number-init : goal.loop-number-init
loop-number-init c =
    let P = λ (n : ℕ). IsReachedRow n c.args.items.now in
    subst (λ l. IsListing item_cmp (OfOne P []) (map item_value l)) (sym c.in_ok-rows.ensures.items) (listing_none item_cmp P)

pub loop-number-preserved : goal.loop-number-preserved
loop-number-preserved c =
    let numbers = c.args.results.now in
    let sorted = subst (IsStrictlySortedBy nat_cmp) (sym c.requires.results) (results_rise c.args.dump.now.elements c.requires.faultless) in
    next_listing c.args.items.now numbers sorted c.loop-number.number-index (omega (arith, c.loop-number-test.true))
    (map item_value c.loop-number.rows.items) (map item_value c.add_listed.new.rows.items) c.loop-number.invariant c.in_ok-add_listed.ensures

pub returns : goal.returns
returns c =
    let items = c.args.items.now in
    let d = c.args.dump.now.elements in
    let free = c.requires.faultless in
    let P = λ (n : ℕ). IsReachedRow n items in
    let rows = map item_value c.loop-number.rows.items in
    let numbers = c.args.results.now in
    let all = take_all c.loop-number.number-index numbers (omega (arith, c.loop-number-test.false)) in
    let found = subst (λ l. IsListing item_cmp (OfOne P l) rows) all c.loop-number.invariant in
    same_listing item_cmp (OfOne P (flat_map (numbers_in d) d)) (IsItemRow d) rows
    (item_rows_are d free (c.vertex_law.ensures d free) (number_ones d (c.line_law.ensures.one d)) (c.ends_law.ensures d free) (c.line_law.ensures.there d free) (c.container_law.ensures d free) items c.requires.items)
    (subst (λ l. IsListing item_cmp (OfOne P l) rows) c.requires.results found)
