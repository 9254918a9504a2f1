-- The orders of results, of joined vertices and of places that are made of rows, and when they are
-- one.
use Rattle.std.proofs.Common.{◌≡◌, ◌&&◌, Bool, true, List, map, string_bytes}
use Rattle.std.specs.Prelude.{◌==◌, nat_eq, Contains}
use Rattle.std.specs.List.{dedup}
use Rattle.std.specs.List.Sorted.{IsPermutation, IsSorted}
use Rattle.std.specs.Cmp.{IsTotalOrder, both_tied, first_so, second_so, then_total, on_total, nat_cmp_total, unsigned_ties}
use Rattle.std.specs.Cmp.Lexicographic.{on_texts, texts_ties, pointwise}
use Rattle.std.specs.Ordering.{eq_by_cmp, nat_cmp}
use Rattle.std.specs.Rc.{rc_str_bytes}
use Rattle.std.specs.String.{string_eq}
use Rattle.dump.specs.Places.{IsListing, place_cmp}
use Rattle.dump.proofs.OnePicks.{place_total}
use Rattle.flatten.proofs.RowOrders.{place_ties, place_same, same_place, same_span}
use Rattle.machine.specs.Projects.{text_cmp}
use Rattle.machine.specs.Answers.{found_cmp}
use Rattle.desk.specs.Steps.RowHovers.{joined_cmp}
use Rattle.desk.specs.Steps.RowPlaces.{item_place}
use Rattle.desk.specs.Steps.Rows.{joined_value, project_result_cmp, project_result_value}
use Rattle.desk.specs.declared.rows.bearers.JoinedBearer.{JoinedBearer}
use Rattle.desk.specs.declared.rows.places.ItemPlace.{ItemPlace}
use Rattle.desk.specs.declared.rows.results.ProjectResult.{ProjectResult}
use Rattle.streams.proofs.Bools.{eq_of}
use Rattle.streams.proofs.Lists.{text_eq}
use Rattle.dump.proofs.Listing.{sorted_listing as listed, under}

-- ---- results

abbrev same_project_result : ProjectResult → ProjectResult → Bool
same_project_result a b = string_eq a.project b.project && (a.number == b.number)

project_result_total : IsTotalOrder (under project_result_value project_result_cmp)
project_result_total = then_total (on_texts (λ (t : ProjectResult). string_bytes t.project)) (on_total (λ (t : ProjectResult). t.number) nat_cmp_total)

project_result_ties : (x y : ProjectResult) → same_project_result x y ≡ eq_by_cmp (under project_result_value project_result_cmp) x y
project_result_ties x y = both_tied (string_eq x.project y.project) (x.number == y.number) (text_cmp (string_bytes x.project) (string_bytes y.project)) (nat_cmp x.number y.number) (texts_ties (string_bytes x.project) (string_bytes y.project)) (unsigned_ties x.number y.number)

project_result_same : (x y : ProjectResult) → same_project_result x y ≡ true → project_result_value x ≡ project_result_value y
project_result_same x y e =
    let a = text_eq (string_bytes x.project) (string_bytes y.project) (first_so (string_eq x.project y.project) (x.number == y.number) e) in
    let b = eq_of x.number y.number (second_so (string_eq x.project y.project) (x.number == y.number) e) in
    λ i. record { project = a i; number = b i }

pub project_results_listed : (old sorted new : List ProjectResult) → IsPermutation old sorted → IsSorted (under project_result_value project_result_cmp) sorted → new ≡ dedup same_project_result sorted
    → IsListing project_result_cmp (Contains (map project_result_value old)) (map project_result_value new)
project_results_listed = listed project_result_value project_result_cmp project_result_total same_project_result project_result_ties project_result_same

-- ---- joined vertices

pub joined_total : IsTotalOrder (under joined_value joined_cmp)
joined_total = then_total (on_texts (λ (j : JoinedBearer). string_bytes j.project)) (then_total (on_total (λ (j : JoinedBearer). j.line) nat_cmp_total) (on_total (λ (j : JoinedBearer). j.number) nat_cmp_total))

-- ---- places

abbrev same_place_of : ItemPlace → ItemPlace → Bool
same_place_of x y = same_place (item_place x).place (item_place y).place

abbrev same_item : ItemPlace → ItemPlace → Bool
same_item a b = pointwise nat_eq a.project.now b.project.now && (pointwise nat_eq (rc_str_bytes a.uri) (rc_str_bytes b.uri) && same_span a.span b.span)

item_total : IsTotalOrder (under item_place found_cmp)
item_total = then_total (on_texts (λ (f : ItemPlace). f.project.now)) (on_total (λ (f : ItemPlace). (item_place f).place) place_total)

item_ties : (x y : ItemPlace) → same_item x y ≡ eq_by_cmp (under item_place found_cmp) x y
item_ties x y =
    both_tied (pointwise nat_eq x.project.now y.project.now) (same_place_of x y) (text_cmp x.project.now y.project.now) (place_cmp (item_place x).place (item_place y).place) (texts_ties x.project.now y.project.now)
    (place_ties (item_place x).place (item_place y).place)

item_same : (x y : ItemPlace) → same_item x y ≡ true → item_place x ≡ item_place y
item_same x y e =
    let a = text_eq x.project.now y.project.now (first_so (pointwise nat_eq x.project.now y.project.now) (same_place_of x y) e) in
    let b = place_same (item_place x).place (item_place y).place (second_so (pointwise nat_eq x.project.now y.project.now) (same_place_of x y) e) in
    λ i. record { project = a i; place = b i }

pub items_listed : (old sorted new : List ItemPlace) → IsPermutation old sorted → IsSorted (under item_place found_cmp) sorted → new ≡ dedup same_item sorted → IsListing found_cmp (Contains (map item_place old)) (map item_place new)
items_listed = listed item_place found_cmp item_total same_item item_ties item_same
