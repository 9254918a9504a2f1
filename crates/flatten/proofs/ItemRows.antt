-- The places of results, by numbers and by ids.
use Rattle.std.proofs.Common.{◌≡◌, ⊎_elim, ◌∙◌, ℕ, ◌+◌, ◌==◌, Bool, true, false, List, [], ◌∷◌, ◌++◌, filter, map, refl, sym, ap, subst, arith}
use Rattle.std.specs.Prelude.{◌↔◌, Contains, Option, Some, None, Ok, option_map, slice_get, IsPermutation}
use Rattle.std.specs.List.{flat_map}
use Rattle.std.specs.List.Sorted.{IsNonDecreasingBy}
use Rattle.std.proofs.lemmas.List.Elements.{All-contains_itself, All-weaker, Contains-append_left, Contains-append_right, Contains-append_cases}
use Rattle.std.proofs.lemmas.List.Sorted.{Contains-permutation, IsPermutation-sym}
use Rattle.std.proofs.lemmas.Map.Views.{exact_unsigned_eq}
use Rattle.positions.specs.Span.{SpanValue}
use Rattle.lsif.specs.Element.{IdValue, VertexValue, meta_data, project, document, range, result_set, request_result, hover_result, moniker, package_information, event, other_vertex, ItemValue, contains, next, request_edge, moniker_edge, package_edge, attach, item, other_edge, ElementValue, vertex, edge}
use Rattle.dump.specs.Fault.{IsFaultless}
use Rattle.dump.specs.Graph.{vertex_at, line_of}
use Rattle.dump.specs.Places.{PlaceValue, IsAt, IsItem, result_pairs, result_pairs_of, role_of}
use Rattle.dump.specs.Walks.{Pair, Path}
use Rattle.dump.specs.declared.role.Role.{Role}
use Rattle.dump.specs.declared.role.Role.TheVariants.{Definitions, References}
use Rattle.flatten.specs.declared.items.Items.{Items}
use Rattle.flatten.specs.Flat.{IsItemRow, ItemRowValue, is_result, number_of}
use Rattle.flatten.specs.Steps.Items.{AreItems, AreNumbered, IsReachedRow, has_role, is_role, item_pairs_of, items_by, number_if, numbers_in, placed_by, placed_in, placed_of_pair, row_of, rows_of_role, same_role, with_places}
use Rattle.flatten.specs.Steps.Numbers.{pairs_of}
use Rattle.flatten.specs.Steps.Places.{IsNumbered, place_value, placed_value, placed_values, twice}
use Rattle.flatten.specs.Steps.Tables.{OfOne, container_uri, place_by, place_of, place_with}
use Rattle.flatten.specs.declared.places.Place.{Place}
use Rattle.flatten.proofs.Closures.{wider}
use Rattle.streams.proofs.Members.{contains_map, contains_one, filter_keeps, filter_source, flat_of, flat_from, if_in, in_if, map_source, not_in_nil, one_contains}
use Rattle.flatten.proofs.NumberPairs.{AreOnes, HasEnds, HasVertexNumbers, are_numbers, have_numbers, in_one, one_in, path_on, path_to, result_ends}
use Rattle.flatten.proofs.RangeRows.{HasContainers, at_of, uri_of_at}

-- ---- the rows of what a result leads to

module _ (number : ℕ) (items : Items) where
  -- the row of another result's item in this role
  record IsRoleRow (role : Role) (other : ℕ) (row : ItemRowValue) : Type 0 where
    is_number : row.result ≡ number
    is_role : row.role ≡ role
    joined : Contains (map placed_value (items_by role items)) (other, row.place)

  role_to : (role : Role) (other : ℕ) (row : ItemRowValue) → Contains (rows_of_role number role items other) row → IsRoleRow role other row
  role_to role other row at =
      let f = map_source (row_of number role) (filter (λ (p : ℕ × Place). p.0 == other) (items_by role items)) row at in
      let s = filter_source (λ (p : ℕ × Place). p.0 == other) (items_by role items) f.0 f.1 in
      let same : f.0.0 ≡ other = exact_unsigned_eq f.0.0 other s.1 in
      let place : place_value f.0.1 ≡ row.place = ap (λ (r : ItemRowValue). r.place) f.2 in
      let whole : ◌≡◌ {A = ℕ × PlaceValue} (placed_value f.0) (other, row.place) = λ i. (same i, place i) in
      record {
        is_number = sym (ap (λ (r : ItemRowValue). r.result) f.2);
        is_role = sym (ap (λ (r : ItemRowValue). r.role) f.2);
        joined = subst (Contains (map placed_value (items_by role items))) whole (contains_map placed_value (items_by role items) f.0 s.0);
      }

  role_from : (role : Role) (other : ℕ) (row : ItemRowValue) → IsRoleRow role other row → Contains (rows_of_role number role items other) row
  role_from role other row h =
      let m = map_source placed_value (items_by role items) (other, row.place) h.joined in
      let same : m.0.0 ≡ other = ap (λ (p : ℕ × PlaceValue). p.0) m.2 in
      let place : place_value m.0.1 ≡ row.place = ap (λ (p : ℕ × PlaceValue). p.1) m.2 in
      let this : row_of number role m.0 ≡ row = λ i. record { result = sym h.is_number i; role = sym h.is_role i; place = place i } in
      subst (Contains (rows_of_role number role items other)) this
      (contains_map (row_of number role) (filter (λ (p : ℕ × Place). p.0 == other) (items_by role items)) m.0
      (filter_keeps (λ (p : ℕ × Place). p.0 == other) (items_by role items) m.0 m.1 (grind (arith, same))))

  -- the rows for both roles of one of these
  abbrev pub IsRowFor : ℕ → ItemRowValue → Type 0
  IsRowFor other row = Contains (rows_of_role number Definitions items other ++ rows_of_role number References items other) row

  pub reached_rows : (numbers : List ℕ) → ((y : ℕ) → Contains numbers y ↔ Path items.results.now number y) → (row : ItemRowValue) → OfOne IsRowFor numbers row ↔ IsReachedRow number items row
  reached_rows numbers all row = (to, back)
    where
      by_role : (role : Role) (other : ℕ) → Path items.results.now number other → IsRoleRow role other row → IsReachedRow number items row
      by_role role other path h = record {
        other = other;
        is_number = h.is_number;
        reached = path;
        joined = subst (λ r. Contains (map placed_value (items_by r items)) (other, row.place)) (sym h.is_role) h.joined;
      }

      to : OfOne IsRowFor numbers row → IsReachedRow number items row
      to (other, at, here) =
          let path = (all other).0 at in
          ⊎_elim
          (λ (a : Contains (rows_of_role number Definitions items other) row). by_role Definitions other path (role_to Definitions other row a))
          (λ (b : Contains (rows_of_role number References items other) row). by_role References other path (role_to References other row b))
          (Contains-append_cases (rows_of_role number Definitions items other) (rows_of_role number References items other) row here)

      in_role : (role : Role) (other : ℕ) → Contains (rows_of_role number role items other) row → IsRowFor other row
      in_role Definitions other at = Contains-append_left (rows_of_role number Definitions items other) (rows_of_role number References items other) row at
      in_role References other at = Contains-append_right (rows_of_role number Definitions items other) (rows_of_role number References items other) row at

      back : IsReachedRow number items row → OfOne IsRowFor numbers row
      back h = (h.other, (all h.other).1 h.reached, in_role row.role h.other (role_from row.role h.other row (record { is_number = h.is_number; is_role = refl; joined = h.joined })))

-- ---- the items of results

role_is : (r s : Role) → same_role r s ≡ true → r ≡ s
role_is Definitions Definitions e = refl
role_is References References e = refl
role_is Definitions References e = cc
role_is References Definitions e = cc

role_self : (r : Role) → same_role r r ≡ true
role_self Definitions = refl
role_self References = refl

has_role_is : (role : Role) (o : Option Role) → has_role role o ≡ true → o ≡ Some role
has_role_is role None e = cc
has_role_is role (Some r) e = ap (λ s. Some s) (role_is r role e)

is_has_role : (role : Role) (o : Option Role) → o ≡ Some role → has_role role o ≡ true
is_has_role role o e = ap (has_role role) e ∙ role_self role

module _ (role : Role) where
  item_ends : (e : ElementValue) (x y : IdValue) → Contains (item_pairs_of role e) (x, y) → (i : IdValue) × (j : ItemValue) × (e ≡ edge i (item j)) × (j.source ≡ x) × Contains j.targets y × (role_of j.property ≡ Some role)
  item_ends (edge i (item e)) x y at =
      let h = in_if (is_role role e.property) (map (λ (to : IdValue). (e.source, to)) e.targets) (x, y) at in
      let m = map_source (λ (to : IdValue). (e.source, to)) e.targets (x, y) h.1 in
      (i, e, refl, ap (λ (p : Pair). p.0) m.2, subst (Contains e.targets) (ap (λ (p : Pair). p.1) m.2) m.1, has_role_is role (role_of e.property) h.0)
  item_ends (edge i (contains from to)) x y at = absurd (not_in_nil (x, y) at)
  item_ends (edge i (next from to)) x y at = absurd (not_in_nil (x, y) at)
  item_ends (edge i (request_edge kind from to)) x y at = absurd (not_in_nil (x, y) at)
  item_ends (edge i (moniker_edge from to)) x y at = absurd (not_in_nil (x, y) at)
  item_ends (edge i (package_edge from to)) x y at = absurd (not_in_nil (x, y) at)
  item_ends (edge i (attach from to)) x y at = absurd (not_in_nil (x, y) at)
  item_ends (edge i (other_edge from to)) x y at = absurd (not_in_nil (x, y) at)
  item_ends (vertex i v) x y at = absurd (not_in_nil (x, y) at)

  pub item_to : (d : List ElementValue) (x y : IdValue) → Contains (flat_map (item_pairs_of role) d) (x, y) → IsItem (role ∷ []) d x y
  item_to d x y at =
      let f = flat_of (item_pairs_of role) d (x, y) at in
      let e = item_ends f.0 x y f.2 in
      record { id = e.0; joining = e.1; role = role; is_there = subst (Contains d) e.2 f.1; source = e.3; has_role = e.5; is_asked = one_contains role role refl; target = e.4 }

  pub item_from : (d : List ElementValue) (x y : IdValue) → IsItem (role ∷ []) d x y → Contains (flat_map (item_pairs_of role) d) (x, y)
  item_from d x y h =
      let same : h.role ≡ role = sym (contains_one role h.role h.is_asked) in
      let e = h.joining in
      let pair : ◌≡◌ {A = Pair} (e.source, y) (x, y) = λ i. (h.source i, y) in
      flat_from (item_pairs_of role) d (edge h.id (item e)) (x, y) h.is_there
      (if_in (is_role role e.property) (map (λ (to : IdValue). (e.source, to)) e.targets) (x, y) (is_has_role role (role_of e.property) (h.has_role ∙ ap (λ r. Some r) same))
      (subst (Contains (map (λ (to : IdValue). (e.source, to)) e.targets)) pair (contains_map (λ (to : IdValue). (e.source, to)) e.targets y h.target)))

-- ---- items in the order of their results

pub each_sorted : (items : Items) → IsNonDecreasingBy (λ p. p.0) items.definitions.now → IsNonDecreasingBy (λ p. p.0) items.references.now → (role : Role) → IsNonDecreasingBy (λ p. p.0) (items_by role items)
each_sorted items a b Definitions = a
each_sorted items a b References = b

-- those of a list are those of the list in another order
pub placed_again : (all : List (ℕ × (PlaceValue × PlaceValue))) (list sorted : List (ℕ × Place)) → map placed_values list ≡ all → IsPermutation list sorted → (p : ℕ × (PlaceValue × PlaceValue)) → Contains (map placed_values sorted) p ↔ Contains all p
placed_again all list sorted is same p = (to, back)
  where
    to : Contains (map placed_values sorted) p → Contains all p
    to at =
        let m = map_source placed_values sorted p at in
        subst (λ l. Contains l p) is (subst (Contains (map placed_values list)) m.2 (contains_map placed_values list m.0 (Contains-permutation sorted list m.0 (IsPermutation-sym list sorted same) m.1)))

    back : Contains all p → Contains (map placed_values sorted) p
    back at =
        let m = map_source placed_values list p (subst (λ l. Contains l p) (sym is) at) in
        subst (Contains (map placed_values sorted)) m.2 (contains_map placed_values sorted m.0 (Contains-permutation list sorted m.0 same m.1))

abbrev AreBy : List ElementValue → Items → Role → Type 0
AreBy d items role = (p : ℕ × (PlaceValue × PlaceValue)) → Contains (map placed_values (items_by role items)) p ↔ Contains (placed_by role d) p

pub each_role : (d : List ElementValue) (items : Items) → AreBy d items Definitions → AreBy d items References → (role : Role) → AreBy d items role
each_role d items a b Definitions = a
each_role d items a b References = b

-- the places that a number has are one
twice_of : (a : Option ℕ) (b : Option PlaceValue) (p : ℕ × (PlaceValue × PlaceValue)) → with_places a (option_map twice b) ≡ Some p → p.1.1 ≡ p.1.0
twice_of (Some m) (Some q) p e = let same : ◌≡◌ {A = ℕ × (PlaceValue × PlaceValue)} (m, twice q) p = cc in subst (λ (r : ℕ × (PlaceValue × PlaceValue)). r.1.1 ≡ r.1.0) same refl
twice_of (Some m) None p e = cc
twice_of None b p e = cc

placed_twice : (d : List ElementValue) (role : Role) (p : ℕ × (PlaceValue × PlaceValue)) → Contains (placed_by role d) p → p.1.1 ≡ p.1.0
placed_twice d role p at =
    let e = flat_of (placed_in role d) d p at in
    let q = flat_of (placed_of_pair d) (item_pairs_of role e.0) p e.2 in
    twice_of (number_of d q.0.0) (place_of d q.0.1) p (in_one (with_places (number_of d q.0.0) (option_map twice (place_of d q.0.1))) p q.2)

module _ (d : List ElementValue) (items : Items) (by : (role : Role) → AreBy d items role) where
  -- each place has the numbers of its span
  numbered_in : (role : Role) (p : ℕ × Place) → Contains (items_by role items) p → IsNumbered p.1
  numbered_in role p at = placed_twice d role (placed_values p) ((by role (placed_values p)).0 (contains_map placed_values (items_by role items) p at))

  pub are_numbered : AreNumbered items
  are_numbered role = All-weaker (Contains (items_by role items)) (λ (p : ℕ × Place). IsNumbered p.1) (numbered_in role) (items_by role items) (All-contains_itself (items_by role items))

  -- the items by the spans of their places
  pub placed_each : (role : Role) (p : ℕ × PlaceValue) → Contains (map placed_value (items_by role items)) p ↔ Contains (placed_by role d) (p.0, twice p.1)
  placed_each role p = (to, back)
    where
      to : Contains (map placed_value (items_by role items)) p → Contains (placed_by role d) (p.0, twice p.1)
      to at =
          let m = map_source placed_value (items_by role items) p at in
          let n = numbered_in role m.0 m.1 in
          let one : placed_values m.0 ≡ (m.0.0, twice (place_value m.0.1)) = λ i. (m.0.0, (place_value m.0.1, n i)) in
          subst (Contains (placed_by role d)) (one ∙ ap (λ (q : ℕ × PlaceValue). (q.0, twice q.1)) m.2) ((by role (placed_values m.0)).0 (contains_map placed_values (items_by role items) m.0 m.1))

      back : Contains (placed_by role d) (p.0, twice p.1) → Contains (map placed_value (items_by role items)) p
      back at =
          let m = map_source placed_values (items_by role items) (p.0, twice p.1) ((by role (p.0, twice p.1)).1 at) in
          subst (Contains (map placed_value (items_by role items))) (ap (λ (q : ℕ × (PlaceValue × PlaceValue)). (q.0, q.1.0)) m.2) (contains_map placed_value (items_by role items) m.0 m.1)

-- a number that is asked for
asked_number : (b : Bool) (o : Option ℕ) (n : ℕ) → number_if b o ≡ Some n → (b ≡ true) × (o ≡ Some n)
asked_number true o n e = (refl, e)
asked_number false o n e = cc

-- ---- places at numbers

place_is : (span : SpanValue) (o : Option (List ℕ)) (place : PlaceValue) → option_map (place_with span) o ≡ Some place → (o ≡ Some place.uri) × (span ≡ place.span)
place_is span None place e = cc
place_is span (Some uri) place e = let same : place_with span uri ≡ place = cc in (ap (λ (p : PlaceValue). Some p.uri) same, ap (λ (p : PlaceValue). p.span) same)

module _ (d : List ElementValue) (free : IsFaultless (map Ok d)) (vertices : (i : IdValue) (v : VertexValue) → vertex_at d i ≡ Some v ↔ Contains d (vertex i v)) (ones : AreOnes d) (has : HasEnds d)
    (there : (i : IdValue) (v : VertexValue) → vertex_at d i ≡ Some v → (k : ℕ) × (line_of d i ≡ Some k) × (slice_get d k ≡ Some (vertex i v))) (containers : HasContainers d) where
  lined : HasVertexNumbers d
  lined i v e = let t = there i v e in (t.0 + 1, ap (option_map (λ k. k + 1)) t.1)

  place_by_to : (r : IdValue) (o : Option VertexValue) (place : PlaceValue) → vertex_at d r ≡ o → place_by d r o ≡ Some place → IsAt d r place
  place_by_to r (Some (range span)) place is h =
      let p = place_is span (container_uri d r) place h in
      at_of d containers r place.uri place.span p.0 (is ∙ ap (λ s. Some (range s)) p.1)
  place_by_to r (Some (document u)) place is h = cc
  place_by_to r (Some (meta_data b)) place is h = cc
  place_by_to r (Some project) place is h = cc
  place_by_to r (Some result_set) place is h = cc
  place_by_to r (Some (request_result kind)) place is h = cc
  place_by_to r (Some (hover_result t)) place is h = cc
  place_by_to r (Some (moniker m)) place is h = cc
  place_by_to r (Some (package_information p)) place is h = cc
  place_by_to r (Some (event v)) place is h = cc
  place_by_to r (Some other_vertex) place is h = cc
  place_by_to r None place is h = cc

  place_from : (r : IdValue) (place : PlaceValue) → IsAt d r place → place_of d r ≡ Some place
  place_from r place h = ap (place_by d r) h.span ∙ ap (option_map (place_with place.span)) (uri_of_at d containers r place h)

  with_both : (a : Option ℕ) (b : Option PlaceValue) (n : ℕ) (place : PlaceValue) → with_places a (option_map twice b) ≡ Some (n, twice place) → (a ≡ Some n) × (b ≡ Some place)
  with_both (Some m) (Some q) n place e = let same : ◌≡◌ {A = ℕ × (PlaceValue × PlaceValue)} (m, twice q) (n, twice place) = cc in (ap (λ p. Some p.0) same, ap (λ p. Some p.1.0) same)
  with_both (Some m) None n place e = cc
  with_both None b n place e = cc

  -- the item of a result by its number, and where it lies
  placed_to : (role : Role) (n : ℕ) (place : PlaceValue) → Contains (placed_by role d) (n, twice place) → (x r : IdValue) × Contains (flat_map (item_pairs_of role) d) (x, r) × (number_of d x ≡ Some n) × IsAt d r place
  placed_to role n place at =
      let e = flat_of (placed_in role d) d (n, twice place) at in
      let p = flat_of (placed_of_pair d) (item_pairs_of role e.0) (n, twice place) e.2 in
      let b = with_both (number_of d p.0.0) (place_of d p.0.1) n place (in_one (with_places (number_of d p.0.0) (option_map twice (place_of d p.0.1))) (n, twice place) p.2) in
      (p.0.0, p.0.1, flat_from (item_pairs_of role) d e.0 p.0 e.1 p.1, b.0, place_by_to p.0.1 (vertex_at d p.0.1) place refl b.1)

  placed_from : (role : Role) (x r : IdValue) (n : ℕ) (place : PlaceValue) → Contains (flat_map (item_pairs_of role) d) (x, r) → number_of d x ≡ Some n → IsAt d r place → Contains (placed_by role d) (n, twice place)
  placed_from role x r n place at number h =
      let e = flat_of (item_pairs_of role) d (x, r) at in
      let places = option_map twice (place_of d r) in
      let both : with_places (number_of d x) places ≡ Some (n, twice place) = ap (λ a. with_places a places) number ∙ ap (λ o. with_places (Some n) (option_map twice o)) (place_from r place h) in
      flat_from (placed_in role d) d e.0 (n, twice place) e.1 (flat_from (placed_of_pair d) (item_pairs_of role e.0) (x, r) (n, twice place) e.2 (one_in (with_places (number_of d x) places) (n, twice place) both))

  -- ---- the rows of results

  module _ (items : Items) (are : AreItems d items) where
    row_to : (i : IdValue) (v : VertexValue) (number : ℕ) (row : ItemRowValue) → Contains d (vertex i v) → is_result (Some v) ≡ true → number_of d i ≡ Some number → IsReachedRow number items row → IsItemRow d row
    row_to i v number row here result at h =
        let is = (vertices i v).1 here in
        let joined = are_numbers result_pairs_of d in
        let path = wider items.results.now (pairs_of result_pairs_of d) (λ q c. Contains-permutation items.results.now (pairs_of result_pairs_of d) q (IsPermutation-sym (pairs_of result_pairs_of d) items.results.now are.results) c) number h.other h.reached in
        let p = path_on d (result_pairs d) (pairs_of result_pairs_of d) joined ones i number h.other at path in
        let t = placed_to row.role h.other row.place ((are.each row.role (h.other, row.place)).0 h.joined) in
        let same : t.0 ≡ p.0 = ones t.0 p.0 h.other t.3 p.1 in
        record {
          result = i;
          at_line = at ∙ ap (λ n. Some n) (sym h.is_number);
          is_result = ap is_result is ∙ result;
          is_place = (p.0, p.2, (t.1, item_to row.role d p.0 t.1 (subst (λ z. Contains (flat_map (item_pairs_of row.role) d) (z, t.1)) same t.2), t.4));
        }

    result_vertex : (o : Option VertexValue) → is_result o ≡ true → (v : VertexValue) × (o ≡ Some v)
    result_vertex None e = cc
    result_vertex (Some v) e = (v, refl)

    row_from : (row : ItemRowValue) → IsItemRow d row → OfOne (λ n. IsReachedRow n items) (flat_map (numbers_in d) d) row
    row_from row h =
        let v = result_vertex (vertex_at d h.result) h.is_result in
        let other = h.is_place.0 in
        let r = h.is_place.2.0 in
        let its_item = h.is_place.2.1 in
        let its_place = h.is_place.2.2 in
        let joined = are_numbers result_pairs_of d in
        let p = path_to d (result_pairs d) (pairs_of result_pairs_of d) joined (have_numbers result_pairs_of d result_ends has lined) h.result other row.result h.at_line h.is_place.1 in
        let placed = placed_from row.role other r p.0 row.place (item_from row.role d other r its_item) p.1 its_place in
        let reached : IsReachedRow row.result items row = record {
          other = p.0;
          is_number = refl;
          reached = wider (pairs_of result_pairs_of d) items.results.now (λ q c. Contains-permutation (pairs_of result_pairs_of d) items.results.now q are.results c) row.result p.0 p.2;
          joined = (are.each row.role (p.0, row.place)).1 placed;
        } in
        let asked : number_if (is_result (Some v.0)) (number_of d h.result) ≡ Some row.result = ap (λ b. number_if b (number_of d h.result)) (ap is_result (sym v.1) ∙ h.is_result) ∙ h.at_line in
        (row.result, flat_from (numbers_in d) d (vertex h.result v.0) row.result ((vertices h.result v.0).0 v.1) (one_in (number_if (is_result (Some v.0)) (number_of d h.result)) row.result asked), reached)

    pub item_rows_are : (row : ItemRowValue) → OfOne (λ n. IsReachedRow n items) (flat_map (numbers_in d) d) row ↔ IsItemRow d row
    item_rows_are row = (λ o. let f = flat_of (numbers_in d) d o.0 o.1 in by f.0 o.0 f.1 f.2 o.2, row_from row)
      where
        by : (x : ElementValue) (n : ℕ) → Contains d x → Contains (numbers_in d x) n → IsReachedRow n items row → IsItemRow d row
        by (vertex i v) n here at h =
            let a = asked_number (is_result (Some v)) (number_of d i) n (in_one (number_if (is_result (Some v)) (number_of d i)) n at) in
            row_to i v n row here a.0 a.1 h
        by (edge i e) n here at h = absurd (not_in_nil n at)
