use Rattle.std.proofs.Common.{◌≡◌, ◌+◌, ℕ, List, length, map, ap, sym, subst, arith}
use Rattle.std.specs.Prelude.{◌↔◌, Contains, IsPermutation, Some, option_map}
use Rattle.std.specs.List.{slice_get}
use Rattle.std.proofs.lemmas.List.{length-map}
use Rattle.std.proofs.lemmas.List.Sorted.{Contains-permutation, IsPermutation-sym}
use Rattle.lsif.specs.Element.{IdValue, VertexValue, ElementValue, vertex}
use Rattle.dump.specs.Graph.{vertex_at, line_of}
use Rattle.dump.specs.Places.{IsListing}
use Rattle.flatten.specs.Steps.Parents.{AreIntervals, AreLinks, IsLinkPair, interval_cmp, interval_value}
use Rattle.flatten.proofs.Intervals.{are_intervals, are_parents}
use Rattle.flatten.proofs.NumberPairs.{HasVertexNumbers, number_ones}
use Rattle.flatten.proofs.parents.parents.Goals as goal

lined : (d : List ElementValue) → ((i : IdValue) (v : VertexValue) → vertex_at d i ≡ Some v → (k : ℕ) × (line_of d i ≡ Some k) × (slice_get d k ≡ Some (vertex i v))) → HasVertexNumbers d
lined d there i v e = let t = there i v e in (t.0 + 1, ap (option_map (λ k. k + 1)) t.1)

pub links-requires : goal.links-requires
links-requires c =
    let d = c.args.dump.now.elements in
    let free = c.requires.faultless in
    let sorted = map interval_value c.list_intervals.new.intervals.items in
    let vertices = c.vertex_law.ensures d free in
    let ones = number_ones d (c.line_law.ensures.one d) in
    let numbers = lined d (c.line_law.ensures.there d free) in
    let listed = subst (λ xs. IsListing interval_cmp (Contains xs) sorted) c.requires.intervals c.list_intervals.ensures in
    subst (λ xs. AreIntervals (map interval_value xs)) (sym c.deref.ensures.value)
    (are_intervals d c.requires.within vertices ones numbers (c.container_law.ensures d free) (c.nesting_law.ensures d free) sorted listed)

-- what is so of one order of the pairs is so of another
moved : (xs ys : List (ℕ × ℕ)) (P : ℕ × ℕ → Type 0) → ((p : ℕ × ℕ) → Contains xs p ↔ P p) → IsPermutation xs ys → (p : ℕ × ℕ) → Contains ys p ↔ P p
moved xs ys P each same p = (λ at. (each p).0 (Contains-permutation ys xs p (IsPermutation-sym xs ys same) at), λ h. Contains-permutation xs ys p same ((each p).1 h))

pub returns-clause-parents : goal.returns-clause-parents
returns-clause-parents c =
    let d = c.args.dump.now.elements in
    let free = c.requires.faultless in
    let items = c.list_intervals.new.intervals.items in
    let sorted = map interval_value items in
    let links = c.in_ok-links.links.items in
    let pairs = c.in_ok-pairs.pairs.items in
    let vertices = c.vertex_law.ensures d free in
    let ones = number_ones d (c.line_law.ensures.one d) in
    let numbers = lined d (c.line_law.ensures.there d free) in
    let listed = subst (λ xs. IsListing interval_cmp (Contains xs) sorted) c.requires.intervals c.list_intervals.ensures in
    let are : AreLinks sorted links = subst (λ xs. AreLinks (map interval_value xs) links) c.deref.ensures.value c.in_ok-links.ensures.links in
    let same : length links ≡ length sorted = omega (arith, c.in_ok-links.ensures.length, c.deref.ensures.len, length-map items interval_value) in
    let of_items = subst (λ xs. (p : ℕ × ℕ) → Contains pairs p ↔ IsLinkPair (map interval_value xs) c.deref-3.result.now (length c.deref-3.result.now) p) c.deref-2.ensures.value c.in_ok-pairs.ensures in
    let each = subst (λ xs. (p : ℕ × ℕ) → Contains pairs p ↔ IsLinkPair sorted xs (length xs) p) c.deref-3.ensures.value of_items in
    are_parents d c.requires.within vertices ones numbers (c.container_law.ensures d free) (c.nesting_law.ensures d free) sorted listed links are same c.sort_by_source.new.pairs.items
    (moved pairs c.sort_by_source.new.pairs.items (IsLinkPair sorted links (length links)) each c.sort_by_source.ensures.all)
