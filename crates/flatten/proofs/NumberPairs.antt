-- Paths over pairs of ids, and over the pairs of their numbers.
use Rattle.std.proofs.Common.{◌≡◌, ◌⊎◌, inl, inr, ⊎_elim, ◌∙◌, ◌+◌, Bool, List, [], ◌∷◌, refl, sym, ap, subst, arith}
use Rattle.std.specs.Prelude.{ℕ, Contains, Option, Some, None, option_map, slice_get, if◌then◌else◌}
use Rattle.std.specs.List.{flat_map}
use Rattle.lsif.specs.declared.element.Property.{Property}
use Rattle.lsif.specs.declared.element.Property.TheVariants.{Definitions, References, ReferenceResults}
use Rattle.lsif.specs.Element.{IdValue, VertexValue, ItemValue, contains, next, request_edge, moniker_edge, package_edge, attach, item, other_edge, ElementValue, vertex, edge}
use Rattle.dump.specs.Graph.{vertex_at, ends, line_of}
use Rattle.dump.specs.Monikers.{attach_pairs_of, moniker_pairs_of}
use Rattle.dump.specs.Places.{joined_results, result_pairs_of}
use Rattle.dump.specs.declared.single.SingleLabel.{SingleLabel}
use Rattle.dump.specs.declared.single.SingleLabel.TheVariants as singles
use Rattle.dump.specs.Walks.{Pair, Path, stays, goes, same_label, single_in}
use Rattle.flatten.specs.Flat.{number_of}
use Rattle.flatten.specs.Steps.Numbers.{both_numbers, one_or_none, numbers_of_pair, pairs_in, pairs_of}
use Rattle.streams.proofs.Members.{contains_head, contains_tail, contains_one, contains_cases, in_if, map_source, not_in_nil, flat_of, flat_from}

-- ---- numbers

-- the line of a number
pub number_line : (o : Option ℕ) (n : ℕ) → option_map (λ k. k + 1) o ≡ Some n → (k : ℕ) × (o ≡ Some k) × (k + 1 ≡ n)
number_line None n e = cc
number_line (Some k) n e = let same : k + 1 ≡ n = cc in (k, refl, same)

-- a number is that of one id, as a line is
pub number_ones : (elements : List ElementValue) → ((i j : IdValue) (k : ℕ) → line_of elements i ≡ Some k → line_of elements j ≡ Some k → i ≡ j) → (x y : IdValue) (n : ℕ) → number_of elements x ≡ Some n → number_of elements y ≡ Some n → x ≡ y
number_ones elements one x y n e f =
    let a = number_line (line_of elements x) n e in
    let b = number_line (line_of elements y) n f in
    let same : b.0 ≡ a.0 = omega (arith, a.2, b.2) in
    one x y a.0 a.1 (b.1 ∙ ap (λ k. Some k) same)

-- what the laws say of the lines of vertices
pub vertex_numbers : (elements : List ElementValue) → ((i : IdValue) (v : VertexValue) → vertex_at elements i ≡ Some v → (k : ℕ) × (line_of elements i ≡ Some k) × (slice_get elements k ≡ Some (vertex i v))) → (i : IdValue) (v : VertexValue) → vertex_at elements i ≡ Some v → (n : ℕ) × (number_of elements i ≡ Some n)
vertex_numbers elements there i v e = let t = there i v e in (t.0 + 1, ap (option_map (λ k. k + 1)) t.1)

-- ---- pairs of ids and of numbers

abbrev pub HasNumber : List ElementValue → IdValue → Type 0
HasNumber elements i = (k : ℕ) × (number_of elements i ≡ Some k)

-- the numbers of the pairs, where each id has one
pub record AreNumbers (elements : List ElementValue) (pairs : List Pair) (numbers : List (ℕ × ℕ)) : Type 0 where
  pub to : (i j : ℕ) → Contains numbers (i, j) → (x y : IdValue) × Contains pairs (x, y) × (number_of elements x ≡ Some i) × (number_of elements y ≡ Some j)
  pub from : (x y : IdValue) (i j : ℕ) → Contains pairs (x, y) → number_of elements x ≡ Some i → number_of elements y ≡ Some j → Contains numbers (i, j)

-- each member of the pairs has a number
abbrev pub HaveNumbers : List ElementValue → List Pair → Type 0
HaveNumbers elements pairs = (x y : IdValue) → Contains pairs (x, y) → HasNumber elements x × HasNumber elements y

-- a number is that of one id
abbrev pub AreOnes : List ElementValue → Type 0
AreOnes elements = (x y : IdValue) (k : ℕ) → number_of elements x ≡ Some k → number_of elements y ≡ Some k → x ≡ y

-- a path over ids is one over their numbers
pub path_to : (elements : List ElementValue) (pairs : List Pair) (numbers : List (ℕ × ℕ)) → AreNumbers elements pairs numbers → HaveNumbers elements pairs → (x y : IdValue) (i : ℕ) → number_of elements x ≡ Some i → Path pairs x y
    → (j : ℕ) × (number_of elements y ≡ Some j) × Path numbers i j
path_to elements pairs numbers are have x y i at stays = (i, at, stays)
path_to elements pairs numbers are have x y i at (goes {y = w} z path here) =
    let r = path_to elements pairs numbers are have x w i at path in
    let h = (have w z here).1 in
    (h.0, h.1, goes h.0 r.2 (are.from w z r.0 h.0 here r.1 h.1))

-- ---- the numbers of the pairs that elements say

pub in_one : {X : Type 0} (o : Option X) (x : X) → Contains (one_or_none o) x → o ≡ Some x
in_one None x at = absurd (not_in_nil x at)
in_one (Some y) x at = ap (λ z. Some z) (contains_one y x at)

pub one_in : {X : Type 0} (o : Option X) (x : X) → o ≡ Some x → Contains (one_or_none o) x
one_in o x e = subst (λ p. Contains (one_or_none p) x) (sym e) (contains_head x [])

pub both_of : (a b : Option ℕ) (i j : ℕ) → both_numbers a b ≡ Some (i, j) → (a ≡ Some i) × (b ≡ Some j)
both_of (Some k) (Some l) i j e = let same : ◌≡◌ {A = ℕ × ℕ} (k, l) (i, j) = cc in (ap (λ p. Some p.0) same, ap (λ p. Some p.1) same)
both_of (Some k) None i j e = cc
both_of None b i j e = cc

pub are_numbers : (f : ElementValue → List Pair) (elements : List ElementValue) → AreNumbers elements (flat_map f elements) (pairs_of f elements)
are_numbers f elements = record {
  to = λ i j at.
      let e = flat_of (pairs_in f elements) elements (i, j) at in
      let p = flat_of (numbers_of_pair elements) (f e.0) (i, j) e.2 in
      let b = both_of (number_of elements p.0.0) (number_of elements p.0.1) i j (in_one (both_numbers (number_of elements p.0.0) (number_of elements p.0.1)) (i, j) p.2) in
      (p.0.0, p.0.1, flat_from f elements e.0 (p.0.0, p.0.1) e.1 p.1, b.0, b.1);
  from = λ x y i j at first second.
      let e = flat_of f elements (x, y) at in
      let both : both_numbers (number_of elements x) (number_of elements y) ≡ Some (i, j) = ap (λ a. both_numbers a (number_of elements y)) first ∙ ap (λ b. both_numbers (Some i) b) second in
      flat_from (pairs_in f elements) elements e.0 (i, j) e.1 (flat_from (numbers_of_pair elements) (f e.0) (x, y) (i, j) e.2 (one_in (both_numbers (number_of elements x) (number_of elements y)) (i, j) both));
}

-- what is known of the ends of a dump's edges, and of the numbers of its vertices
abbrev pub HasEnds : List ElementValue → Type 0
HasEnds elements = (x : ElementValue) → Contains elements x → (i : IdValue) → Contains (ends x) i → (v : VertexValue) × (vertex_at elements i ≡ Some v)

abbrev pub HasVertexNumbers : List ElementValue → Type 0
HasVertexNumbers elements = (i : IdValue) (v : VertexValue) → vertex_at elements i ≡ Some v → HasNumber elements i

-- the pairs that an element says are of its ends
abbrev pub AreEnds : (ElementValue → List Pair) → Type 0
AreEnds f = (e : ElementValue) (x y : IdValue) → Contains (f e) (x, y) → Contains (ends e) x × Contains (ends e) y

pub have_numbers : (f : ElementValue → List Pair) (elements : List ElementValue) → AreEnds f → HasEnds elements → HasVertexNumbers elements → HaveNumbers elements (flat_map f elements)
have_numbers f elements are has lined x y at =
    let e = flat_of f elements (x, y) at in
    let b = are e.0 x y e.2 in
    let v = has e.0 e.1 x b.0 in
    let w = has e.0 e.1 y b.1 in
    (lined x v.0 v.1, lined y w.0 w.1)

-- ---- monikers

pub two_ends : (from to x y : IdValue) → ◌≡◌ {A = Pair} (from, to) (x, y) → Contains (from ∷ to ∷ []) x × Contains (from ∷ to ∷ []) y
two_ends from to x y e = (
  subst (Contains (from ∷ to ∷ [])) (ap (λ (p : Pair). p.0) e) (contains_head from (to ∷ [])),
  subst (Contains (from ∷ to ∷ [])) (ap (λ (p : Pair). p.1) e) (contains_tail from (to ∷ []) to (contains_head to [])),
)

swapped : (x y : IdValue) (from to : IdValue) → Contains {X = Pair} ((from, to) ∷ (to, from) ∷ []) (x, y) → ◌≡◌ {A = Pair} (from, to) (x, y) ⊎ ◌≡◌ {A = Pair} (from, to) (y, x)
swapped x y from to at = ⊎_elim
    (λ (e : ◌≡◌ {A = Pair} (from, to) (x, y)). inl e)
    (λ (t : Contains {X = Pair} ((to, from) ∷ []) (x, y)). let e : ◌≡◌ {A = Pair} (to, from) (x, y) = contains_one (to, from) (x, y) t in inr (ap (λ (p : Pair). (p.1, p.0)) e))
    (contains_cases (from, to) ((to, from) ∷ []) (x, y) at)

pub attach_ends : AreEnds attach_pairs_of
attach_ends (edge i (contains from to)) x y at = absurd (not_in_nil (x, y) at)
attach_ends (edge i (next from to)) x y at = absurd (not_in_nil (x, y) at)
attach_ends (edge i (request_edge kind from to)) x y at = absurd (not_in_nil (x, y) at)
attach_ends (edge i (moniker_edge from to)) x y at = absurd (not_in_nil (x, y) at)
attach_ends (edge i (package_edge from to)) x y at = absurd (not_in_nil (x, y) at)
attach_ends (edge i (attach from to)) x y at = ⊎_elim (λ (e : ◌≡◌ {A = Pair} (from, to) (x, y)). two_ends from to x y e) (λ (e : ◌≡◌ {A = Pair} (from, to) (y, x)). let t = two_ends from to y x e in (t.1, t.0)) (swapped x y from to at)
attach_ends (edge i (item e)) x y at = absurd (not_in_nil (x, y) at)
attach_ends (edge i (other_edge from to)) x y at = absurd (not_in_nil (x, y) at)
attach_ends (vertex i v) x y at = absurd (not_in_nil (x, y) at)

-- what an edge of a label of one target joins are its ends
joined_by : (b : Bool) (from to x y : IdValue) → Contains {X = Pair} (if b then (from, to) ∷ [] else []) (x, y) → Contains (from ∷ to ∷ []) x × Contains (from ∷ to ∷ []) y
joined_by b from to x y at = two_ends from to x y (contains_one {X = Pair} (from, to) (x, y) (in_if b ((from, to) ∷ []) (x, y) at).1)

pub single_ends : (label : SingleLabel) → AreEnds (single_in label)
single_ends label (edge i (contains from to)) x y at = absurd (not_in_nil (x, y) at)
single_ends label (edge i (next from to)) x y at = joined_by (same_label singles.Next label) from to x y at
single_ends label (edge i (request_edge kind from to)) x y at = joined_by (same_label (singles.Request kind) label) from to x y at
single_ends label (edge i (moniker_edge from to)) x y at = absurd (not_in_nil (x, y) at)
single_ends label (edge i (package_edge from to)) x y at = joined_by (same_label singles.PackageInformation label) from to x y at
single_ends label (edge i (attach from to)) x y at = absurd (not_in_nil (x, y) at)
single_ends label (edge i (item e)) x y at = absurd (not_in_nil (x, y) at)
single_ends label (edge i (other_edge from to)) x y at = absurd (not_in_nil (x, y) at)
single_ends label (vertex i v) x y at = absurd (not_in_nil (x, y) at)

-- a path over numbers from that of an id is one over ids
pub path_on : (elements : List ElementValue) (pairs : List Pair) (numbers : List (ℕ × ℕ)) → AreNumbers elements pairs numbers → AreOnes elements → (x : IdValue) (i j : ℕ) → number_of elements x ≡ Some i → Path numbers i j
    → (y : IdValue) × (number_of elements y ≡ Some j) × Path pairs x y
path_on elements pairs numbers are ones x i j at stays = (x, at, stays)
path_on elements pairs numbers are ones x i j at (goes {y = k} l path here) =
    let h = are.to k j here in
    let r = path_on elements pairs numbers are ones x i k at path in
    let same : h.0 ≡ r.0 = ones h.0 r.0 k h.3 r.1 in
    (h.1, h.4, goes h.1 r.2 (subst (λ v. Contains pairs (v, h.1)) same h.2))

pub moniker_ends : AreEnds moniker_pairs_of
moniker_ends (edge i (contains from to)) x y at = absurd (not_in_nil (x, y) at)
moniker_ends (edge i (next from to)) x y at = absurd (not_in_nil (x, y) at)
moniker_ends (edge i (request_edge kind from to)) x y at = absurd (not_in_nil (x, y) at)
moniker_ends (edge i (moniker_edge from to)) x y at = two_ends from to x y (contains_one {X = Pair} (from, to) (x, y) at)
moniker_ends (edge i (package_edge from to)) x y at = absurd (not_in_nil (x, y) at)
moniker_ends (edge i (attach from to)) x y at = absurd (not_in_nil (x, y) at)
moniker_ends (edge i (item e)) x y at = absurd (not_in_nil (x, y) at)
moniker_ends (edge i (other_edge from to)) x y at = absurd (not_in_nil (x, y) at)
moniker_ends (vertex i v) x y at = absurd (not_in_nil (x, y) at)

-- what `item` edges with "referenceResults" join are their ends
joined_ends : (e : ItemValue) (o : Option Property) (x y : IdValue) → Contains (joined_results e o) (x, y) → Contains (e.source ∷ e.targets) x × Contains (e.source ∷ e.targets) y
joined_ends e None x y at = absurd (not_in_nil (x, y) at)
joined_ends e (Some Definitions) x y at = absurd (not_in_nil (x, y) at)
joined_ends e (Some References) x y at = absurd (not_in_nil (x, y) at)
joined_ends e (Some ReferenceResults) x y at =
    let m = map_source (λ (to : IdValue). (e.source, to)) e.targets (x, y) at in (
      subst (Contains (e.source ∷ e.targets)) (ap (λ (p : IdValue × IdValue). p.0) m.2) (contains_head e.source e.targets),
      subst (Contains (e.source ∷ e.targets)) (ap (λ (p : IdValue × IdValue). p.1) m.2) (contains_tail e.source e.targets m.0 m.1),
    )

pub result_ends : AreEnds result_pairs_of
result_ends (edge i (contains from to)) x y at = absurd (not_in_nil (x, y) at)
result_ends (edge i (next from to)) x y at = absurd (not_in_nil (x, y) at)
result_ends (edge i (request_edge kind from to)) x y at = absurd (not_in_nil (x, y) at)
result_ends (edge i (moniker_edge from to)) x y at = absurd (not_in_nil (x, y) at)
result_ends (edge i (package_edge from to)) x y at = absurd (not_in_nil (x, y) at)
result_ends (edge i (attach from to)) x y at = absurd (not_in_nil (x, y) at)
result_ends (edge i (item e)) x y at = joined_ends e e.property x y at
result_ends (edge i (other_edge from to)) x y at = absurd (not_in_nil (x, y) at)
result_ends (vertex i v) x y at = absurd (not_in_nil (x, y) at)
