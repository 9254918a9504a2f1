-- The ends of the edges of a dump are vertices, which have lines: those of monikers, of bearers and
-- of first results.
use Rattle.std.proofs.Common.{◌≡◌, ◌∙◌, List, [], ◌∷◌, sym, ap, subst, arith, ℕ, ◌≤◌, Bool, true, false, refl, ◌<◌, get_or, nat_le, slice_get}
use Rattle.std.specs.Prelude.{ℕ, Contains, Option, Some, None, if◌then◌else◌, slice_get}
use Rattle.lsif.specs.Element.{IdValue, VertexValue, contains, next, request_edge, moniker_edge, package_edge, attach, item, other_edge, ElementValue, vertex, edge, same_id, element_id}
use Rattle.dump.specs.Graph.{vertex_at, ends, line_of}
use Rattle.dump.specs.Monikers.{moniker_pairs_of, MarkValue, Bears}
use Rattle.dump.specs.Walks.{Pair, first_to, first_of_list, same_label, single_in, single_pairs}
use Rattle.lsif.specs.declared.request_kind.RequestKind.{RequestKind}
use Rattle.dump.specs.declared.single.SingleLabel.TheVariants.{Request}
use Rattle.dump.specs.Requests.{First}
use Rattle.std.proofs.lemmas.List.Quantifiers.{position-Some}
use Rattle.dump.specs.declared.single.SingleLabel.{SingleLabel}
use Rattle.dump.specs.declared.single.SingleLabel.TheVariants.{Next, PackageInformation}
use Rattle.std.proofs.lemmas.Option.{get_or_from_slice_get}
use Rattle.streams.proofs.Members.{contains_head, contains_tail, contains_one, not_in_nil, flat_of, in_if}
use Rattle.dump.proofs.SameIds.{same_id_self}

abbrev pub HasLine : List ElementValue → IdValue → Type 0
HasLine elements i = (k : ℕ) × (line_of elements i ≡ Some k)

-- what is known of the ends of a dump's edges, and of the lines of its vertices
abbrev pub HasEnds : List ElementValue → Type 0
HasEnds elements = (x : ElementValue) → Contains elements x → (i : IdValue) → Contains (ends x) i → (v : VertexValue) × (vertex_at elements i ≡ Some v)

abbrev pub HasVertexLines : List ElementValue → Type 0
HasVertexLines elements = (i : IdValue) (v : VertexValue) → vertex_at elements i ≡ Some v → HasLine elements i

-- the pairs that an element says are of its ends
abbrev pub AreEnds : (ElementValue → List Pair) → Type 0
AreEnds f = (e : ElementValue) (x y : IdValue) → Contains (f e) (x, y) → Contains (ends e) x × Contains (ends e) y

pub two_ends : (from to x y : IdValue) → ◌≡◌ {A = Pair} (from, to) (x, y) → Contains (from ∷ to ∷ []) x × Contains (from ∷ to ∷ []) y
two_ends from to x y e = (
  subst (Contains (from ∷ to ∷ [])) (ap (λ (p : Pair). p.0) e) (contains_head from (to ∷ [])),
  subst (Contains (from ∷ to ∷ [])) (ap (λ (p : Pair). p.1) e) (contains_tail from (to ∷ []) to (contains_head to [])),
)

-- ---- monikers and bearers

pub moniker_ends : AreEnds moniker_pairs_of
moniker_ends (edge i (contains from to)) x y at = absurd (not_in_nil (x, y) at)
moniker_ends (edge i (next from to)) x y at = absurd (not_in_nil (x, y) at)
moniker_ends (edge i (request_edge kind from to)) x y at = absurd (not_in_nil (x, y) at)
moniker_ends (edge i (moniker_edge from to)) x y at = two_ends from to x y (contains_one {X = Pair} (from, to) (x, y) at)
moniker_ends (edge i (package_edge from to)) x y at = absurd (not_in_nil (x, y) at)
moniker_ends (edge i (attach from to)) x y at = absurd (not_in_nil (x, y) at)
moniker_ends (edge i (item e)) x y at = absurd (not_in_nil (x, y) at)
moniker_ends (edge i (other_edge from to)) x y at = absurd (not_in_nil (x, y) at)
moniker_ends (vertex i v) x y at = absurd (not_in_nil (x, y) at)

abbrev pub HasLines : List ElementValue → Type 0
HasLines d = (i : IdValue) (v : VertexValue) → vertex_at d i ≡ Some v → (k : ℕ) × (line_of d i ≡ Some k) × (slice_get d k ≡ Some (vertex i v))

pub bears_line : (d : List ElementValue) → HasEnds d → HasLines d → (x : IdValue) (mark : MarkValue) → Bears d x mark → (k : ℕ) × (line_of d x ≡ Some k)
bears_line d joined there x mark (m, n, at, near, is) =
    let f = flat_of moniker_pairs_of d (x, m) at in
    let v = joined f.0 f.1 x (moniker_ends f.0 x m f.2).0 in
    let l = there x v.0 v.1 in
    (l.0, l.1)

-- ---- first results

-- what a chain's first bound member is bound to, by its head
abbrev first_or : List Pair → Option IdValue → List IdValue → Option IdValue
first_or own o xs = elim o as (λ _. Option IdValue) [ Some r ↦ Some r | None ↦ first_of_list own xs ]

pair_by : (p : Pair) (ps : List Pair) (o : Option IdValue) (y : IdValue) → (o ≡ Some y → (z : IdValue) × Contains ps (z, y)) → (b : Bool) → (if b then Some p.1 else o) ≡ Some y → (z : IdValue) × Contains (p ∷ ps) (z, y)
pair_by p ps o y rest true e = let same : p.1 ≡ y = cc in (p.0, subst (λ w. Contains (p ∷ ps) (p.0, w)) same (contains_head p ps))
pair_by p ps o y rest false e = let r = rest e in (r.0, contains_tail p ps (r.0, y) r.1)

pair_of_first : (ps : List Pair) (x y : IdValue) → first_to ps x ≡ Some y → (z : IdValue) × Contains ps (z, y)
pair_of_first [] x y e = cc
pair_of_first (p ∷ ps) x y e = pair_by p ps (first_to ps x) y (pair_of_first ps x y) (same_id p.0 x) e

pair_ends : (b : Bool) (from to x y : IdValue) → Contains {X = Pair} (if b then (from, to) ∷ [] else []) (x, y) → Contains (from ∷ to ∷ []) y
pair_ends b from to x y at =
    let h = in_if {X = Pair} b ((from, to) ∷ []) (x, y) at in
    let e : ◌≡◌ {A = Pair} (from, to) (x, y) = contains_one (from, to) (x, y) h.1 in
    subst (Contains (from ∷ to ∷ [])) (ap (λ (p : Pair). p.1) e) (contains_tail from (to ∷ []) to (contains_head to []))

single_ends : (label : SingleLabel) (e : ElementValue) (x y : IdValue) → Contains (single_in label e) (x, y) → Contains (ends e) y
single_ends label (edge i (contains from to)) x y at = absurd (not_in_nil (x, y) at)
single_ends label (edge i (next from to)) x y at = pair_ends (same_label Next label) from to x y at
single_ends label (edge i (request_edge kind from to)) x y at = pair_ends (same_label (Request kind) label) from to x y at
single_ends label (edge i (moniker_edge from to)) x y at = absurd (not_in_nil (x, y) at)
single_ends label (edge i (package_edge from to)) x y at = pair_ends (same_label PackageInformation label) from to x y at
single_ends label (edge i (attach from to)) x y at = absurd (not_in_nil (x, y) at)
single_ends label (edge i (item e)) x y at = absurd (not_in_nil (x, y) at)
single_ends label (edge i (other_edge from to)) x y at = absurd (not_in_nil (x, y) at)
single_ends label (vertex i v) x y at = absurd (not_in_nil (x, y) at)

-- what an edge of a label leads to has a line
target_line : (label : SingleLabel) (elements : List ElementValue) → HasEnds elements → HasVertexLines elements → (x y : IdValue) → first_to (single_pairs label elements) x ≡ Some y → HasLine elements y
target_line label elements has lined x y e =
    let p = pair_of_first (single_pairs label elements) x y e in
    let f = flat_of (single_in label) elements (p.0, y) p.1 in
    let v = has f.0 f.1 y (single_ends label f.0 p.0 y f.2) in
    lined y v.0 v.1

found_by : (own : List Pair) (o : Option IdValue) (x : IdValue) (xs : List IdValue) (r : IdValue) → first_to own x ≡ o → (first_of_list own xs ≡ Some r → (y : IdValue) × (first_to own y ≡ Some r)) → first_or own o xs ≡ Some r → (y : IdValue) × (first_to own y ≡ Some r)
found_by own (Some s) x xs r is rest e = (x, is ∙ e)
found_by own None x xs r is rest e = rest e

-- what a list's first bound member is bound to is the target of an edge
bound : (own : List Pair) (xs : List IdValue) (r : IdValue) → first_of_list own xs ≡ Some r → (y : IdValue) × (first_to own y ≡ Some r)
bound own [] r e = cc
bound own (x ∷ xs) r e = found_by own (first_to own x) x xs r refl (bound own xs r) e

pub result_line : (request : RequestKind) (elements : List ElementValue) → HasEnds elements → HasVertexLines elements → (x r : IdValue) → First request elements x (Some r) → HasLine elements r
result_line request elements has lined x r f =
    let b = bound (single_pairs (Request request) elements) f.0 r (sym f.2) in
    target_line (Request request) elements has lined b.0 r b.1

-- ---- lines

-- the line of an id is the first that has it
pub first_line : (elements : List ElementValue) (y : IdValue) (v : VertexValue) (line k : ℕ) → slice_get elements k ≡ Some (vertex y v) → line_of elements y ≡ Some line → line ≤ k
first_line elements y v line k at is = by (nat_le line k) refl
  where
    by : (b : Bool) → nat_le line k ≡ b → line ≤ k
    by true e = grind (arith, e)
    by false e =
        let p = position-Some (λ x. same_id (element_id x) y) elements line (vertex y v) is in
        let lt : k < line = grind (arith, e) in
        let no : same_id (element_id (get_or elements k (vertex y v))) y ≡ false = p.2 k lt in
        let item : get_or elements k (vertex y v) ≡ vertex y v = get_or_from_slice_get elements k (vertex y v) (vertex y v) at in
        let yes : same_id (element_id (get_or elements k (vertex y v))) y ≡ true = subst (λ x. same_id (element_id x) y ≡ true) (sym item) (same_id_self y) in
        let clash : true ≡ false = sym yes ∙ no in
        cc
