-- What the walks over a dump without fault lead to are finite sets, and there is a first result of
-- each vertex or none.
use Rattle.std.proofs.Common.{◌≡◌, ◌⊎◌, inl, inr, ⊎_elim, ℕ, true, List, [], ◌∷◌, map, refl, sym, ap, subst, zero, suc, slice_get}
use Rattle.std.specs.Prelude.{Contains, Option, Some, None, Ok, bytes_eq}
use Rattle.std.proofs.lemmas.Slice.Eq.{bytes_eq-Decides}
use Rattle.lsif.specs.Element.{IdValue, same_id, VertexValue, meta_data, project, document, range, result_set, request_result, hover_result, moniker, package_information, event, other_vertex, ElementValue, vertex, edge}
use Rattle.lsif.specs.declared.request_kind.RequestKind.{RequestKind}
use Rattle.lsif.specs.declared.request_kind.RequestKind.TheVariants as requests
use Rattle.dump.specs.Fault.{IsFaultless}
use Rattle.dump.specs.Graph.{vertex_at}
use Rattle.dump.specs.Monikers.{MarkValue, Bears, Marks, Near, attach_pairs, mark_of, moniker_pairs}
use Rattle.dump.specs.Places.{HasDocument}
use Rattle.dump.specs.Progress.{IsSound}
use Rattle.lsif.specs.RequestKinds.{follows}
use Rattle.dump.specs.declared.single.SingleLabel.TheVariants.{Request}
use Rattle.dump.specs.Requests.{First, Speaks}
use Rattle.dump.specs.Walks.{Pair, Path, stays, goes, IsChain, first_of_list, single_pairs, next_pairs, reaches}
use Rattle.dump.proofs.Chains.{unique}
use Rattle.dump.proofs.Ends.{each_ends}
use Rattle.dump.proofs.OnePicks.{one_result}
use Rattle.dump.proofs.OwnPlaces.{first_contents}
use Rattle.dump.proofs.Paths.{path_of, reaches_of}
use Rattle.dump.proofs.Progresses.{sound_of}
use Rattle.streams.proofs.Members.{contains_head, contains_tail, contains_map}
use Rattle.dump.proofs.Uniques.{vertex_is}
use Rattle.dump.proofs.SameIds.{same_id_eq, same_id_self}
use Rattle.machine.proofs.Finite.{Finite, Decision, is_true, same_where, of_list, of_same, of_none, of_option, of_union, of_image, of_those, of_decision, of_either, has_member}

pub same_ids : (x y : IdValue) → Decision (x ≡ y)
same_ids x y = same_where (same_id x y) (same_id_eq x y) (λ e. subst (λ z. same_id x z ≡ true) e (same_id_self x))

-- ---- pairs and paths

-- what the pairs join a vertex to
pub joined_to : (ps : List Pair) (x : IdValue) → Finite (λ y. Contains ps (x, y))
joined_to ps x = of_same (λ y. (p : Pair) × (Contains ps p × (p.0 ≡ x)) × (p.1 ≡ y)) (λ y. Contains ps (x, y))
    (λ y. (λ h. subst (Contains ps) (λ i. (h.1.1 i, h.2 i)) h.1.0, λ at. ((x, y), (at, refl), refl)))
    (of_image (λ p. Contains ps p × (p.0 ≡ x)) (λ (p : Pair). p.1) (of_those (Contains ps) (λ p. p.0 ≡ x) (of_list ps) (λ p at. same_ids p.0 x)))

-- what they join to anything
pub sources : (ps : List Pair) → Finite (λ x. (p : Pair) × Contains ps p × (p.0 ≡ x))
sources ps = of_image (Contains ps) (λ (p : Pair). p.0) (of_list ps)

path_end : (ps : List Pair) (x y : IdValue) → Path ps x y → Contains (x ∷ map (λ (p : Pair). p.1) ps) y
path_end ps x y stays = contains_head x (map (λ (p : Pair). p.1) ps)
path_end ps x y (goes {y = w} z path at) = contains_tail x (map (λ (p : Pair). p.1) ps) z (contains_map (λ (p : Pair). p.1) ps (w, z) at)

pub path_ends : (ps : List Pair) (x : IdValue) → Finite (Path ps x)
path_ends ps x = of_same (λ y. Contains (x ∷ map (λ (p : Pair). p.1) ps) y × (reaches ps x y ≡ true)) (Path ps x)
    (λ y. (λ h. path_of ps x y h.1, λ path. (path_end ps x y path, reaches_of ps x y path)))
    (of_those (Contains (x ∷ map (λ (p : Pair). p.1) ps)) (λ y. reaches ps x y ≡ true) (of_list (x ∷ map (λ (p : Pair). p.1) ps)) (λ y at. is_true (reaches ps x y)))

-- ---- marks

-- the marks that a vertex has
pub borne : (d : List ElementValue) (x : IdValue) → Finite (Bears d x)
borne d x = of_same (λ mark. (m : IdValue) × Contains (moniker_pairs d) (x, m) × ((n : IdValue) × Near d m n × (mark_of d n ≡ Some mark))) (Bears d x)
    (λ mark. (λ h. (h.0, h.2.0, h.1, h.2.1, h.2.2), λ h. (h.0, h.2, (h.1, h.3, h.4))))
    (of_union (λ m mark. (n : IdValue) × Near d m n × (mark_of d n ≡ Some mark)) (λ m. Contains (moniker_pairs d) (x, m)) (joined_to (moniker_pairs d) x)
    (λ m at. of_union (λ n mark. mark_of d n ≡ Some mark) (Near d m) (path_ends (attach_pairs d) m) (λ n near. of_option (mark_of d n))))

-- ---- lines of a vertex

abbrev Stands : List ElementValue → IdValue → ℕ → Type 0
Stands d x k = (v : VertexValue) × (slice_get d k ≡ Some (vertex x v))

is_vertex : (y : ElementValue) (x : IdValue) → Decision ((v : VertexValue) × (y ≡ vertex x v))
is_vertex (vertex i v) x = ⊎_elim (λ (e : i ≡ x). inl (v, ap (λ j. vertex j v) e)) (λ (other : i ≡ x → ⊥). inr (λ h. other (let e : i ≡ x = cc (h.1) in e))) (same_ids i x)
is_vertex (edge i e) x = inr (λ h. let clash : edge i e ≡ vertex x h.0 = h.1 in cc)

some_same : {X : Type 0} (x y : X) → Some x ≡ Some y → x ≡ y
some_same x y e = cc

-- the lines of a list at which a vertex of this id is
pub vertex_lines : (d : List ElementValue) (x : IdValue) → Finite (Stands d x)
vertex_lines [] x = of_none (Stands [] x) (λ k h. none k h.0 h.1)
  where
    none : (k : ℕ) (v : VertexValue) → slice_get [] k ≡ Some (vertex x v) → ⊥
    none zero v e = cc
    none (suc k) v e = cc
vertex_lines (y ∷ d) x = of_same
    (λ k. ((k ≡ 0) × ((v : VertexValue) × (y ≡ vertex x v))) ⊎ ((j : ℕ) × Stands d x j × (suc j ≡ k))) (Stands (y ∷ d) x)
    (λ k. (to k, from k))
    (of_either (λ k. (k ≡ 0) × ((v : VertexValue) × (y ≡ vertex x v))) (λ k. (j : ℕ) × Stands d x j × (suc j ≡ k))
    (of_same (λ k. ((v : VertexValue) × (y ≡ vertex x v)) × (0 ≡ k)) (λ k. (k ≡ 0) × ((v : VertexValue) × (y ≡ vertex x v))) (λ k. (λ h. (sym h.1, h.0), λ h. (h.1, sym h.0))) (of_decision 0 (is_vertex y x)))
    (of_image (Stands d x) suc (vertex_lines d x)))
  where
    to : (k : ℕ) → ((k ≡ 0) × ((v : VertexValue) × (y ≡ vertex x v))) ⊎ ((j : ℕ) × Stands d x j × (suc j ≡ k)) → Stands (y ∷ d) x k
    to k (inl (e, is)) = (is.0, subst (λ j. slice_get (y ∷ d) j ≡ Some (vertex x is.0)) (sym e) (ap Some is.1))
    to k (inr (j, is, e)) = (is.0, subst (λ i. slice_get (y ∷ d) i ≡ Some (vertex x is.0)) e is.1)

    from : (k : ℕ) → Stands (y ∷ d) x k → ((k ≡ 0) × ((v : VertexValue) × (y ≡ vertex x v))) ⊎ ((j : ℕ) × Stands d x j × (suc j ≡ k))
    from zero (v, is) = inl (refl, (v, some_same y (vertex x v) is))
    from (suc k) (v, is) = inr (k, (v, is), refl)

-- ---- documents

-- the element is a document of this uri
abbrev IsDocument : List ℕ → ElementValue → Type 0
IsDocument uri x = (i : IdValue) × (x ≡ vertex i (document uri))

uri_same : (i j : IdValue) (s t : List ℕ) → vertex i (document s) ≡ vertex j (document t) → s ≡ t
uri_same i j s t e = cc

is_document : (uri : List ℕ) (x : ElementValue) → Decision (IsDocument uri x)
is_document uri (vertex i (document s)) = ⊎_elim
    (λ (e : s ≡ uri). inl (i, ap (λ t. vertex i (document t)) e))
    (λ (other : s ≡ uri → ⊥). inr (λ h. other (uri_same i h.0 s uri h.1)))
    (same_where (bytes_eq s uri) (bytes_eq-Decides s uri).0 (bytes_eq-Decides s uri).1)
is_document uri (vertex i (meta_data b)) = inr (λ (j, e). cc)
is_document uri (vertex i project) = inr (λ (j, e). cc)
is_document uri (vertex i (range s)) = inr (λ (j, e). cc)
is_document uri (vertex i result_set) = inr (λ (j, e). cc)
is_document uri (vertex i (request_result kind)) = inr (λ (j, e). cc)
is_document uri (vertex i (hover_result t)) = inr (λ (j, e). cc)
is_document uri (vertex i (moniker m)) = inr (λ (j, e). cc)
is_document uri (vertex i (package_information k)) = inr (λ (j, e). cc)
is_document uri (vertex i (event v)) = inr (λ (j, e). cc)
is_document uri (vertex i other_vertex) = inr (λ (j, e). cc)
is_document uri (edge i f) = inr (λ (j, e). cc)

-- ---- in a dump without fault

module _ (d : List ElementValue) (free : IsFaultless (map Ok d)) where
  sound : IsSound d
  sound = sound_of d free

  chain_of : (x : IdValue) → (xs : List IdValue) × IsChain (next_pairs d) x xs
  chain_of x = each_ends d sound x

  -- each vertex has a first result or has none
  pub has_first : (request : RequestKind) (x : IdValue) → (result : Option IdValue) × First request d x result
  has_first request x = (first_of_list (single_pairs (Request request) d) (chain_of x).0, ((chain_of x).0, (chain_of x).1, refl))

  pub first_results : (request : RequestKind) (x : IdValue) → Finite (λ r. First request d x (Some r))
  first_results request x =
      let f = has_first request x in
      of_same (λ r. f.0 ≡ Some r) (λ r. First request d x (Some r)) (λ r. (λ e. subst (First request d x) e f.1, λ g. one_result request d x f.0 (Some r) f.1 g)) (of_option f.0)

  -- the marks of a vertex
  pub marks : (x : IdValue) → Finite (Marks d x)
  marks x =
      let c = chain_of x in
      of_same (λ mark. (y : IdValue) × Contains c.0 y × Bears d y mark) (Marks d x)
      (λ mark. (
        λ h. (c.0, h.0, c.1, h.1, h.2),
        λ h. (h.1, subst (λ ys. Contains ys h.1) (unique (next_pairs d) x h.0 c.0 h.2 c.1) h.3, h.4),
      ))
      (of_union (λ y mark. Bears d y mark) (Contains c.0) (of_list c.0) (λ y at. borne d y))

  -- whether a vertex has an answer
  pub speaks : (request : RequestKind) (x : IdValue) → Decision (Speaks request d x)
  speaks request x = ⊎_elim
      (λ (r : (r : IdValue) × First request d x (Some r)). inl (inl r))
      (λ (none : ((r : IdValue) × First request d x (Some r)) → ⊥). ⊎_elim
      (λ (m : (mark : MarkValue) × (Marks d x mark × (follows request mark.kind ≡ true))). inl (inr (m.0, m.1.0, m.1.1)))
      (λ (nobody : ((mark : MarkValue) × (Marks d x mark × (follows request mark.kind ≡ true))) → ⊥). inr (λ h. ⊎_elim none (λ (m : (mark : MarkValue) × Marks d x mark × (follows request mark.kind ≡ true)). nobody (m.0, (m.1, m.2))) h))
      (has_member (λ mark. Marks d x mark × (follows request mark.kind ≡ true)) (of_those (Marks d x) (λ mark. follows request mark.kind ≡ true) (marks x) (λ mark at. is_true (follows request mark.kind)))))
      (has_member (λ r. First request d x (Some r)) (first_results request x))

  -- the contents of the first hover result, or that there is none
  pub has_contents : (x : IdValue) → ((contents : List ℕ) × ((result : IdValue) × First requests.Hover d x (Some result) × (vertex_at d result ≡ Some (hover_result contents)))) ⊎ First requests.Hover d x None
  has_contents x = by (has_first requests.Hover x).0 (has_first requests.Hover x).1
    where
      by : (o : Option IdValue) → First requests.Hover d x o → ((contents : List ℕ) × ((result : IdValue) × First requests.Hover d x (Some result) × (vertex_at d result ≡ Some (hover_result contents)))) ⊎ First requests.Hover d x None
      by None f = inr f
      by (Some result) f = let c = first_contents d sound x result f in inl (c.0, (result, f, c.1))

  -- whether there is a document of this uri
  pub has_document : (uri : List ℕ) → Decision (HasDocument d uri)
  has_document uri = ⊎_elim
      (λ (h : (x : ElementValue) × (Contains d x × IsDocument uri x)). inl (h.1.1.0, (vertex_is d sound h.1.1.0 (document uri)).1 (subst (Contains d) h.1.1.1 h.1.0)))
      (λ (none : ((x : ElementValue) × (Contains d x × IsDocument uri x)) → ⊥). inr (λ h. none (vertex h.0 (document uri), ((vertex_is d sound h.0 (document uri)).0 h.1, (h.0, refl)))))
      (has_member (λ x. Contains d x × IsDocument uri x) (of_those (Contains d) (IsDocument uri) (of_list d) (λ x at. is_document uri x)))
