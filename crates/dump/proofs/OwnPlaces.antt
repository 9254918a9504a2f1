-- In a sound dump a request's first result is of its kind, and one of another request than
-- references leads to no other result.
use Rattle.std.proofs.Common.{◌≡◌, ⊎_elim, ◌∙◌, ◌||◌, ◌++◌, ◌∷◌, [], ℕ, not, Bool, true, false, List, map, refl, sym, ap, subst, Option, Some, None, is_some}
use Rattle.std.specs.Prelude.{Contains, ◌↔◌, if◌then◌else◌}
use Rattle.std.specs.List.{flat_map, list_any}
use Rattle.std.proofs.lemmas.List.Elements.{Contains-push_cases, Contains-append_cases}
use Rattle.lsif.specs.declared.element.Property.{Property}
use Rattle.lsif.specs.declared.element.Property.TheVariants.{Definitions, References, ReferenceResults}
use Rattle.lsif.specs.Element.{IdValue, VertexValue, meta_data, project, document, range, result_set, request_result, hover_result, moniker, package_information, event, other_vertex, contains, next, request_edge, moniker_edge, package_edge, attach, ItemValue, item, other_edge, ElementValue, vertex, edge}
use Rattle.dump.specs.Conditions.{fits_row, may_not_join}
use Rattle.dump.specs.Graph.{vertex_at}
use Rattle.lsif.proofs.RequestKinds.{one_kind}
use Rattle.lsif.specs.RequestKinds.{asks_for_uses, gives_places, same_kind}
use Rattle.dump.specs.Kinds.{is_of_kind, item_rows, result_kind}
use Rattle.dump.specs.declared.vertices.Kind.{Kind}
use Rattle.dump.specs.declared.vertices.Kind.TheVariants.{Any, ResultSet, Result, OneRole, HoverResult, Moniker, Package, Other, Asked}
use Rattle.dump.specs.Progress.{IsSound}
use Rattle.dump.specs.Walks.{Pair, same_label, single_of, single_in, single_pairs, first_to, first_of_list, Path, stays, goes}
use Rattle.dump.specs.declared.single.SingleLabel.{SingleLabel}
use Rattle.dump.specs.declared.single.SingleLabel.TheVariants.{Next, PackageInformation, Request}
use Rattle.lsif.specs.declared.request_kind.RequestKind.{RequestKind}
use Rattle.lsif.specs.declared.request_kind.RequestKind.TheVariants as requests
use Rattle.dump.specs.declared.role.Role.{Role}
use Rattle.dump.specs.Requests.{First}
use Rattle.dump.specs.Places.{PlaceValue, joined_results, result_pairs_of, result_pairs, IsItemPlace, Places}
use Rattle.streams.proofs.Bools.{and_both, not_false, or_false, or_left, or_right, or_some}
use Rattle.streams.proofs.Members.{contains_head, contains_tail, contains_cases, not_in_nil}
use Rattle.dump.proofs.Rows.{kind_known, target_fits}
use Rattle.dump.proofs.Nests.{kept_vertex, vertex_there}
use Rattle.dump.proofs.Ends.{HasNoCode, holds, pair_of_first}

-- ---- results that lead to no other

-- a result of another request than references
abbrev is_own_result : Option VertexValue → Bool
is_own_result v = is_of_kind OneRole v || is_of_kind HoverResult v

-- the kind of what an edge of the label leads to
abbrev target_kind : SingleLabel → Kind
target_kind Next = ResultSet
target_kind PackageInformation = Package
target_kind (Request kind) = result_kind kind

abbrev pub is_target : SingleLabel → Option VertexValue → Bool
is_target label = is_of_kind (target_kind label)

-- an `item` edge may join it to results
abbrev may_lead : Option VertexValue → Bool
may_lead v = is_of_kind (Result requests.References) v || is_of_kind Other v

lead_known : (v : Option VertexValue) → may_lead v ≡ true → is_some v ≡ true
lead_known v e = ⊎_elim (λ reference. kind_known (Result requests.References) v reference) (λ other. kind_known Other v other) (or_some (is_of_kind (Result requests.References) v) (is_of_kind Other v) e)

other_role : (kind : RequestKind) → not (asks_for_uses kind) ≡ true → same_kind requests.References kind ≡ true → ⊥
other_role kind e f =
    let is : requests.References ≡ kind = one_kind requests.References kind f in
    let no : not (asks_for_uses requests.References) ≡ true = subst (λ k. not (asks_for_uses k) ≡ true) (sym is) e in
    cc

apart : (v : Option VertexValue) → is_own_result v ≡ true → may_lead v ≡ true → ⊥
apart None e f = cc
apart (Some (meta_data b)) e f = cc
apart (Some project) e f = cc
apart (Some (document s)) e f = cc
apart (Some (range s)) e f = cc
apart (Some result_set) e f = cc
apart (Some (request_result kind)) e f = other_role kind (sym (or_false (not (asks_for_uses kind))) ∙ e) (sym (or_false (same_kind requests.References kind)) ∙ f)
apart (Some (hover_result s)) e f = cc
apart (Some (moniker m)) e f = cc
apart (Some (package_information p)) e f = cc
apart (Some (event v)) e f = cc
apart (Some other_vertex) e f = cc

still_target : (d : List ElementValue) (x : ElementValue) (label : SingleLabel) (i : IdValue) → is_target label (vertex_at d i) ≡ true → is_target label (vertex_at (d ++ x ∷ []) i) ≡ true
still_target d x label i e = let w = vertex_there (vertex_at d i) (kind_known (target_kind label) (vertex_at d i) e) in ap (is_target label) (kept_vertex d x i w.0 w.1) ∙ e

still_leads : (d : List ElementValue) (x : ElementValue) (i : IdValue) → may_lead (vertex_at d i) ≡ true → may_lead (vertex_at (d ++ x ∷ []) i) ≡ true
still_leads d x i e = let w = vertex_there (vertex_at d i) (lead_known (vertex_at d i) e) in ap may_lead (kept_vertex d x i w.0 w.1) ∙ e

-- ---- what edges lead to

abbrev NamesTarget : List ElementValue → Option (SingleLabel × Pair) → Type 0
NamesTarget d (Some s) = is_target s.0 (vertex_at d s.1.1) ≡ true
NamesTarget d None = Unit {0}

names_target : (d : List ElementValue) (x : ElementValue) → may_not_join d x ≡ false → NamesTarget d (single_of x)
names_target d (edge i (next a b)) free = target_fits d (next a b) (Asked, ResultSet) b refl free
names_target d (edge i (request_edge kind a b)) free = target_fits d (request_edge kind a b) (Asked, result_kind kind) b refl free
names_target d (edge i (package_edge a b)) free = target_fits d (package_edge a b) (Moniker, Package) b refl free
names_target d (edge i (moniker_edge a b)) free = tt
names_target d (edge i (attach a b)) free = tt
names_target d (edge i (contains a bs)) free = tt
names_target d (edge i (item e)) free = tt
names_target d (edge i (other_edge a bs)) free = tt
names_target d (vertex i v) free = tt

still_names : (d : List ElementValue) (x : ElementValue) (o : Option (SingleLabel × Pair)) → NamesTarget d o → NamesTarget (d ++ x ∷ []) o
still_names d x (Some s) h = still_target d x s.0 s.1.1 h
still_names d x None h = tt

abbrev AllNameTargets : List ElementValue → Type 0
AllNameTargets d = (x : ElementValue) → Contains d x → NamesTarget d (single_of x)

names_more : (d : List ElementValue) (x : ElementValue) → HasNoCode d x → AllNameTargets d → AllNameTargets (d ++ x ∷ [])
names_more d x free all y at = still_names d x (single_of y) (⊎_elim
    (λ (h : Contains d y). all y h)
    (λ (e : x ≡ y). subst (λ z. NamesTarget d (single_of z)) e (names_target d x free.joins))
    (Contains-push_cases d x y at))

all_name_targets : (d : List ElementValue) → IsSound d → AllNameTargets d
all_name_targets = holds AllNameTargets (λ x at. absurd (not_in_nil x at)) names_more

-- ---- the results that `item` edges join to others

lead_fits : (d : List ElementValue) (e : ItemValue) → e.property ≡ Some ReferenceResults → list_any (fits_row d (item e)) (item_rows e.property) ≡ true → may_lead (vertex_at d e.source) ≡ true
lead_fits d e is fits =
    let of_reference = fits_row d (item e) (Result requests.References, Result requests.References) in
    let of_other = fits_row d (item e) (Other, Any) in
    let rows : (of_reference || (of_other || false)) ≡ true = subst (λ o. list_any (fits_row d (item e)) (item_rows o) ≡ true) is fits in
    let v = vertex_at d e.source in
    ⊎_elim
    (λ (reference : of_reference ≡ true). or_left (is_of_kind (Result requests.References) v) (is_of_kind Other v) (and_both (is_of_kind (Result requests.References) v) _ reference).0)
    (λ (other : (of_other || false) ≡ true). or_right (is_of_kind (Result requests.References) v) (is_of_kind Other v) (and_both (is_of_kind Other v) _ (sym (or_false of_other) ∙ other)).0)
    (or_some of_reference (of_other || false) rows)

abbrev AllMayLead : List ElementValue → Type 0
AllMayLead d = (i : IdValue) (e : ItemValue) → Contains d (edge i (item e)) → e.property ≡ Some ReferenceResults → may_lead (vertex_at d e.source) ≡ true

may_lead_more : (d : List ElementValue) (x : ElementValue) → HasNoCode d x → AllMayLead d → AllMayLead (d ++ x ∷ [])
may_lead_more d x free all i e at is = still_leads d x e.source (⊎_elim
    (λ (h : Contains d (edge i (item e))). all i e h is)
    (λ (s : x ≡ edge i (item e)). lead_fits d e is (not_false _ (subst (λ z. may_not_join d z ≡ false) s free.joins)))
    (Contains-push_cases d x (edge i (item e)) at))

all_may_lead : (d : List ElementValue) → IsSound d → AllMayLead d
all_may_lead = holds AllMayLead (λ i e at. absurd (not_in_nil (edge i (item e)) at)) may_lead_more

-- ---- members of lists of pairs

member_of : (f : ElementValue → List Pair) (d : List ElementValue) (p : Pair) → Contains (flat_map f d) p → (x : ElementValue) × Contains d x × Contains (f x) p
member_of f [] p at = absurd (not_in_nil p at)
member_of f (x ∷ d) p at = ⊎_elim
    (λ (h : Contains (f x) p). (x, contains_head x d, h))
    (λ (t : Contains (flat_map f d) p). let r = member_of f d p t in (r.0, contains_tail x d r.0 r.1, r.2))
    (Contains-append_cases (f x) (flat_map f d) p at)

source_is : (a : IdValue) (is : List IdValue) (p : Pair) → Contains (map (λ to. (a, to)) is) p → a ≡ p.0
source_is a [] p at = absurd (not_in_nil p at)
source_is a (i ∷ is) p at = ⊎_elim (λ (e : (a, i) ≡ p). ap (λ (q : Pair). q.0) e) (λ (t : Contains (map (λ to. (a, to)) is) p). source_is a is p t) (contains_cases (a, i) (map (λ to. (a, to)) is) p at)

joins_results : (e : ItemValue) (o : Option Property) (p : Pair) → Contains (joined_results e o) p → (o ≡ Some ReferenceResults) × (e.source ≡ p.0)
joins_results e (Some ReferenceResults) p at = (refl, source_is e.source e.targets p at)
joins_results e (Some Definitions) p at = absurd (not_in_nil p at)
joins_results e (Some References) p at = absurd (not_in_nil p at)
joins_results e None p at = absurd (not_in_nil p at)

-- what leaves a pair may lead
leads_here : (d : List ElementValue) → AllMayLead d → (x : ElementValue) (p : Pair) → Contains d x → Contains (result_pairs_of x) p → may_lead (vertex_at d p.0) ≡ true
leads_here d all (edge i (item e)) p here at = let j = joins_results e e.property p at in subst (λ s. may_lead (vertex_at d s) ≡ true) j.1 (all i e here j.0)
leads_here d all (edge i (contains a bs)) p here at = absurd (not_in_nil p at)
leads_here d all (edge i (next a b)) p here at = absurd (not_in_nil p at)
leads_here d all (edge i (request_edge kind a b)) p here at = absurd (not_in_nil p at)
leads_here d all (edge i (moniker_edge a b)) p here at = absurd (not_in_nil p at)
leads_here d all (edge i (package_edge a b)) p here at = absurd (not_in_nil p at)
leads_here d all (edge i (attach a b)) p here at = absurd (not_in_nil p at)
leads_here d all (edge i (other_edge a bs)) p here at = absurd (not_in_nil p at)
leads_here d all (vertex i v) p here at = absurd (not_in_nil p at)

-- ---- the first result

bound_by : (pairs : List Pair) (x r : IdValue) (later : Option IdValue) → (later ≡ Some r → (y : IdValue) × (first_to pairs y ≡ Some r)) → (o : Option IdValue) → first_to pairs x ≡ o
    → (elim o as (λ _. Option IdValue) [ Some s ↦ Some s | None ↦ later ]) ≡ Some r → (y : IdValue) × (first_to pairs y ≡ Some r)
bound_by pairs x r later rest None is e = rest e
bound_by pairs x r later rest (Some s) is e = (x, is ∙ e)

bound_of : (pairs : List Pair) (xs : List IdValue) (r : IdValue) → first_of_list pairs xs ≡ Some r → (y : IdValue) × (first_to pairs y ≡ Some r)
bound_of pairs [] r e = cc
bound_of pairs (x ∷ xs) r e = bound_by pairs x r (first_of_list pairs xs) (bound_of pairs xs r) (first_to pairs x) refl e

one_label : (a b : SingleLabel) → same_label a b ≡ true → a ≡ b
one_label Next Next e = refl
one_label Next PackageInformation e = cc
one_label Next (Request k) e = cc
one_label PackageInformation Next e = cc
one_label PackageInformation PackageInformation e = refl
one_label PackageInformation (Request k) e = cc
one_label (Request k) Next e = cc
one_label (Request k) PackageInformation e = cc
one_label (Request j) (Request k) e = ap Request (one_kind j k e)

-- an edge of a label leads to what it may lead to
target_by : (d : List ElementValue) (label : SingleLabel) (o : Option (SingleLabel × Pair)) (p : Pair) → NamesTarget d o
    → Contains (elim o as (λ _. List Pair) [ Some e ↦ if same_label e.0 label then e.1 ∷ [] else [] | None ↦ [] ]) p → is_target label (vertex_at d p.1) ≡ true
target_by d label None p h at = absurd (not_in_nil p at)
target_by d label (Some s) p h at = by (same_label s.0 label) refl at
  where
    by : (b : Bool) → same_label s.0 label ≡ b → Contains (if b then s.1 ∷ [] else []) p → is_target label (vertex_at d p.1) ≡ true
    by false e at = absurd (not_in_nil p at)
    by true e at =
        let named : is_target label (vertex_at d s.1.1) ≡ true = subst (λ l. is_target l (vertex_at d s.1.1) ≡ true) (one_label s.0 label e) h in
        ⊎_elim (λ (q : s.1 ≡ p). subst (λ (r : Pair). is_target label (vertex_at d r.1) ≡ true) q named) (λ (n : Contains [] p). absurd (not_in_nil p n)) (contains_cases s.1 [] p at)

-- a request's first result is one of its kind
pub first_target : (d : List ElementValue) → IsSound d → (q : RequestKind) (x result : IdValue) → First q d x (Some result) → is_target (Request q) (vertex_at d result) ≡ true
first_target d h q x result first =
    let bound = bound_of (single_pairs (Request q) d) first.0 result (sym first.2) in
    let at = member_of (single_in (Request q)) d (bound.0, result) (pair_of_first (single_pairs (Request q) d) bound.0 result bound.1) in
    target_by d (Request q) (single_of at.0) (bound.0, result) (all_name_targets d h at.0 at.1) at.2

contents_in : (v : Option VertexValue) → is_of_kind HoverResult v ≡ true → (contents : List ℕ) × (v ≡ Some (hover_result contents))
contents_in None e = cc
contents_in (Some (meta_data b)) e = cc
contents_in (Some project) e = cc
contents_in (Some (document s)) e = cc
contents_in (Some (range s)) e = cc
contents_in (Some result_set) e = cc
contents_in (Some (request_result kind)) e = cc
contents_in (Some (hover_result s)) e = (s, refl)
contents_in (Some (moniker m)) e = cc
contents_in (Some (package_information p)) e = cc
contents_in (Some (event v)) e = cc
contents_in (Some other_vertex) e = cc

pub first_contents : (d : List ElementValue) → IsSound d → (x result : IdValue) → First requests.Hover d x (Some result) → (contents : List ℕ) × (vertex_at d result ≡ Some (hover_result contents))
first_contents d h x result first = contents_in (vertex_at d result) (first_target d h requests.Hover x result first)

other_kind : (q : RequestKind) → (q ≡ requests.References → ⊥) → not (asks_for_uses q) ≡ true
other_kind q other = by (same_kind q requests.References) refl
  where
    by : (b : Bool) → same_kind q requests.References ≡ b → not b ≡ true
    by true e = absurd (other (one_kind q requests.References e))
    by false e = refl

of_result : (q : RequestKind) (v : Option VertexValue) → not (asks_for_uses q) ≡ true → is_of_kind (Result q) v ≡ true → is_of_kind OneRole v ≡ true
of_result q None one e = cc
of_result q (Some (meta_data b)) one e = cc
of_result q (Some project) one e = cc
of_result q (Some (document s)) one e = cc
of_result q (Some (range s)) one e = cc
of_result q (Some result_set) one e = cc
of_result q (Some (request_result kind)) one e = subst (λ k. not (asks_for_uses k) ≡ true) (one_kind q kind e) one
of_result q (Some (hover_result s)) one e = cc
of_result q (Some (moniker m)) one e = cc
of_result q (Some (package_information p)) one e = cc
of_result q (Some (event v)) one e = cc
of_result q (Some other_vertex) one e = cc

-- the first result of a request that is answered by places is one of a kind
pub result_in : (q : RequestKind) (v : Option VertexValue) → (q ≡ requests.Hover → ⊥) → is_target (Request q) v ≡ true → (kind : RequestKind) × (v ≡ Some (request_result kind))
result_in q v other = by (same_kind q requests.Hover) refl
  where
    of_kind : (v : Option VertexValue) → is_of_kind (Result q) v ≡ true → (kind : RequestKind) × (v ≡ Some (request_result kind))
    of_kind None e = cc
    of_kind (Some (meta_data b)) e = cc
    of_kind (Some project) e = cc
    of_kind (Some (document s)) e = cc
    of_kind (Some (range s)) e = cc
    of_kind (Some result_set) e = cc
    of_kind (Some (request_result kind)) e = (kind, refl)
    of_kind (Some (hover_result s)) e = cc
    of_kind (Some (moniker m)) e = cc
    of_kind (Some (package_information p)) e = cc
    of_kind (Some (event w)) e = cc
    of_kind (Some other_vertex) e = cc

    by : (b : Bool) → same_kind q requests.Hover ≡ b → is_of_kind (if not b then Result q else HoverResult) v ≡ true → (kind : RequestKind) × (v ≡ Some (request_result kind))
    by true e is = absurd (other (one_kind q requests.Hover e))
    by false e is = of_kind v is

own_label : (q : RequestKind) (v : Option VertexValue) → (q ≡ requests.References → ⊥) → is_target (Request q) v ≡ true → is_own_result v ≡ true
own_label q v other = by (gives_places q)
  where
    by : (b : Bool) → is_of_kind (if b then Result q else HoverResult) v ≡ true → is_own_result v ≡ true
    by false e = or_right (is_of_kind OneRole v) (is_of_kind HoverResult v) e
    by true e = or_left (is_of_kind OneRole v) (is_of_kind HoverResult v) (of_result q v (other_kind q other) e)

module _ (d : List ElementValue) (h : IsSound d) (q : RequestKind) (other : q ≡ requests.References → ⊥) (x result : IdValue) (first : First q d x (Some result)) where
  is_own_here : is_own_result (vertex_at d result) ≡ true
  is_own_here = own_label q (vertex_at d result) other (first_target d h q x result first)

  no_pair : (z : IdValue) → Contains (result_pairs d) (result, z) → ⊥
  no_pair z at =
      let m = member_of result_pairs_of d (result, z) at in
      apart (vertex_at d result) is_own_here (leads_here d (all_may_lead d h) m.0 (result, z) m.1 m.2)

  only_here : (y : IdValue) → Path (result_pairs d) result y → y ≡ result
  only_here y stays = refl
  only_here y (goes {y = w} z path at) = absurd (no_pair z (subst (λ v. Contains (result_pairs d) (v, z)) (only_here w path) at))

  pub own_places : (in_roles : List Role) (place : PlaceValue) → Places in_roles d result place ↔ IsItemPlace in_roles d result place
  own_places in_roles place = (to, back)
    where
      to : Places in_roles d result place → IsItemPlace in_roles d result place
      to (y, path, there) = subst (λ v. IsItemPlace in_roles d v place) (only_here y path) there

      back : IsItemPlace in_roles d result place → Places in_roles d result place
      back there = (result, stays, there)
