-- What the tables are after an element more.
use Rattle.std.proofs.Common.{◌≡◌, ◌∙◌, ◌&&◌, ◌||◌, ◌++◌, ◌∷◌, [], ◌+◌, ℕ, Bool, true, false, cond, not, List, length, length-append, get_or, replicate, zero, suc, find, refl, sym, ap, subst, arith, Option, Some, None, option_and_then, is_some, if◌then◌else◌}
use Rattle.std.specs.Prelude.{slice_get}
use Rattle.std.specs.List.{list_any, list_all, position}
use Rattle.std.proofs.lemmas.List.{get_or_append_left}
use Rattle.std.proofs.Math.Seq.{get_or-append_seam}
use Rattle.std.proofs.lemmas.Option.{slice_get_within}
use Rattle.lsif.specs.Element.{IdValue, same_id, VertexValue, meta_data, project, document, range, result_set, request_result, hover_result, moniker, package_information, event, other_vertex, begin_event, end_event, other_event, contains, next, request_edge, moniker_edge, package_edge, attach, item, other_edge, ElementValue, vertex, edge, element_id}
use Rattle.dump.specs.declared.links.Link.{Link}
use Rattle.dump.specs.declared.index_map.IndexMap.{IndexMap}
use Rattle.dump.specs.Conditions.{are_vertices}
use Rattle.dump.specs.Ended.{has_begun, has_ended}
use Rattle.dump.specs.Graph.{element_at, vertex_of, vertex_at, ends}
use Rattle.dump.specs.Kinds.{is_document}
use Rattle.dump.specs.Steps.Ids.{index_at, IsTable, entered, HasRows}
use Rattle.dump.specs.Steps.Tables.{has_id}
use Rattle.dump.specs.Steps.Links.{link_index, links, cell, link_at, is_link, named_by, is_named}
use Rattle.streams.proofs.Bools.{and_both, not_false, or_none}
use Rattle.streams.proofs.Members.{found_member}
use Rattle.dump.proofs.SameIds.{same_id_eq}
use Rattle.dump.proofs.Ends.{HasNoCode}
use Rattle.dump.proofs.TablesAfter.{position_same, table_enters, named_test, same_link_after}
use Rattle.dump.proofs.Known.{AreEndsKnown}
use Rattle.dump.proofs.Cells.{nothing}
use Rattle.dump.proofs.FirstIndices.{position-item, position-any}

-- ---- the indices of ids

pub find_any : {X : Type 0} (p : X → Bool) (xs : List X) → is_some (find p xs) ≡ list_any p xs
find_any p [] = refl
find_any p (x ∷ xs) = by (find_any p xs) (p x)
  where
    by : is_some (find p xs) ≡ list_any p xs → (b : Bool) → is_some (cond b (Some x) (find p xs)) ≡ (b || list_any p xs)
    by rest true = refl
    by rest false = rest

pub found_index : (d : List ElementValue) (i : IdValue) (k : ℕ) → position (has_id i) d ≡ Some k → (y : ElementValue) × (slice_get d k ≡ Some y) × (element_id y ≡ i)
found_index d i k is = by (find (has_id i) d) refl (sym (ap (option_and_then (slice_get d)) is) ∙ position-item (has_id i) d)
  where
    there : is_some (find (has_id i) d) ≡ true
    there = find_any (has_id i) d ∙ sym (position-any (has_id i) d) ∙ ap is_some is

    by : (o : Option ElementValue) → find (has_id i) d ≡ o → slice_get d k ≡ o → (y : ElementValue) × (slice_get d k ≡ Some y) × (element_id y ≡ i)
    by None e at = let h : false ≡ true = sym (ap is_some e) ∙ there in cc
    by (Some y) e at = (y, at, same_id_eq (element_id y) i (found_member (has_id i) d y e).1)

-- each id's index is that of its element
pub has_rows : (table : IndexMap) (d : List ElementValue) (n : ℕ) → length d ≡ n → IsTable (index_at table) has_id d → HasRows table n
has_rows table d n long is = record {
  below = λ i k e. let f = found_index d i k (sym (is i) ∙ e) in omega (arith, slice_get_within d k f.0 f.1, long);
  apart = λ i j k e g.
      let f = found_index d i k (sym (is i) ∙ e) in
      let h = found_index d j k (sym (is j) ∙ g) in
      let same : ◌≡◌ {A = Option ElementValue} (Some f.0) (Some h.0) = sym f.1 ∙ h.1 in
      let one : f.0 ≡ h.0 = cc in
      sym f.2 ∙ ap element_id one ∙ h.2;
}

pub fresh_index : (table : IndexMap) (d : List ElementValue) (x : ElementValue) → HasNoCode d x → IsTable (index_at table) has_id d → index_at table (element_id x) ≡ None
unfolding element_at
fresh_index table d x free is =
    nothing (index_at table (element_id x)) (ap is_some (is (element_id x)) ∙ position-any (has_id (element_id x)) d ∙ sym (find_any (has_id (element_id x)) d) ∙ free.fresh)

-- a vertex has an index
pub vertex_index : (d : List ElementValue) (i : IdValue) → is_some (vertex_at d i) ≡ true → is_some (position (has_id i) d) ≡ true
unfolding element_at
vertex_index d i e = position-any (has_id i) d ∙ sym (find_any (has_id i) d) ∙ by (element_at d i) refl
  where
    by : (o : Option ElementValue) → element_at d i ≡ o → is_some (element_at d i) ≡ true
    by None none = let h : false ≡ true = sym (ap (λ o. is_some (option_and_then vertex_of o)) none) ∙ e in cc
    by (Some y) is = ap is_some is

pub vertices_have_indices : (table : IndexMap) (d : List ElementValue) → IsTable (index_at table) has_id d → (is : List IdValue) → are_vertices d is ≡ true → list_all (λ i. is_some (index_at table i)) is ≡ true
vertices_have_indices table d at [] e = refl
vertices_have_indices table d at (i ∷ is) e =
    let both = and_both (is_some (vertex_at d i)) (are_vertices d is) e in
    let here : is_some (index_at table i) ≡ true = ap is_some (at i) ∙ vertex_index d i both.0 in
    ap (λ b. b && list_all (λ j. is_some (index_at table j)) is) here ∙ vertices_have_indices table d at is both.1

-- ---- the vertices that an element names

only_source : (d : List ElementValue) (from : IdValue) (to : List IdValue) → are_vertices d (from ∷ to) ≡ true → are_vertices d (from ∷ []) ≡ true
only_source d from to e = ap (λ b. b && true) (and_both (is_some (vertex_at d from)) (are_vertices d to) e).0

document_is : (d : List ElementValue) (v : IdValue) → is_document (vertex_at d v) ≡ true → are_vertices d (v ∷ []) ≡ true
document_is d v e = ap (λ b. b && true) (by (vertex_at d v) e)
  where
    by : (o : Option VertexValue) → is_document o ≡ true → is_some o ≡ true
    by None h = cc
    by (Some w) h = refl

named_targets : (d : List ElementValue) (b : Bool) (to : List IdValue) → are_vertices d to ≡ true → are_vertices d (if b then to else []) ≡ true
named_targets d true to e = e
named_targets d false to e = refl

-- where the element names vertices, they are vertices
abbrev NamesVertices : List ElementValue → Option (Link × List IdValue) → Type 0
NamesVertices d o = elim o as (λ _. Type 0) [ Some n ↦ are_vertices d n.1 ≡ true | None ↦ Unit {0} ]

pub named_known : (d : List ElementValue) (x : ElementValue) → HasNoCode d x → NamesVertices d (named_by d x)
named_known d (edge i (contains a bs)) free = named_targets d (is_document (vertex_at d a)) bs (and_both (is_some (vertex_at d a)) (are_vertices d bs) (not_false (are_vertices d (a ∷ bs)) free.ends)).1
named_known d (edge i (next a b)) free = only_source d a (b ∷ []) (not_false (are_vertices d (a ∷ b ∷ [])) free.ends)
named_known d (edge i (request_edge kind a b)) free = only_source d a (b ∷ []) (not_false (are_vertices d (a ∷ b ∷ [])) free.ends)
named_known d (edge i (package_edge a b)) free = only_source d a (b ∷ []) (not_false (are_vertices d (a ∷ b ∷ [])) free.ends)
named_known d (edge i (moniker_edge a b)) free = tt
named_known d (edge i (attach a b)) free = tt
named_known d (edge i (item a)) free = tt
named_known d (edge i (other_edge a bs)) free = tt
named_known d (vertex i (event (begin_event v))) free = document_is d v (not_false (is_document (vertex_at d v)) (or_none (not (is_document (vertex_at d v))) (has_begun d v) free.event).0)
named_known d (vertex i (event (end_event v))) free =
    let first = or_none (not (is_document (vertex_at d v)) || has_ended d v) (not (has_begun d v)) free.event in
    document_is d v (not_false (is_document (vertex_at d v)) (or_none (not (is_document (vertex_at d v))) (has_ended d v) first.0).0)
named_known d (vertex i (event other_event)) free = tt
named_known d (vertex i (meta_data b)) free = tt
named_known d (vertex i project) free = tt
named_known d (vertex i (document s)) free = tt
named_known d (vertex i (range s)) free = tt
named_known d (vertex i result_set) free = tt
named_known d (vertex i (request_result kind)) free = tt
named_known d (vertex i (hover_result s)) free = tt
named_known d (vertex i (moniker m)) free = tt
named_known d (vertex i (package_information p)) free = tt
named_known d (vertex i other_vertex) free = tt

pub named_some : (d : List ElementValue) (o : Option (Link × List IdValue)) (n : Link × List IdValue) → NamesVertices d o → o ≡ Some n → are_vertices d n.1 ≡ true
named_some d o n h e = subst (NamesVertices d) e h

-- ---- rows

-- a row more, that has no index, for an id that had none
module _ (old new : IndexMap) (rows : List (List (Option ℕ))) (blank : List (Option ℕ)) (x : IdValue) (n : ℕ) (long : length rows ≡ n) (no : (l : Link) → get_or blank (link_index l) None ≡ None)
    (has : HasRows old n) (entered_there : (i : IdValue) → index_at new i ≡ entered (same_id x i) n (index_at old i)) where
  pub row_more : (l : Link) (i : IdValue) → link_at new (rows ++ blank ∷ []) l i ≡ link_at old rows l i
  row_more l i = ap (option_and_then (λ k. cell (rows ++ blank ∷ []) k l)) (entered_there i) ∙ by (same_id x i) (index_at old i) refl
    where
      by : (b : Bool) (o : Option ℕ) → index_at old i ≡ o → option_and_then (λ k. cell (rows ++ blank ∷ []) k l) (entered b n o) ≡ option_and_then (λ k. cell rows k l) o
      by true None none =
          ap (λ (k : ℕ). get_or (get_or (rows ++ blank ∷ []) k []) (link_index l) None) (sym long)
          ∙ ap (λ (row : List (Option ℕ)). get_or row (link_index l) None) (get_or-append_seam rows blank [] []) ∙ no l
      by false None none = refl
      by b (Some k) is = ap (λ (row : List (Option ℕ)). get_or row (link_index l) None) (get_or_append_left rows (blank ∷ []) [] k (omega (arith, has.below i k is, long)))

-- the rows after an element more
pub links_after : (d : List ElementValue) (x : ElementValue) → HasNoCode d x → AreEndsKnown d → (l : Link) (n : ℕ) → n ≡ length d → (old new : IdValue → Option ℕ)
    → ((i : IdValue) → new i ≡ entered (is_named (named_by d x) l i) n (old i)) → IsTable old (is_link d l) d → IsTable new (is_link (d ++ x ∷ []) l) (d ++ x ∷ [])
links_after d x free known l n long old new enters is =
    table_enters old new (is_link d l) (is_link (d ++ x ∷ []) l) d x n (λ i. is_named (named_by d x) l i) long enters
    (λ i. same_link_after d x x (not_false (are_vertices d (ends x)) free.ends) l i ∙ named_test d x l i)
    (λ i. position_same (is_link (d ++ x ∷ []) l i) (is_link d l i) d (λ y at. same_link_after d x y (known y at) l i)) is

-- a row of no index
abbrev pub blank : List (Option ℕ)
blank = replicate links None

none_there : (m n : ℕ) → ◌≡◌ {A = Option ℕ} (get_or (replicate m None) n None) None
none_there zero n = refl
none_there (suc m) zero = refl
none_there (suc m) (suc n) = none_there m n

pub blank_row : (n : ℕ) → ◌≡◌ {A = Option ℕ} (get_or blank n None) None
blank_row n = none_there links n

pub rows_length : (rows now : List (List (Option ℕ))) (d : List ElementValue) (x : ElementValue) → now ≡ rows ++ blank ∷ [] → length rows ≡ length d → length now ≡ length (d ++ x ∷ [])
rows_length rows now d x is same = ap length is ∙ length-append rows (blank ∷ []) ∙ ap (λ k. k + 1) same ∙ sym (length-append d (x ∷ []))
