-- The documents and the hover results of a dump.
use Rattle.std.proofs.Common.{◌≡◌, ◌⊎◌, inl, inr, ◌∙◌, List, [], ◌∷◌, ◌++◌, map, refl, sym, ap, subst}
use Rattle.std.specs.Prelude.{◌↔◌, ℕ, Contains, Option, Some, None, Ok}
use Rattle.std.specs.List.{flat_map}
use Rattle.std.specs.List.Sorted.{IsStrictlySortedBy}
use Rattle.std.specs.Ordering.{nat_cmp}
use Rattle.std.proofs.lemmas.List.{map-append}
use Rattle.lsif.specs.Element.{IdValue, VertexValue, meta_data, project, document, range, result_set, request_result, hover_result, moniker, package_information, event, other_vertex, ElementValue, vertex, edge}
use Rattle.dump.specs.Fault.{IsFaultless}
use Rattle.dump.specs.Graph.{vertex_at}
use Rattle.dump.specs.Places.{HasDocument, IsListing}
use Rattle.flatten.specs.Flat.{HoverRowValue, IsHoverRow, by_result, number_of}
use Rattle.flatten.specs.Steps.Documents.{documents_in, hover_with, hovers_in}
use Rattle.streams.proofs.Members.{contains_head, contains_one, flat_of, flat_from, not_in_nil, one_contains}
use Rattle.flatten.proofs.Listing.{rises_unmap}
use Rattle.flatten.proofs.Rising.{SaysNumber, rises}

map_flat : {X Y Z : Type 0} (f : Y → Z) (g : X → List Y) (xs : List X) → map f (flat_map g xs) ≡ flat_map (λ x. map f (g x)) xs
map_flat f g [] = refl
map_flat f g (x ∷ xs) = map-append f (g x) (flat_map g xs) ∙ ap (λ l. map f (g x) ++ l) (map_flat f g xs)

module _ (d : List ElementValue) (vertices : (i : IdValue) (v : VertexValue) → vertex_at d i ≡ Some v ↔ Contains d (vertex i v)) where
  document_in : (x : ElementValue) (uri : List ℕ) → Contains d x → Contains (documents_in x) uri → HasDocument d uri
  document_in (vertex i (document u)) uri here at = subst (HasDocument d) (contains_one u uri at) (i, (vertices i (document u)).1 here)
  document_in (vertex i (meta_data b)) uri here at = absurd (not_in_nil uri at)
  document_in (vertex i project) uri here at = absurd (not_in_nil uri at)
  document_in (vertex i (range s)) uri here at = absurd (not_in_nil uri at)
  document_in (vertex i result_set) uri here at = absurd (not_in_nil uri at)
  document_in (vertex i (request_result kind)) uri here at = absurd (not_in_nil uri at)
  document_in (vertex i (hover_result t)) uri here at = absurd (not_in_nil uri at)
  document_in (vertex i (moniker m)) uri here at = absurd (not_in_nil uri at)
  document_in (vertex i (package_information p)) uri here at = absurd (not_in_nil uri at)
  document_in (vertex i (event v)) uri here at = absurd (not_in_nil uri at)
  document_in (vertex i other_vertex) uri here at = absurd (not_in_nil uri at)
  document_in (edge i e) uri here at = absurd (not_in_nil uri at)

  pub documents_are : (uri : List ℕ) → Contains (flat_map documents_in d) uri ↔ HasDocument d uri
  documents_are uri = (
    λ at. let f = flat_of documents_in d uri at in document_in f.0 uri f.1 f.2,
    λ h. flat_from documents_in d (vertex h.0 (document uri)) uri ((vertices h.0 (document uri)).0 h.1) (contains_head uri []),
  )

  -- ---- hover results

  hover_by : (i : IdValue) (contents : List ℕ) (o : Option ℕ) (r : HoverRowValue) → number_of d i ≡ o → Contains d (vertex i (hover_result contents)) → Contains (hover_with contents o) r → IsHoverRow d r
  hover_by i contents None r e here at = absurd (not_in_nil r at)
  hover_by i contents (Some n) r e here at =
      let this : HoverRowValue = record { result = n; contents = contents } in
      subst (IsHoverRow d) (contains_one this r at) (record { result = i; at_line = e; is_hover = (vertices i (hover_result contents)).1 here })

  hover_in : (x : ElementValue) (r : HoverRowValue) → Contains d x → Contains (hovers_in d x) r → IsHoverRow d r
  hover_in (vertex i (hover_result t)) r here at = hover_by i t (number_of d i) r refl here at
  hover_in (vertex i (meta_data b)) r here at = absurd (not_in_nil r at)
  hover_in (vertex i project) r here at = absurd (not_in_nil r at)
  hover_in (vertex i (document u)) r here at = absurd (not_in_nil r at)
  hover_in (vertex i (range s)) r here at = absurd (not_in_nil r at)
  hover_in (vertex i result_set) r here at = absurd (not_in_nil r at)
  hover_in (vertex i (request_result kind)) r here at = absurd (not_in_nil r at)
  hover_in (vertex i (moniker m)) r here at = absurd (not_in_nil r at)
  hover_in (vertex i (package_information p)) r here at = absurd (not_in_nil r at)
  hover_in (vertex i (event v)) r here at = absurd (not_in_nil r at)
  hover_in (vertex i other_vertex) r here at = absurd (not_in_nil r at)
  hover_in (edge i e) r here at = absurd (not_in_nil r at)

  hover_from : (r : HoverRowValue) → IsHoverRow d r → Contains (flat_map (hovers_in d) d) r
  hover_from r h =
      flat_from (hovers_in d) d (vertex h.result (hover_result r.contents)) r ((vertices h.result (hover_result r.contents)).0 h.is_hover)
      (subst (λ o. Contains (hover_with r.contents o) r) (sym h.at_line) (one_contains r r refl))

  abbrev results_in : ElementValue → List ℕ
  results_in x = map (λ (r : HoverRowValue). r.result) (hovers_in d x)

  hover_says : (i : IdValue) (contents : List ℕ) (o : Option ℕ) → number_of d i ≡ o → (map (λ (r : HoverRowValue). r.result) (hover_with contents o) ≡ []) ⊎ ((n : ℕ) × (number_of d i ≡ Some n) × (map (λ (r : HoverRowValue). r.result) (hover_with contents o) ≡ n ∷ []))
  hover_says i contents None e = inl refl
  hover_says i contents (Some n) e = inr (n, e, refl)

  says : SaysNumber d results_in
  says (vertex i (hover_result t)) = hover_says i t (number_of d i) refl
  says (vertex i (meta_data b)) = inl refl
  says (vertex i project) = inl refl
  says (vertex i (document u)) = inl refl
  says (vertex i (range s)) = inl refl
  says (vertex i result_set) = inl refl
  says (vertex i (request_result kind)) = inl refl
  says (vertex i (moniker m)) = inl refl
  says (vertex i (package_information p)) = inl refl
  says (vertex i (event v)) = inl refl
  says (vertex i other_vertex) = inl refl
  says (edge i e) = inl refl

  pub hover_listing : IsFaultless (map Ok d) → IsListing by_result (IsHoverRow d) (flat_map (hovers_in d) d)
  hover_listing free = record {
    rises = rises_unmap (λ (r : HoverRowValue). r.result) nat_cmp (flat_map (hovers_in d) d) (subst (IsStrictlySortedBy nat_cmp) (sym (map_flat (λ (r : HoverRowValue). r.result) (hovers_in d) d)) (rises d results_in free says));
    each = λ r. (λ at. let f = flat_of (hovers_in d) d r at in hover_in f.0 r f.1 f.2, hover_from r);
  }
