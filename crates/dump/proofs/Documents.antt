-- The document of a serialized URL.
use Rattle.std.proofs.Common.{◌≡◌, ℕ, true, List, find, refl, sym, ap, subst}
use Rattle.std.specs.Prelude.{Contains, Option, Some, None, IfSome, IfNone, option_map}
use Rattle.std.proofs.lemmas.Slice.Eq.{bytes_eq-Decides}
use Rattle.lsif.specs.Element.{IdValue, meta_data, project, document, range, result_set, request_result, hover_result, moniker, package_information, event, other_vertex, ElementValue, vertex, edge, element_id}
use Rattle.dump.specs.Conditions.{is_document_of}
use Rattle.dump.specs.Graph.{vertex_at}
use Rattle.dump.specs.Places.{HasDocument}
use Rattle.dump.specs.Progress.{IsSound}
use Rattle.dump.specs.Steps.Tables.{document_id}
use Rattle.streams.proofs.Members.{found_member, member_found}
use Rattle.dump.proofs.Uniques.{vertex_is, one_document}

pub document_is : (uri : List ℕ) (x : ElementValue) → is_document_of uri x ≡ true → x ≡ vertex (element_id x) (document uri)
document_is uri (vertex i (document s)) e = ap (λ t. vertex i (document t)) ((bytes_eq-Decides s uri).0 e)
document_is uri (vertex i (meta_data b)) e = cc
document_is uri (vertex i project) e = cc
document_is uri (vertex i (range s)) e = cc
document_is uri (vertex i result_set) e = cc
document_is uri (vertex i (request_result kind)) e = cc
document_is uri (vertex i (hover_result s)) e = cc
document_is uri (vertex i (moniker m)) e = cc
document_is uri (vertex i (package_information p)) e = cc
document_is uri (vertex i (event v)) e = cc
document_is uri (vertex i other_vertex) e = cc
document_is uri (edge i v) e = cc

there_by : (d : List ElementValue) (uri : List ℕ) (i : IdValue) (o : Option ElementValue) → find (is_document_of uri) d ≡ o → option_map element_id o ≡ Some i → Contains d (vertex i (document uri))
there_by d uri i None is e = cc
there_by d uri i (Some x) is e =
    let found = found_member (is_document_of uri) d x is in
    let same : element_id x ≡ i = cc in
    subst (λ j. Contains d (vertex j (document uri))) same (subst (Contains d) (document_is uri x found.1) found.0)

none_by : (o : Option ElementValue) (x : ElementValue) → o ≡ Some x → option_map element_id o ≡ None → ⊥
none_by None x is e = cc
none_by (Some y) x is e = cc

no_document : (d : List ElementValue) (uri : List ℕ) (i : IdValue) → document_id d uri ≡ None → Contains d (vertex i (document uri)) → ⊥
no_document d uri i e at =
    let found = member_found (is_document_of uri) d (vertex i (document uri)) at ((bytes_eq-Decides uri uri).1 refl) in
    none_by (find (is_document_of uri) d) found.0 found.1 e

-- in a sound dump the document that is found is the one of this serialized URL
module _ {X : Type 0} (f : X → IdValue) (d : List ElementValue) (sound : IsSound d) (uri : List ℕ) where
  pub finds : (o : Option X) → option_map f o ≡ document_id d uri → IfSome o (λ x. vertex_at d (f x) ≡ Some (document uri))
  finds None e = tt
  finds (Some x) e = (vertex_is d sound (f x) (document uri)).1 (there_by d uri (f x) (find (is_document_of uri) d) refl (sym e))

  pub finds_only : (o : Option X) → option_map f o ≡ document_id d uri → IfSome o (λ x. (other : IdValue) → vertex_at d other ≡ Some (document uri) → other ≡ f x)
  finds_only None e = tt
  finds_only (Some x) e = λ other at. one_document d sound other (f x) uri at (finds (Some x) e)

  pub finds_none : (o : Option X) → option_map f o ≡ document_id d uri → IfNone o (HasDocument d uri → ⊥)
  finds_none None e = λ h. no_document d uri h.0 (sym e) ((vertex_is d sound h.0 (document uri)).0 h.1)
  finds_none (Some x) e = tt
