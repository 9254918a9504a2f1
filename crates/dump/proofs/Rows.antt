-- A row of the edge table asks for vertices: what it joins are earlier ones.
use Rattle.std.proofs.Common.{◌≡◌, ◌⊎◌, inl, inr, ⊎_elim, ◌∙◌, ◌&&◌, ◌||◌, ◌∷◌, [], Bool, true, false, List, refl, sym, subst, Option, Some, None, is_some, not}
use Rattle.std.specs.List.{list_all, list_any}
use Rattle.lsif.specs.Element.{IdValue, VertexValue, EdgeValue, contains, ends_of, ElementValue, edge}
use Rattle.dump.specs.declared.vertices.Kind.{Kind}
use Rattle.dump.specs.declared.vertices.Kind.TheVariants.{Any, Project, Document, Range, ResultSet, Result, OneRole, HoverResult, Moniker, Package, Other, Asked, Shard}
use Rattle.dump.specs.Conditions.{are_vertices, fits_row, may_not_join}
use Rattle.dump.specs.Graph.{vertex_at}
use Rattle.dump.specs.Kinds.{Row, is_of_kind, is_document, rows_of}
use Rattle.streams.proofs.Bools.{and_both, and_of, not_false, or_false, or_some}

-- ---- a vertex of a kind is a vertex

pub kind_known : (kind : Kind) (v : Option VertexValue) → is_of_kind kind v ≡ true → is_some v ≡ true
kind_known kind (Some v) e = refl
kind_known Any None e = e
kind_known Project None e = e
kind_known Document None e = e
kind_known Range None e = e
kind_known ResultSet None e = e
kind_known (Result kind) None e = e
kind_known OneRole None e = e
kind_known HoverResult None e = e
kind_known Moniker None e = e
kind_known Package None e = e
kind_known Other None e = e
kind_known Asked None e = e
kind_known Shard None e = e

each_known : (kind : Kind) (d : List ElementValue) (is : List IdValue) → list_all (λ i. is_of_kind kind (vertex_at d i)) is ≡ true → are_vertices d is ≡ true
each_known kind d [] e = refl
each_known kind d (i ∷ is) e =
    let both = and_both (is_of_kind kind (vertex_at d i)) (list_all (λ j. is_of_kind kind (vertex_at d j)) is) e in
    and_of (is_some (vertex_at d i)) (are_vertices d is) (kind_known kind (vertex_at d i) both.0) (each_known kind d is both.1)

-- ---- the ends of an edge that fits

row_known : (d : List ElementValue) (e : EdgeValue) (row : Row) → fits_row d e row ≡ true → are_vertices d ((ends_of e).0 ∷ (ends_of e).1) ≡ true
row_known d e row fits =
    let both = and_both (is_of_kind row.0 (vertex_at d (ends_of e).0)) (list_all (λ i. is_of_kind row.1 (vertex_at d i)) (ends_of e).1) fits in
    and_of (is_some (vertex_at d (ends_of e).0)) (are_vertices d (ends_of e).1) (kind_known row.0 (vertex_at d (ends_of e).0) both.0) (each_known row.1 d (ends_of e).1 both.1)

rows_known : (d : List ElementValue) (e : EdgeValue) (rows : List Row) → list_any (fits_row d e) rows ≡ true → are_vertices d ((ends_of e).0 ∷ (ends_of e).1) ≡ true
rows_known d e [] fits = cc
rows_known d e (row ∷ rows) fits = ⊎_elim (λ here. row_known d e row here) (λ later. rows_known d e rows later) (or_some (fits_row d e row) (list_any (fits_row d e) rows) fits)

-- a condition beside one that follows from it, each said twice
beside : (a e : Bool) → (e ≡ true → a ≡ true) → e ≡ (not (not a) && not (not e))
beside true true h = refl
beside true false h = refl
beside false true h = sym (h refl)
beside false false h = refl

pub any_row_fits : (d : List ElementValue) (e : EdgeValue)
    → list_any (fits_row d e) (rows_of e) ≡ (not (not (are_vertices d ((ends_of e).0 ∷ (ends_of e).1))) && not (not (list_any (fits_row d e) (rows_of e))))
any_row_fits d e = beside (are_vertices d ((ends_of e).0 ∷ (ends_of e).1)) (list_any (fits_row d e) (rows_of e)) (rows_known d e (rows_of e))

-- ---- edges of one label

-- the target of an edge with one row
pub target_fits : (d : List ElementValue) (e : EdgeValue) (row : Row) (b : IdValue) → (ends_of e).1 ≡ b ∷ [] → not (list_any (fits_row d e) (row ∷ [])) ≡ false → is_of_kind row.1 (vertex_at d b) ≡ true
target_fits d e row b one free =
    let fits : fits_row d e row ≡ true = sym (or_false (fits_row d e row)) ∙ not_false _ free in
    let all = (and_both (is_of_kind row.0 (vertex_at d (ends_of e).0)) (list_all (λ i. is_of_kind row.1 (vertex_at d i)) (ends_of e).1) fits).1 in
    (and_both (is_of_kind row.1 (vertex_at d b)) true (subst (λ is. list_all (λ i. is_of_kind row.1 (vertex_at d i)) is ≡ true) one all)).0

-- a `contains` edge leaves a document, or it joins documents
pub contains_fits : (d : List ElementValue) (i from : IdValue) (to : List IdValue) → may_not_join d (edge i (contains from to)) ≡ false
    → (is_document (vertex_at d from) ≡ true) ⊎ (list_all (λ j. is_document (vertex_at d j)) to ≡ true)
contains_fits d i from to free = ⊎_elim
    (λ (document : fits_row d (contains from to) (Document, Range) ≡ true). inl (and_both (is_document (vertex_at d from)) _ document).0)
    (λ (project : (fits_row d (contains from to) (Project, Document) || false) ≡ true).
    inr (and_both (is_of_kind Project (vertex_at d from)) _ (sym (or_false (fits_row d (contains from to) (Project, Document))) ∙ project)).1)
    (or_some (fits_row d (contains from to) (Document, Range)) (fits_row d (contains from to) (Project, Document) || false) (not_false _ free))
