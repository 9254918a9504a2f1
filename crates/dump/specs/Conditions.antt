-- What an element may not be after the elements before it, code by code, and what a whole dump may
-- not have (LSIF 0.6.0, "Emitting constraints", "metaData", "contains").
use Rattle.std.specs.Prelude.{ℕ, ◌==◌, ◌&&◌, ◌||◌, Bool, true, false, nat_le, not, List, [], ◌∷◌, length, bytes_eq, Option, Some, None, is_some, find, if◌then◌else◌}
use Rattle.std.specs.List.{list_any, list_all}
use Rattle.lsif.specs.Element.{IdValue, meta_data, document, range, EdgeValue, ends_of, contains, next, item, ElementValue, vertex, edge, element_id}
use Rattle.lsif.specs.declared.code.Code.{Code}
use Rattle.lsif.specs.declared.code.Code.TheVariants.{L04, L06, L09, L10, L11, L12, L13, L14, L16, L17, L18, L19, L20, E01, E02}
use Rattle.dump.specs.Graph.{element_at, vertex_at, ends, has_repeated}
use Rattle.dump.specs.Kinds.{Row, is_of_kind, is_document, rows_of}
use Rattle.dump.specs.declared.vertices.Kind.TheVariants.{Other, Shard}
use Rattle.lsif.specs.declared.element.Property.{Property}
use Rattle.lsif.specs.declared.element.Property.TheVariants.{ReferenceResults}
use Rattle.dump.specs.Walks.{first_to, reaches, single_of, single_pairs, next_pairs}
use Rattle.dump.specs.Ended.{is_bad_event, is_late}
use Rattle.dump.specs.Contained.{is_contained, is_in, spans_in, spans_of, any_conflicts, has_conflict}

-- L04: an earlier element has this id
abbrev pub has_used_id : List ElementValue → ElementValue → Bool
has_used_id before x = is_some (element_at before (element_id x))

abbrev pub is_meta_data : ElementValue → Bool
is_meta_data (vertex i (meta_data supported)) = true
is_meta_data (vertex i v) = false
is_meta_data (edge i e) = false

abbrev pub is_supported_meta_data : ElementValue → Bool
is_supported_meta_data (vertex i (meta_data supported)) = supported
is_supported_meta_data (vertex i v) = false
is_supported_meta_data (edge i e) = false

-- L06: the first element isn't a supported metaData, or a later one is a metaData
unfoldable pub is_misplaced : List ElementValue → ElementValue → Bool
is_misplaced before x = if length before == 0 then not (is_supported_meta_data x) else is_meta_data x

abbrev pub are_vertices : List ElementValue → List IdValue → Bool
are_vertices before is = list_all (λ i. is_some (vertex_at before i)) is

-- L09: an end isn't the id of an earlier vertex
abbrev pub joins_no_vertex : List ElementValue → ElementValue → Bool
joins_no_vertex before x = not (are_vertices before (ends x))

-- the ends of an edge have the kinds of a row of the edge table
abbrev pub fits_row : List ElementValue → EdgeValue → Row → Bool
fits_row before e row =
    is_of_kind row.0 (vertex_at before (ends_of e).0) && list_all (λ i. is_of_kind row.1 (vertex_at before i)) (ends_of e).1

-- L10: no row of the edge table has the kinds of its ends
abbrev pub may_not_join : List ElementValue → ElementValue → Bool
may_not_join before (edge i e) = not (list_any (fits_row before e) (rows_of e))
may_not_join before (vertex i v) = false

-- L11: a document contains a target already, or a target is named twice
abbrev pub is_contained_again : List ElementValue → ElementValue → Bool
is_contained_again before (edge i (contains from to)) =
    is_document (vertex_at before from) && (list_any (is_contained before) to || has_repeated to)
is_contained_again before (edge i e) = false
is_contained_again before (vertex i v) = false

-- L12: a target's span conflicts with one that the document contains already, or with another
-- target's
abbrev pub is_conflicting : List ElementValue → ElementValue → Bool
is_conflicting before (edge i (contains from to)) =
    is_document (vertex_at before from)
    && (any_conflicts (spans_of before to) (spans_in before from) || has_conflict (spans_of before to))
is_conflicting before (edge i e) = false
is_conflicting before (vertex i v) = false

-- L13: an edge of this single label leaves the same vertex already
abbrev pub leaves_again : List ElementValue → ElementValue → Bool
leaves_again before x = elim (single_of x) as (λ _. Bool) [ Some e ↦ is_some (first_to (single_pairs e.0 before) e.1.0) | None ↦ false ]

-- L14: a path of `next` edges goes from the target to the source already
abbrev pub closes_cycle : List ElementValue → ElementValue → Bool
closes_cycle before (edge i (next from to)) = reaches (next_pairs before) to from
closes_cycle before (edge i e) = false
closes_cycle before (vertex i v) = false

-- L16: the shard isn't an earlier document or project. An `item` edge out of a vertex of another
-- label has no effect
abbrev pub has_no_shard : List ElementValue → ElementValue → Bool
has_no_shard before (edge i (item e)) = not (is_of_kind Other (vertex_at before e.source)) && not (is_of_kind Shard (vertex_at before e.shard))
has_no_shard before (edge i e) = false
has_no_shard before (vertex i v) = false

abbrev pub is_document_of : List ℕ → ElementValue → Bool
is_document_of uri (vertex i (document s)) = bytes_eq s uri
is_document_of uri (vertex i v) = false
is_document_of uri (edge i e) = false

-- L19: an earlier document has the same serialized URL
abbrev pub has_used_uri : List ElementValue → ElementValue → Bool
has_used_uri before (vertex i (document s)) = list_any (is_document_of s) before
has_used_uri before (vertex i v) = false
has_used_uri before (edge i e) = false

-- the greatest number of elements
abbrev pub most_elements : ℕ
most_elements = 100000

-- L20: there are as many elements as may be
abbrev pub is_past_limit : List ElementValue → Bool
is_past_limit before = nat_le most_elements (length before)

-- the condition of a code on an element and the elements before it
abbrev pub order_condition : List ElementValue → ElementValue → Code → Bool
order_condition before x L04 = has_used_id before x
order_condition before x L06 = is_misplaced before x
order_condition before x L09 = joins_no_vertex before x
order_condition before x L10 = may_not_join before x
order_condition before x L11 = is_contained_again before x
order_condition before x L12 = is_conflicting before x
order_condition before x L13 = leaves_again before x
order_condition before x L14 = closes_cycle before x
order_condition before x L16 = has_no_shard before x
order_condition before x L17 = is_bad_event before x
order_condition before x L18 = is_late before x
order_condition before x L19 = has_used_uri before x
order_condition before x L20 = is_past_limit before
order_condition before x c = false

-- the codes that ask something of the elements before, least first
abbrev pub order_codes : List Code
order_codes = L04 ∷ L06 ∷ L09 ∷ L10 ∷ L11 ∷ L12 ∷ L13 ∷ L14 ∷ L16 ∷ L17 ∷ L18 ∷ L19 ∷ L20 ∷ []

-- the least code whose condition holds
unfoldable pub order_code : List ElementValue → ElementValue → Option Code
order_code before x = find (order_condition before x) order_codes

-- E01: the element is a range that no document contains
abbrev pub is_uncontained : List ElementValue → ElementValue → Bool
is_uncontained elements (vertex i (range s)) = not (is_contained elements i)
is_uncontained elements (vertex i v) = false
is_uncontained elements (edge i e) = false

abbrev pub are_in : List ElementValue → IdValue → List IdValue → Bool
are_in elements d is = list_all (is_in elements d) is

-- an `item` edge has ranges, and not reference results
abbrev pub has_ranges : Option Property → Bool
has_ranges (Some ReferenceResults) = false
has_ranges (Some p) = true
has_ranges None = true

-- E02: the shard of an `item` edge is a document that doesn't contain a target range
abbrev pub is_misplaced_item : List ElementValue → ElementValue → Bool
is_misplaced_item elements (edge i (item e)) =
    not (is_of_kind Other (vertex_at elements e.source)) && has_ranges e.property
    && is_document (vertex_at elements e.shard) && not (are_in elements e.shard e.targets)
is_misplaced_item elements (edge i e) = false
is_misplaced_item elements (vertex i v) = false

-- the condition of a code on an element of a whole dump
abbrev pub end_condition : List ElementValue → ElementValue → Code → Bool
end_condition elements x E01 = is_uncontained elements x
end_condition elements x E02 = is_misplaced_item elements x
end_condition elements x c = false

-- the codes that a whole dump may have, least first
abbrev pub end_codes : List Code
end_codes = E01 ∷ E02 ∷ []

-- the least code whose condition holds at the end of the dump
unfoldable pub end_code : List ElementValue → ElementValue → Option Code
end_code elements x = find (end_condition elements x) end_codes
