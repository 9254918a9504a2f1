-- What is kept beside the elements of a dump, so that they are looked up without a search.
use Rattle.std.specs.Prelude.{◌≡◌, ℕ, Bool, true, false, List, [], ◌++◌, Vec, IsPermutation, length, Option, Some, None, option_map, find}
use Rattle.std.specs.List.{position}
use Rattle.std.specs.BTreeMap.{get_by_text}
use Rattle.positions.specs.Span.{SpanValue}
use Rattle.lsif.specs.Element.{IdValue, same_id, ElementValue, element_id}
use Rattle.std.specs.declared.alloc.Global.{Global}
use Rattle.dump.specs.declared.tables.Tables.{Tables}
use Rattle.dump.specs.Conditions.{is_document_of}
use Rattle.dump.specs.Contained.{spans_in, has_conflict}
use Rattle.dump.specs.Steps.Ids.{value_at, index_at, IsTable}
use Rattle.dump.specs.Steps.Links.{is_link, link_at}
use Rattle.dump.specs.Steps.Spans.{joined}
use Rattle.dump.specs.declared.links.Link.{Link}

-- there is an id, and it's this one
abbrev pub is_id : IdValue → Option IdValue → Bool
is_id i (Some j) = same_id j i
is_id i None = false

-- there is an id, and it passes
abbrev pub passes : (IdValue → Bool) → Option IdValue → Bool
passes test (Some i) = test i
passes test None = false

-- the id of the first document of this serialized URL
abbrev pub document_id : List ElementValue → List ℕ → Option IdValue
document_id d uri = option_map element_id (find (is_document_of uri) d)

abbrev pub has_id : IdValue → ElementValue → Bool
has_id i x = same_id (element_id x) i

-- the lists of spans that are kept, or none
abbrev pub lists : Option (Vec (List SpanValue) Global) → List (List SpanValue)
lists (Some spans) = spans.items
lists None = []

-- the spans that are kept
abbrev pub kept : Option (Vec (List SpanValue) Global) → List SpanValue
kept o = joined (lists o)

-- what is kept of a document after more spans came to it, or didn't
abbrev pub IsFilled : Bool → List SpanValue → Option (Vec (List SpanValue) Global) → Option (Vec (List SpanValue) Global) → Type 0
IsFilled true targets old new = IsPermutation (kept old ++ targets) (kept new)
IsFilled false targets old new = kept new ≡ kept old

-- the indices lead to the element of each id; each element has a row, which leads to the first
-- elements that name it in each way; each serialized URL leads to its first document; and of each
-- document the spans of its ranges are kept, of which no two conflict
pub record AreTables (x : Tables) (d : List ElementValue) : Type 0 where
  pub elements : IsTable (index_at x.indices) has_id d
  pub rows : length x.rows.items ≡ length d
  pub links : (l : Link) → IsTable (link_at x.indices x.rows.items l) (is_link d l) d
  pub documents : (uri : List ℕ) → get_by_text x.documents uri ≡ position (is_document_of uri) d
  pub spans : (v : IdValue) → IsPermutation (spans_in d v) (kept (value_at x.spans v)) × (has_conflict (kept (value_at x.spans v)) ≡ false)
