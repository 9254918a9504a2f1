-- What the rows of a part have after the id of its slot.
use Rattle.std.specs.Prelude.{IsTrue, ◌++◌, ◌==◌, ℕ, pos, List, [], ◌∷◌, map, Option, is_some, if◌then◌else◌}
use Rattle.std.specs.List.{flat_map, list_any}
use Rattle.sqlite_value.specs.declared.value.Value.{Value}
use Rattle.sqlite_value.specs.declared.value.Value.TheVariants.{Int, Text}
use Rattle.sqlite_value.specs.Order.{Row}
use Rattle.sqlite.specs.Values.{or_null}
use Rattle.positions.specs.Position.{PositionValue, IsPosition, packed_of}
use Rattle.positions.specs.Span.{SpanValue, is_span}
use Rattle.lsif.specs.declared.profile.Profile.{Profile}
use Rattle.serde_json.specs.Data.{array}
use Rattle.serde_json.specs.View.{items_of}
use Rattle.serde_json.specs.Written.{compact_text}
use Rattle.tags.specs.Values.{FieldValue, TagValue}
use Rattle.lsif.specs.declared.request_kind.RequestKind.{RequestKind}
use Rattle.machine.specs.Reply.{field_data}
use Rattle.lsif.specs.Profiles.{profile_number}
use Rattle.flatten.specs.Flat.{ResultsValue, RangeRowValue, ItemRowValue, HoverRowValue, MarkRowValue, BearerRowValue, RowsValue, role_index, kind_index}
use Rattle.tables.specs.Kinds.{own_kinds, more_kinds}
use Rattle.tables.specs.TableTrees.{bearer_tree, document_tree, hover_tree, item_tree, mark_tree, more_tree, part_profile_tree, range_row_tree, tag_tree}

abbrev pub number : ℕ → Value
number n = Int (pos n)

-- NULL where there is none
abbrev pub optional : Option ℕ → Value
optional = or_null number

-- the numbers of a line's first results of these kinds
abbrev pub kind_columns : List RequestKind → ResultsValue → Row
kind_columns kinds results = map (λ kind. optional (results kind)) kinds

abbrev pub position : PositionValue → Value
position p = number (packed_of p)

-- a place that a row has begins and ends at positions, and doesn't end before it begins
abbrev pub IsWritten : SpanValue → Type 0
IsWritten span = IsPosition span.start × IsPosition span.«end» × IsTrue (is_span span.start span.«end»)

abbrev pub document_columns : List ℕ → Row
document_columns uri = Text uri ∷ []

abbrev pub range_columns : RangeRowValue → Row
range_columns r =
    number r.line ∷ Text r.place.uri ∷ position r.place.span.start ∷ position r.place.span.«end» ∷ optional r.parent
    ∷ kind_columns own_kinds r.results

abbrev pub item_columns : ItemRowValue → Row
item_columns i = number i.result ∷ number (role_index i.role) ∷ Text i.place.uri ∷ position i.place.span.start ∷ position i.place.span.«end» ∷ []

abbrev pub hover_columns : HoverRowValue → Row
hover_columns h = number h.result ∷ Text h.contents ∷ []

abbrev pub mark_columns : MarkRowValue → Row
mark_columns m = number m.range ∷ number (kind_index m.kind) ∷ Text m.key ∷ []

abbrev pub bearer_columns : BearerRowValue → Row
bearer_columns b = number b.line ∷ Text b.key ∷ number (kind_index b.kind) ∷ kind_columns own_kinds b.results

abbrev pub profile_columns : Profile → Row
profile_columns profile = number (profile_number profile) ∷ []

-- what `more` has of a line: a row where there is a result of its kinds
abbrev pub more_columns : ℕ → ResultsValue → List Row
more_columns line results =
    if list_any is_some (map results more_kinds) then (number line ∷ kind_columns more_kinds results) ∷ [] else []

abbrev pub range_more : RangeRowValue → List Row
range_more r = more_columns r.line r.results

abbrev pub bearer_more : BearerRowValue → List Row
bearer_more b = more_columns b.line b.results

-- those of the ranges and of the bearers
abbrev pub more_rows : RowsValue → List Row
more_rows flat = flat_map range_more flat.ranges ++ flat_map bearer_more flat.bearers

-- ---- the rows of a part, table by table

-- rows for one table, beside those for others
abbrev pub laid : ℕ → List Row → (ℕ → List Row) → ℕ → List Row
laid tree list rows t = if t == tree then list else rows t

-- what a part has in no table
abbrev pub nowhere : ℕ → List Row
nowhere t = []

-- those of a dump: of `document`, `range_row`, `item`, `hover`, `mark`, `bearer`, `part_profile`
-- and `more`
abbrev pub dump_rows : Profile → RowsValue → ℕ → List Row
dump_rows profile flat =
    laid more_tree (more_rows flat) (laid part_profile_tree (profile_columns profile ∷ []) (laid bearer_tree (map bearer_columns flat.bearers)
    (laid mark_tree (map mark_columns flat.marks)
    (laid hover_tree (map hover_columns flat.hovers) (laid item_tree (map item_columns flat.items)
    (laid range_row_tree (map range_columns flat.ranges) (laid document_tree (map document_columns flat.documents) nowhere)))))))

-- ---- tags

abbrev pub optional_text : Option (List ℕ) → Value
optional_text = or_null Text

-- the fields as compact JSON (RFC 8259): an array with a pair of the name and the value of each
abbrev pub fields_text : List FieldValue → List ℕ
fields_text fields = compact_text (array (items_of (map field_data fields)))

-- those of a tag whose fields have this text
abbrev pub columns_with : TagValue → List ℕ → Row
columns_with t fields = number t.line ∷ Text t.name ∷ Text t.file ∷ Text t.address ∷ optional_text t.kind ∷ Text fields ∷ []

abbrev pub tag_columns : TagValue → Row
tag_columns t = columns_with t (fields_text t.fields)

-- the rows of tags, all in `tag`
abbrev pub tag_rows : List TagValue → ℕ → List Row
tag_rows tags = laid tag_tree (map tag_columns tags) nowhere
