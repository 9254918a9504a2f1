-- What vertices of each label say (LSIF 0.6.0, "Vertices"; Language Server Protocol 3.17,
-- "Position", "Range").
use Rattle.std.specs.Prelude.{ℕ, ◌&&◌, Bool, true, false, nat_lt, List, codes, bytes_eq, Option, Some, None, option_map, option_and_then, Ok, Err, if◌then◌else◌}
use Rattle.std.specs.Option.{option_map_or}
use Rattle.serde_json.specs.Data.{Data}
use Rattle.serde_json.specs.Find.{get, as_str}
use Rattle.url.specs.Parser.{parse_url, Parsed}
use Rattle.url.specs.Parts.{Parts, serialize}
use Rattle.positions.specs.Position.{PositionValue, number_limit}
use Rattle.positions.specs.Span.{SpanValue, is_span}
use Rattle.lsif.specs.declared.vertices.VertexLabel.{VertexLabel}
use Rattle.lsif.specs.declared.vertices.VertexLabel.TheVariants as labels
use Rattle.lsif.specs.Element.{VertexValue, meta_data, project, document, range, result_set, request_result, hover_result, moniker, package_information, event, other_vertex}
use Rattle.lsif.specs.Ids.{whole_number_in, text_at}
use Rattle.lsif.specs.declared.profile.Profile.{Profile}
use Rattle.lsif.specs.declared.request_kind.RequestKind.TheVariants.{Hover}
use Rattle.lsif.specs.RequestKinds.{named_by_vertex}
use Rattle.lsif.specs.Hovers.{hover_in}
use Rattle.lsif.specs.Monikers.{moniker_in, package_in}
use Rattle.lsif.specs.Events.{event_in}

-- a whole number up to 2147483647
abbrev pub coordinate_at : List ℕ → Data → Option ℕ
coordinate_at name d =
    option_and_then (λ n. if nat_lt n number_limit then Some n else None)
    (option_and_then whole_number_in (get name d))

unfoldable pub position_in : Data → Option PositionValue
position_in d =
    option_and_then (λ l. option_map (λ c. record { line = l; character = c }) (coordinate_at (codes "character") d))
    (coordinate_at (codes "line") d)

abbrev pub position_at : List ℕ → Data → Option PositionValue
position_at name d = option_and_then position_in (get name d)

-- the start isn't after the end
abbrev pub span : PositionValue → PositionValue → Option SpanValue
span first last = if is_span first last then Some (record { start = first; «end» = last }) else None

unfoldable pub span_in : Data → Option SpanValue
span_in d =
    option_and_then (λ first. option_and_then (span first) (position_at (codes "end") d))
    (position_at (codes "start") d)

abbrev pub serialized : Parsed Parts → Option (List ℕ)
serialized (Ok url) = Some (serialize url)
serialized (Err e) = None

-- the serialized URL of a document
unfoldable pub uri_in : Data → Option (List ℕ)
uri_in d = option_and_then (λ s. serialized (parse_url None s)) (text_at (codes "uri") d)

abbrev pub is_text : List ℕ → Option Data → Bool
is_text s found = option_map_or (bytes_eq s) (option_and_then as_str found) false

abbrev pub is_absent_or_text : List ℕ → Option Data → Bool
is_absent_or_text s None = true
is_absent_or_text s (Some d) = is_text s (Some d)

-- the version and the position encoding that are read here
unfoldable pub is_supported : Data → Bool
is_supported d =
    is_text (codes "0.6.0") (get (codes "version") d)
    && is_absent_or_text (codes "utf-16") (get (codes "positionEncoding") d)

-- which label a text is in a profile
abbrev pub vertex_label : Profile → List ℕ → VertexLabel
vertex_label profile text =
    if bytes_eq text (codes "metaData") then labels.MetaData
    else if bytes_eq text (codes "project") then labels.Project
    else if bytes_eq text (codes "document") then labels.Document
    else if bytes_eq text (codes "range") then labels.Range
    else if bytes_eq text (codes "resultSet") then labels.ResultSet
    else if bytes_eq text (codes "moniker") then labels.Moniker
    else if bytes_eq text (codes "packageInformation") then labels.Package
    else if bytes_eq text (codes "$event") then labels.Event
    else option_map_or labels.Result (named_by_vertex profile text) labels.Other

-- what a vertex of this label says, where the members that are read are of their forms
unfoldable pub vertex_of : VertexLabel → Data → Option VertexValue
vertex_of labels.MetaData d = Some (meta_data (is_supported d))
vertex_of labels.Project d = Some project
vertex_of labels.Document d = option_map document (uri_in d)
vertex_of labels.Range d = option_map range (span_in d)
vertex_of labels.ResultSet d = Some result_set
vertex_of (labels.Result Hover) d = option_map hover_result (hover_in d)
vertex_of (labels.Result kind) d = Some (request_result kind)
vertex_of labels.Moniker d = option_map moniker (moniker_in d)
vertex_of labels.Package d = option_map package_information (package_in d)
vertex_of labels.Event d = option_map event (event_in d)
vertex_of labels.Other d = Some other_vertex
