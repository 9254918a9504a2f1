-- The kinds of vertices, and the edge table: which kinds an edge may join (LSIF 0.6.0, "Edges").
use Rattle.std.specs.Prelude.{Bool, true, false, not, List, [], ◌∷◌, Option, Some, None, is_some, if◌then◌else◌}
use Rattle.lsif.specs.declared.element.Property.{Property}
use Rattle.lsif.specs.declared.element.Property.TheVariants.{Definitions, References, ReferenceResults}
use Rattle.lsif.specs.Element.{VertexValue, project, document, range, result_set, request_result, hover_result, moniker, package_information, other_vertex, EdgeValue, contains, next, request_edge, moniker_edge, package_edge, attach, item, other_edge}
use Rattle.lsif.specs.RequestKinds.{asks_for_uses, gives_places, same_kind}
use Rattle.lsif.specs.declared.request_kind.RequestKind.{RequestKind}
use Rattle.lsif.specs.declared.request_kind.RequestKind.TheVariants as requests
use Rattle.dump.specs.declared.vertices.Kind.{Kind}
use Rattle.dump.specs.declared.vertices.Kind.TheVariants.{Any, Project, Document, Range, ResultSet, Result, OneRole, HoverResult, Moniker, Package, Other, Asked, Shard}

-- there is a vertex, and it is of this kind. Ranges and result sets have results of requests; a
-- shard is a project or a document
abbrev pub is_of_kind : Kind → Option VertexValue → Bool
is_of_kind Any v = is_some v
is_of_kind Project (Some project) = true
is_of_kind Document (Some (document uri)) = true
is_of_kind Range (Some (range span)) = true
is_of_kind ResultSet (Some result_set) = true
is_of_kind (Result kind) (Some (request_result other)) = same_kind kind other
is_of_kind OneRole (Some (request_result kind)) = not (asks_for_uses kind)
is_of_kind HoverResult (Some (hover_result contents)) = true
is_of_kind Moniker (Some (moniker m)) = true
is_of_kind Package (Some (package_information p)) = true
is_of_kind Other (Some other_vertex) = true
is_of_kind Asked (Some (range span)) = true
is_of_kind Asked (Some result_set) = true
is_of_kind Shard (Some project) = true
is_of_kind Shard (Some (document uri)) = true
is_of_kind kind v = false

abbrev pub is_document : Option VertexValue → Bool
is_document = is_of_kind Document

-- ---- the edge table

-- a row: the kind of the source, and that of the targets
abbrev pub Row : Type 0
Row = Kind × Kind

-- the rows of an `item` edge with this property
abbrev pub item_rows : Option Property → List Row
item_rows None = (OneRole, Range) ∷ (Other, Any) ∷ []
item_rows (Some Definitions) = (Result requests.References, Range) ∷ (Result requests.Definition, Range) ∷ (Other, Any) ∷ []
item_rows (Some References) = (Result requests.References, Range) ∷ (Other, Any) ∷ []
item_rows (Some ReferenceResults) = (Result requests.References, Result requests.References) ∷ (Other, Any) ∷ []

-- the kind of what an edge of the request leads to
abbrev pub result_kind : RequestKind → Kind
result_kind kind = if gives_places kind then Result kind else HoverResult

-- the rows of an edge
abbrev pub rows_of : EdgeValue → List Row
rows_of (contains from to) = (Document, Range) ∷ (Project, Document) ∷ []
rows_of (next from to) = (Asked, ResultSet) ∷ []
rows_of (request_edge kind from to) = (Asked, result_kind kind) ∷ []
rows_of (moniker_edge from to) = (Asked, Moniker) ∷ []
rows_of (package_edge from to) = (Moniker, Package) ∷ []
rows_of (attach from to) = (Moniker, Moniker) ∷ []
rows_of (item e) = item_rows e.property
rows_of (other_edge from to) = (Any, Any) ∷ []
