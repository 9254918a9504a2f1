-- Vertices, edges and elements without where they lie in memory (LSIF 0.6.0, "Vertices", "Edges").
use Rattle.std.specs.Prelude.{◌==◌, ℕ, List, [], ◌∷◌, Bool, false, bytes_eq, string_bytes, Option, Result, Ok, Err}
pub use Rattle.lsif.specs.IdValues.{IdValue, number, text}
use Rattle.lsif.specs.declared.code.Code.{Code}
use Rattle.positions.specs.Span.{SpanValue}
use Rattle.lsif.specs.declared.id.Id.{Id}
use Rattle.lsif.specs.declared.id.Id.TheVariants as ids
use Rattle.lsif.specs.declared.element.Moniker.{Moniker}
use Rattle.lsif.specs.declared.element.MonikerKind.{MonikerKind}
use Rattle.lsif.specs.declared.element.Package.{Package}
use Rattle.lsif.specs.declared.element.Event.{Event}
use Rattle.lsif.specs.declared.element.Event.TheVariants as events
use Rattle.lsif.specs.declared.element.Vertex.{Vertex}
use Rattle.lsif.specs.declared.element.Vertex.TheVariants as vertices
use Rattle.lsif.specs.declared.element.Edge.{Edge}
use Rattle.lsif.specs.declared.element.Edge.TheVariants as edges
use Rattle.lsif.specs.declared.element.Item.{Item}
use Rattle.lsif.specs.declared.element.Property.{Property}
use Rattle.lsif.specs.declared.request_kind.RequestKind.{RequestKind}
use Rattle.lsif.specs.declared.element.Element.{Element}
use Rattle.lsif.specs.declared.element.Element.TheVariants as elements

-- a moniker: the name of a symbol across projects
pub record MonikerValue : Type 0 where
  pub scheme : List ℕ
  pub identifier : List ℕ
  pub kind : MonikerKind

-- the package that a symbol is of
pub record PackageValue : Type 0 where
  pub manager : List ℕ
  pub name : List ℕ
  pub version : List ℕ

-- an event: that the document of this id begins or ends, or something of another scope
pub data EventValue : Type 0 where
  begin_event : IdValue → EventValue
  end_event : IdValue → EventValue
  other_event : EventValue

-- what a vertex says: of metaData whether its version and encoding are supported, of a document its
-- serialized URL, of the result of a request that is answered by places the request's kind, and of
-- a hover result its contents as compact JSON
pub data VertexValue : Type 0 where
  meta_data : Bool → VertexValue
  project : VertexValue
  document : List ℕ → VertexValue
  range : SpanValue → VertexValue
  result_set : VertexValue
  request_result : RequestKind → VertexValue
  hover_result : List ℕ → VertexValue
  moniker : MonikerValue → VertexValue
  package_information : PackageValue → VertexValue
  event : EventValue → VertexValue
  other_vertex : VertexValue

-- an `item` edge: its source, its targets, its property where it has one, and its shard
pub record ItemValue : Type 0 where
  pub source : IdValue
  pub targets : List IdValue
  pub property : Option Property
  pub shard : IdValue

-- what an edge joins: its source and its target or targets
pub data EdgeValue : Type 0 where
  contains : IdValue → List IdValue → EdgeValue
  next : IdValue → IdValue → EdgeValue
  request_edge : RequestKind → IdValue → IdValue → EdgeValue
  moniker_edge : IdValue → IdValue → EdgeValue
  package_edge : IdValue → IdValue → EdgeValue
  attach : IdValue → IdValue → EdgeValue
  item : ItemValue → EdgeValue
  other_edge : IdValue → List IdValue → EdgeValue

-- a vertex or an edge, with its own id
pub data ElementValue : Type 0 where
  vertex : IdValue → VertexValue → ElementValue
  edge : IdValue → EdgeValue → ElementValue

-- a line of a dump as it was read: its element, or the least fault of its shape
abbrev pub Reading : Type 0
Reading = Result ElementValue Code

abbrev pub same_id : IdValue → IdValue → Bool
same_id (number m) (number n) = m == n
same_id (text s) (text t) = bytes_eq s t
same_id (number m) (text t) = false
same_id (text s) (number n) = false

-- the element's own id
abbrev pub element_id : ElementValue → IdValue
element_id (vertex i v) = i
element_id (edge i e) = i

-- the source of an edge and its targets
abbrev pub ends_of : EdgeValue → IdValue × List IdValue
ends_of (contains from to) = (from, to)
ends_of (next from to) = (from, to ∷ [])
ends_of (request_edge kind from to) = (from, to ∷ [])
ends_of (moniker_edge from to) = (from, to ∷ [])
ends_of (package_edge from to) = (from, to ∷ [])
ends_of (attach from to) = (from, to ∷ [])
ends_of (item e) = (e.source, e.targets)
ends_of (other_edge from to) = (from, to)

-- ---- the same of the program's values

abbrev pub id_value : Id → IdValue
id_value (ids.Number n) = number n
id_value (ids.Text s) = text (string_bytes s)

abbrev pub moniker_value : Moniker → MonikerValue
moniker_value m = record { scheme = string_bytes m.scheme; identifier = string_bytes m.identifier; kind = m.kind }

abbrev pub package_value : Package → PackageValue
package_value p = record { manager = string_bytes p.manager; name = string_bytes p.name; version = string_bytes p.version }

abbrev pub event_value : Event → EventValue
event_value (events.Begin i) = begin_event (id_value i)
event_value (events.End i) = end_event (id_value i)
event_value events.Other = other_event

abbrev pub vertex_value : Vertex → VertexValue
vertex_value (vertices.MetaData b) = meta_data b
vertex_value vertices.Project = project
vertex_value (vertices.Document s) = document (string_bytes s)
vertex_value (vertices.Range e) = range e
vertex_value vertices.ResultSet = result_set
vertex_value (vertices.Result kind) = request_result kind
vertex_value (vertices.HoverResult s) = hover_result (string_bytes s)
vertex_value (vertices.Moniker m) = moniker (moniker_value m)
vertex_value (vertices.Package p) = package_information (package_value p)
vertex_value (vertices.Event e) = event (event_value e)
vertex_value vertices.Other = other_vertex

abbrev pub item_value : Item → ItemValue
item_value i = record {
  source = id_value i.source;
  targets = i.targets;
  property = i.property;
  shard = id_value i.shard;
}

abbrev pub edge_value : Edge → EdgeValue
edge_value (edges.Contains from to) = contains (id_value from) to
edge_value (edges.Next from to) = next (id_value from) (id_value to)
edge_value (edges.Request kind from to) = request_edge kind (id_value from) (id_value to)
edge_value (edges.Moniker from to) = moniker_edge (id_value from) (id_value to)
edge_value (edges.Package from to) = package_edge (id_value from) (id_value to)
edge_value (edges.Attach from to) = attach (id_value from) (id_value to)
edge_value (edges.Item i) = item (item_value i)
edge_value (edges.Other from to) = other_edge (id_value from) to

abbrev pub element_value : Element → ElementValue
element_value (elements.Vertex i v) = vertex (id_value i) (vertex_value v)
element_value (elements.Edge i e) = edge (id_value i) (edge_value e)

abbrev pub reading_value : Result Element Code → Reading
reading_value (Ok e) = Ok (element_value e)
reading_value (Err c) = Err c
