-- What edges of each label join (LSIF 0.6.0, "Edges").
use Rattle.std.specs.Prelude.{ℕ, List, [], ◌∷◌, codes, bytes_eq, Option, Some, None, is_some, option_map, option_and_then, Result, Ok, if◌then◌else◌}
use Rattle.std.specs.Option.{option_map_or}
use Rattle.serde_json.specs.Data.{Data}
use Rattle.serde_json.specs.Find.{get, as_str, as_array}
use Rattle.lsif.specs.declared.code.Code.{Code}
use Rattle.lsif.specs.declared.code.Code.TheVariants.{L08, L15}
use Rattle.lsif.specs.declared.edges.EdgeLabel.{EdgeLabel}
use Rattle.lsif.specs.declared.edges.EdgeLabel.TheVariants as labels
use Rattle.lsif.specs.declared.profile.Profile.{Profile}
use Rattle.lsif.specs.declared.element.Property.{Property}
use Rattle.lsif.specs.declared.element.Property.TheVariants.{Definitions, References, ReferenceResults}
use Rattle.lsif.specs.Element.{IdValue, ItemValue, EdgeValue, contains, next, request_edge, moniker_edge, package_edge, attach, item, other_edge}
use Rattle.lsif.specs.Shape.{◌>>=◌, some_or}
use Rattle.lsif.specs.Ids.{ids_in, id_at}
use Rattle.lsif.specs.RequestKinds.{named_by_edge}

abbrev pub ids_at : List ℕ → Data → Option (List IdValue)
ids_at name d = option_and_then ids_in (option_and_then as_array (get name d))

-- the targets of an edge that names them in `inVs` and has no `inV`
unfoldable pub targets_in : Data → Option (List IdValue)
targets_in d = if is_some (get (codes "inV") d) then None else ids_at (codes "inVs") d

-- the targets of an edge that has exactly one of `inV` and `inVs`
unfoldable pub ends_in : Data → Option (List IdValue)
ends_in d =
    if is_some (get (codes "inVs") d) then targets_in d
    else option_map (λ i. i ∷ []) (id_at (codes "inV") d)

-- the target of an edge that names it in `inV` and has no `inVs`
unfoldable pub target_in : Data → Option IdValue
target_in d = if is_some (get (codes "inVs") d) then None else id_at (codes "inV") d

abbrev pub property_of : List ℕ → Option Property
property_of text =
    if bytes_eq text (codes "definitions") then Some Definitions
    else if bytes_eq text (codes "references") then Some References
    else if bytes_eq text (codes "referenceResults") then Some ReferenceResults
    else None

abbrev pub property_by : Option Data → Option (Option Property)
property_by None = Some None
property_by (Some d) = option_map Some (option_and_then property_of (as_str d))

-- the property of an `item` edge, or that it has none
unfoldable pub property_in : Data → Option (Option Property)
property_in d = property_by (get (codes "property") d)

-- the place of an `item` edge's targets: its `shard` or, where there is none, its `document`
unfoldable pub shard_in : Data → Option IdValue
shard_in d = if is_some (get (codes "shard") d) then id_at (codes "shard") d else id_at (codes "document") d

-- an `item` edge out of this source
unfoldable pub item_in : IdValue → Data → Result ItemValue Code
item_in from d = do
  to ← some_or L08 (targets_in d)
  property ← some_or L15 (property_in d)
  shard ← some_or L15 (shard_in d)
  Ok (record { source = from; targets = to; property = property; shard = shard })

-- which label a text is in a profile
abbrev pub edge_label : Profile → List ℕ → EdgeLabel
edge_label profile text =
    if bytes_eq text (codes "contains") then labels.Contains
    else if bytes_eq text (codes "next") then labels.Next
    else if bytes_eq text (codes "moniker") then labels.Moniker
    else if bytes_eq text (codes "packageInformation") then labels.Package
    else if bytes_eq text (codes "attach") then labels.Attach
    else if bytes_eq text (codes "item") then labels.Item
    else option_map_or labels.Request (named_by_edge profile text) labels.Other

-- what an edge of this label out of this source joins
unfoldable pub edge_from : EdgeLabel → IdValue → Data → Result EdgeValue Code
edge_from labels.Contains from d = some_or L08 (option_map (contains from) (targets_in d))
edge_from labels.Next from d = some_or L08 (option_map (next from) (target_in d))
edge_from (labels.Request kind) from d = some_or L08 (option_map (request_edge kind from) (target_in d))
edge_from labels.Moniker from d = some_or L08 (option_map (moniker_edge from) (target_in d))
edge_from labels.Package from d = some_or L08 (option_map (package_edge from) (target_in d))
edge_from labels.Attach from d = some_or L08 (option_map (attach from) (target_in d))
edge_from labels.Item from d = do
  i ← item_in from d
  Ok (item i)
edge_from labels.Other from d = some_or L08 (option_map (other_edge from) (ends_in d))

-- what an edge of this label joins, or the least fault of its shape
unfoldable pub edge_in : EdgeLabel → Data → Result EdgeValue Code
edge_in label d = do
  from ← some_or L08 (id_at (codes "outV") d)
  edge_from label from d
