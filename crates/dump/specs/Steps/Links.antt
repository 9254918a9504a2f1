-- The ways in which an element names a vertex, and tables of the elements that do.
use Rattle.std.specs.Prelude.{ℕ, ◌+◌, Bool, true, false, ◌&&◌, List, [], ◌∷◌, length, Option, Some, None, option_and_then, option_map, get_or, if◌then◌else◌}
use Rattle.lsif.specs.Element.{IdValue, same_id, begin_event, end_event, event, contains, ElementValue, vertex, edge}
use Rattle.dump.specs.declared.links.Link.{Link}
use Rattle.dump.specs.declared.links.Link.TheVariants.{Contained, Begun, Ended, Single}
use Rattle.dump.specs.declared.index_map.IndexMap.{IndexMap}
use Rattle.lsif.specs.RequestKinds.{kind_number, kinds}
use Rattle.dump.specs.declared.single.SingleLabel.{SingleLabel}
use Rattle.dump.specs.declared.single.SingleLabel.TheVariants.{Next, PackageInformation, Request}
use Rattle.dump.specs.Contained.{contains_of, contains_range}
use Rattle.dump.specs.Ended.{begins, finishes}
use Rattle.dump.specs.Graph.{vertex_at, is_among}
use Rattle.dump.specs.Kinds.{is_document}
use Rattle.dump.specs.Steps.Ids.{index_at}
use Rattle.dump.specs.Walks.{same_label, single_of}

-- the number of a label, from 0
abbrev pub label_index : SingleLabel → ℕ
label_index Next = 0
label_index PackageInformation = 1
label_index (Request kind) = 2 + kind_number kind

-- how many labels there are
abbrev pub single_labels : ℕ
single_labels = 2 + length kinds

abbrev pub link_index : Link → ℕ
link_index Contained = 0
link_index Begun = 1
link_index Ended = 2
link_index (Single label) = 3 + label_index label

-- how many ways there are
abbrev pub links : ℕ
links = 3 + single_labels

abbrev pub same_link : Link → Link → Bool
same_link Contained Contained = true
same_link Begun Begun = true
same_link Ended Ended = true
same_link (Single a) (Single b) = same_label a b
same_link a b = false

-- the target of an edge of a single label
abbrev pub single_target : ElementValue → Option IdValue
single_target x = option_map (λ e. e.1.1) (single_of x)

-- the element is an edge of this label out of the vertex
abbrev pub is_single : SingleLabel → IdValue → ElementValue → Bool
is_single label i x = elim (single_of x) as (λ _. Bool) [ Some e ↦ same_label e.0 label && same_id e.1.0 i | None ↦ false ]

-- the element, of these, names the vertex in this way
abbrev pub is_link : List ElementValue → Link → IdValue → ElementValue → Bool
is_link d Contained i x = contains_range d i x
is_link d Begun i x = begins i x
is_link d Ended i x = finishes i x
is_link d (Single label) i x = is_single label i x

-- the ranges that the element names, where it's a `contains` edge out of a document
abbrev pub ranges_in : List ElementValue → ElementValue → List IdValue
ranges_in d x = elim (contains_of x) as (λ _. List IdValue) [ Some e ↦ if is_document (vertex_at d e.0) then e.1 else [] | None ↦ [] ]

-- the way in which an element names vertices, and these: but for edges of single labels
abbrev pub other_named_by : List ElementValue → ElementValue → Option (Link × List IdValue)
other_named_by d (vertex i (event (begin_event v))) = Some (Begun, v ∷ [])
other_named_by d (vertex i (event (end_event v))) = Some (Ended, v ∷ [])
other_named_by d (vertex i v) = None
other_named_by d (edge i (contains from to)) = Some (Contained, ranges_in d (edge i (contains from to)))
other_named_by d (edge i e) = None

-- the way in which an element names vertices, and these
abbrev pub named_by : List ElementValue → ElementValue → Option (Link × List IdValue)
named_by d x = elim (single_of x) as (λ _. Option (Link × List IdValue)) [ Some e ↦ Some (Single e.0, e.1.0 ∷ []) | None ↦ other_named_by d x ]

-- the element names the vertex so
abbrev pub is_named : Option (Link × List IdValue) → Link → IdValue → Bool
is_named (Some n) l i = same_link n.0 l && is_among i n.1
is_named None l i = false

abbrev pub cell : List (List (Option ℕ)) → ℕ → Link → Option ℕ
cell rows n l = get_or (get_or rows n []) (link_index l) None

-- the index that the tables have at an id, of this way
abbrev pub link_at : IndexMap → List (List (Option ℕ)) → Link → IdValue → Option ℕ
link_at indices rows l i = option_and_then (λ n. cell rows n l) (index_at indices i)
