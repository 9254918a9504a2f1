-- The element that a line of a dump is, or the least fault of its shape (LSIF 0.6.0, "Emitting
-- constraints").
use Rattle.std.specs.Prelude.{◌≡◌, ◌⊎◌, ℕ, nat_lt, List, length, codes, bytes_eq, Option, Some, None, option_map, option_and_then, Ok, Err, if◌then◌else◌, IfSome}
use Rattle.std.specs.Str.{is_utf8}
use Rattle.serde_json.specs.Data.{Data}
use Rattle.serde_json.specs.Read.{read}
use Rattle.lsif.specs.Element.{IdValue, vertex, edge, Reading}
use Rattle.lsif.specs.Ids.{id_at, text_at}
use Rattle.lsif.specs.Shape.{◌>>=◌, some_or}
use Rattle.lsif.specs.RequestKinds.{named_by_edge, named_by_vertex}
use Rattle.lsif.specs.Vertices.{vertex_label, vertex_of}
use Rattle.lsif.specs.Edges.{edge_label, edge_in}
use Rattle.lsif.specs.declared.vertices.VertexLabel.TheVariants as vertices
use Rattle.lsif.specs.declared.edges.EdgeLabel.TheVariants as edges
use Rattle.lsif.specs.declared.profile.Profile.{Profile}
use Rattle.lsif.specs.declared.profile.Profile.TheVariants.{One}
use Rattle.lsif.specs.declared.request_kind.RequestKind.{RequestKind}
use Rattle.lsif.specs.declared.request_kind.RequestKind.TheVariants.{Definition, References, Hover}
use Rattle.lsif.specs.declared.code.Code.TheVariants.{L01, L02, L03, L05, L07}

-- ---- the reading of a line; the steps are in the order of their codes

abbrev pub element_by : Profile → List ℕ → IdValue → List ℕ → Data → Reading
element_by profile kind i label d =
    if bytes_eq kind (codes "vertex") then some_or L07 (option_map (vertex i) (vertex_of (vertex_label profile label) d))
    else if bytes_eq kind (codes "edge") then (do
      e ← edge_in (edge_label profile label) d
      Ok (edge i e))
    else Err L05

unfoldable pub element_in : Profile → Data → Reading
element_in profile d = do
  i ← some_or L03 (id_at (codes "id") d)
  kind ← some_or L05 (text_at (codes "type") d)
  label ← some_or L05 (text_at (codes "label") d)
  element_by profile kind i label d

-- the greatest length of a line, in bytes, without its line feed
abbrev pub longest_line : ℕ
longest_line = 1048576

-- the JSON value that a line is, with `serde_json`'s rules for repeated members, nesting and white
-- space
abbrev pub json_of : List ℕ → Option Data
json_of line = if is_utf8 line then read line else None

-- the reading of a line in a profile
unfoldable pub reading : Profile → List ℕ → Reading
reading profile line = if nat_lt longest_line (length line) then Err L01 else (do
  d ← some_or L02 (json_of line)
  element_in profile d)

-- ---- what the profiles share

-- the label of a line, where it is a JSON value that has one
abbrev pub label_in : List ℕ → Option (List ℕ)
label_in line = option_and_then (text_at (codes "label")) (json_of line)

-- the request is of profile 1
abbrev pub IsOfProfileOne : RequestKind → Type 0
IsOfProfileOne kind = (kind ≡ Definition) ⊎ (kind ≡ References) ⊎ (kind ≡ Hover)

-- in profile 1 the text is the label of the request's results, or of the edges that name these
abbrev pub IsLabelInOne : RequestKind → List ℕ → Type 0
IsLabelInOne kind text = (named_by_vertex One text ≡ Some kind) ⊎ (named_by_edge One text ≡ Some kind)

-- the text is a label that profile 2 adds, of a vertex or of an edge
abbrev pub IsAddedLabel : List ℕ → Type 0
IsAddedLabel text =
    (text ≡ codes "declarationResult") ⊎ (text ≡ codes "implementationResult")
    ⊎ (text ≡ codes "textDocument/declaration") ⊎ (text ≡ codes "textDocument/implementation")

-- in profile 1 the text is another label, of a vertex and of an edge
abbrev pub IsOtherLabel : List ℕ → Type 0
IsOtherLabel text = (vertex_label One text ≡ vertices.Other) × (edge_label One text ≡ edges.Other)

-- the line's label, if it has one, is none that profile 2 adds
abbrev pub HasNoAddedLabel : List ℕ → Type 0
HasNoAddedLabel line = IfSome (label_in line) (λ text. ¬ IsAddedLabel text)
