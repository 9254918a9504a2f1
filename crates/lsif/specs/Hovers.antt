-- What hovers show, as it's kept: compact JSON of the members that are named, in the order of their
-- names' bytes (LSIF 0.6.0, "hoverResult"; Language Server Protocol 3.17, "Hover", "MarkedString",
-- "MarkupContent").
use Rattle.std.specs.Prelude.{ℕ, ◌||◌, Bool, List, codes, bytes_eq, Option, Some, None, is_some, option_map, option_and_then, if◌then◌else◌}
use Rattle.serde_json.specs.Data.{Data, string, array, object, Items, member, no_members}
use Rattle.serde_json.specs.Find.{get, as_str, as_array}
use Rattle.serde_json.specs.View.{items_of}
use Rattle.serde_json.specs.Written.{compact_text}
use Rattle.lsif.specs.Ids.{each_in, text_at}

-- a text in a language, with the language's name
abbrev pub code : List ℕ → List ℕ → Data
code language text = object (member (codes "language") (string language) (member (codes "value") (string text) no_members))

unfoldable pub code_in : Data → Option Data
code_in d =
    option_and_then (λ language. option_map (code language) (text_at (codes "value") d))
    (text_at (codes "language") d)

-- a text, with whether it's Markdown
abbrev pub markup : List ℕ → List ℕ → Data
markup kind text = object (member (codes "kind") (string kind) (member (codes "value") (string text) no_members))

abbrev pub is_markup_kind : List ℕ → Bool
is_markup_kind kind = bytes_eq kind (codes "plaintext") || bytes_eq kind (codes "markdown")

unfoldable pub markup_in : Data → Option Data
markup_in d =
    option_and_then (λ kind. if is_markup_kind kind then option_map (markup kind) (text_at (codes "value") d) else None)
    (text_at (codes "kind") d)

abbrev pub marked_by : Option (List ℕ) → Data → Option Data
marked_by (Some text) d = Some (string text)
marked_by None d = code_in d

-- a text, or a text in a language
unfoldable pub marked_in : Data → Option Data
marked_in d = marked_by (as_str d) d

abbrev pub marked_strings_in : Items → Option Items
marked_strings_in ds = option_map items_of (each_in marked_in ds)

abbrev pub contents_by : Option Items → Data → Option Data
contents_by (Some ds) d = option_map array (marked_strings_in ds)
contents_by None d = if is_some (get (codes "kind") d) then markup_in d else marked_in d

-- what is kept of the contents of a hover: of an array the texts, with their languages where they
-- have some; of an object with a kind that and its text; else a text, with its language where it
-- has one
unfoldable pub contents_in : Data → Option Data
contents_in d = contents_by (as_array d) d

-- the contents of a hover
unfoldable pub hover_in : Data → Option (List ℕ)
hover_in d =
    option_map compact_text
    (option_and_then contents_in (option_and_then (get (codes "contents")) (get (codes "result") d)))
