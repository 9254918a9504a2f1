-- The texts of lists, made item by item.
use Rattle.std.proofs.Common.{◌≡◌, ◌∙◌, ◌++◌, ℕ, Bool, true, false, List, codes, map, ap, append_assoc, refl}
use Rattle.serde_json.specs.Data.{Data, Items, item}
use Rattle.serde_json.specs.View.{items_of}
use Rattle.serde_json.specs.Written.{comma_if, compact_text, items_text}
use Rattle.serde_json.proofs.OnLiterals.{serde_json_on_literals}
use Rattle.machine.specs.FoundTags.{FoundTag}
use Rattle.machine.specs.Reply.{FoundPlace, place_data, places_data, tag_data, tags_data}

-- one item more
pub list_step : (text new : List ℕ) (later : Bool) (d : Data) (rest : Items) (last whole : List ℕ) → new ≡ text ++ (comma_if later ++ compact_text d)
    → text ++ (items_text later (item d rest) ++ last) ≡ whole → new ++ (items_text true rest ++ last) ≡ whole
list_step text new later d rest last whole is was =
    let moved : (text ++ (comma_if later ++ compact_text d)) ++ (items_text true rest ++ last) ≡ text ++ (items_text later (item d rest) ++ last) = simp append_assoc refl in
    ap (λ t. t ++ (items_text true rest ++ last)) is ∙ (moved ∙ was)

-- the text of all of them
pub places_text : (places : List FoundPlace) → compact_text (places_data places) ≡ codes "{\"places\":[" ++ (items_text false (items_of (map place_data places)) ++ codes "}")
unfolding serde_json_on_literals
places_text places = refl

pub tags_text : (tags : List FoundTag) → compact_text (tags_data tags) ≡ codes "{\"tags\":[" ++ (items_text false (items_of (map tag_data tags)) ++ codes "}")
unfolding serde_json_on_literals
tags_text tags = refl
