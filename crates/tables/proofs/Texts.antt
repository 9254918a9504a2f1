-- Texts of JSON.
use Rattle.std.proofs.Common.{◌≡◌, [], ◌∷◌, List, map, false, refl}
use Rattle.serde_json.specs.Data.{array}
use Rattle.serde_json.specs.View.{items_of}
use Rattle.serde_json.specs.Written.{has_float, items_have_float}
use Rattle.tags.specs.Values.{FieldValue}
use Rattle.machine.specs.Reply.{field_data}

-- ---- the fields of tags

each_without : (fields : List FieldValue) → items_have_float (items_of (map field_data fields)) ≡ false
each_without [] = refl
each_without (field ∷ fields) = each_without fields

pub fields_without : (fields : List FieldValue) → has_float (array (items_of (map field_data fields))) ≡ false
fields_without fields = rw (each_without fields) refl
