-- What fields say, or the least of T05 and T07.
use Rattle.std.specs.Prelude.{ℕ, List, slice_get, Result, Ok, Err, if◌then◌else◌}
use Rattle.std.specs.List.{list_any, filter_map}
use Rattle.tags.specs.Fields.{has_bad_escape, has_bad_fields, kind_in, other_in}
use Rattle.tags.specs.Values.{FieldValue, FieldsValue}
use Rattle.tags.specs.declared.code.Code.{Code}
use Rattle.tags.specs.declared.code.Code.TheVariants.{T05, T07}

abbrev pub fields_by : List (List ℕ) → List FieldValue → FieldsValue
fields_by kinds others = record { kind = slice_get kinds 0; others = others }

-- what the fields say: the kind, of which there is one at most, and the others in order
unfoldable pub fields_of : List (List ℕ) → Result FieldsValue Code
fields_of fields =
    if list_any has_bad_escape fields then Err T05
    else if has_bad_fields fields then Err T07
    else Ok (fields_by (filter_map kind_in fields) (filter_map other_in fields))
