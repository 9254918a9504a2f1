-- Fields read one after the other.
use Rattle.std.specs.Prelude.{◌≡◌, ℕ, ◌++◌, ◌||◌, ◌∷◌, Bool, not, nat_lt, List, length, map, Option, None, option_map, string_bytes, is_some, Result, Ok, Err, true, false, if◌then◌else◌}
use Rattle.std.specs.List.{list_any, filter_map}
use Rattle.std.specs.Option.{option_to_list}
use Rattle.tags.specs.Steps.Faults.{fault_in}
use Rattle.tags.specs.Steps.Fields.{fields_by}
use Rattle.tags.specs.Fields.{has_bad_escape, is_bad_field, kind_in, other_in}
use Rattle.tags.specs.Values.{FieldValue, FieldsValue}
use Rattle.tags.specs.Views.{field_value}
use Rattle.tags.specs.declared.code.Code.{Code}
use Rattle.tags.specs.declared.code.Code.TheVariants.{T05, T07}
use Rattle.tags.specs.declared.fields.Gathered.{Gathered}
use Rattle.tags.specs.declared.fields.Noted.{Noted}

-- the kind so far, and those of the fields to come
abbrev pub kinds_with : Option (List ℕ) → List (List ℕ) → List (List ℕ)
kinds_with kind rest = option_to_list kind ++ filter_map kind_in rest

-- what all fields say, where those so far are good or not and gave a kind and others
unfoldable pub gathered : Bool → Option (List ℕ) → List FieldValue → List (List ℕ) → Result FieldsValue Code
gathered good kind others rest =
    if list_any has_bad_escape rest then Err T05
    else if not good || (list_any is_bad_field rest || nat_lt 1 (length (kinds_with kind rest))) then Err T07
    else Ok (fields_by (kinds_with kind rest) (others ++ filter_map other_in rest))

-- the same where none so far was faulty, and this was gathered
abbrev pub gathered_in : Gathered → List (List ℕ) → Result FieldsValue Code
gathered_in g rest = gathered true (option_map (λ s. string_bytes s) g.kind) (map field_value g.others.items) rest

-- what a call says of what was gathered before it and after it: fields without fault say what they
-- said
abbrev pub Gathers : Gathered → Gathered → List ℕ → Type 0
Gathers old new field =
    (rest : List (List ℕ)) → fault_in (gathered_in old (field ∷ rest)) ≡ None → gathered_in new rest ≡ gathered_in old (field ∷ rest)

-- ---- the fields' code, where they aren't gathered

-- there is a kind or not, as was noted
abbrev pub Stands : Noted → Option (List ℕ) → Type 0
Stands n kind = is_some kind ≡ n.has_kind

-- what a call says of the notes before it and after it: that the field leads to some kind, as is
-- noted then, and others; or that it has a bad escape
abbrev pub Notes : Bool → Noted → Noted → List ℕ → Type 0
Notes true old new field =
    (kind : Option (List ℕ)) (others : List FieldValue) → Stands old kind
    → (kind' : Option (List ℕ)) × (others' : List FieldValue) × Stands new kind'
    × ((rest : List (List ℕ)) → gathered new.good kind' others' rest ≡ gathered old.good kind others (field ∷ rest))
Notes false old new field =
    (kind : Option (List ℕ)) (others : List FieldValue) (rest : List (List ℕ)) → gathered old.good kind others (field ∷ rest) ≡ Err T05
