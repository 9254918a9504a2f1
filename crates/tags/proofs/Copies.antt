-- Copies of fields say what the fields say.
use Rattle.std.proofs.Common.{◌≡◌, List, [], ◌∷◌, map, refl}
use Rattle.std.specs.List.{AllZip}
use Rattle.tags.specs.declared.tag.Field.{Field}
use Rattle.tags.specs.Views.{field_value}

pub fields_same : (fields copies : List Field) → AllZip (λ (f g : Field). field_value g ≡ field_value f) fields copies → map field_value copies ≡ map field_value fields
fields_same [] [] e = refl
fields_same [] (g ∷ copies) e = absurd e
fields_same (f ∷ fields) [] e = absurd e
fields_same (f ∷ fields) (g ∷ copies) e = λ i. e.0 i ∷ fields_same fields copies e.1 i
