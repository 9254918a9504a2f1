use Rattle.std.proofs.Common.{◌≡◌, ℕ, List, Option, ◌+◌, length, option_map}
use Rattle.std.specs.Option.{option_map_or}
use Rattle.tags.specs.Steps.Cutting.{each_field}
use Rattle.tags.specs.Steps.Fields.{fields_of}
use Rattle.tags.specs.Steps.Gathering.{Stands, gathered}
use Rattle.tags.specs.Values.{FieldValue}
use Rattle.tags.proofs.fields.fields_code.Given as goal

abbrev pub invariant-loop-rest : goal.invariant-loop-rest
invariant-loop-rest l =
    (kind : Option (List ℕ)) × (others : List FieldValue) × Stands l.noted kind
    × (gathered l.noted.good kind others (each_field (option_map (λ bs. bs.now) l.rest)) ≡ fields_of (each_field (option_map (λ bs. bs.now) l.fn.fields)))

abbrev pub decreases-loop-rest : goal.decreases-loop-rest
decreases-loop-rest l = option_map_or (λ bs. length bs.now + 1) l.rest 0
