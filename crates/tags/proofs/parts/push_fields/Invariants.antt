use Rattle.std.proofs.Common.{◌≡◌, ◌+◌, ◌++◌, ◌≤◌, length, option_map}
use Rattle.std.specs.Option.{ForSome, option_map_or}
use Rattle.tags.specs.Steps.Parts.{fields_from}
use Rattle.tags.specs.Views.{part_values}
use Rattle.tags.proofs.parts.push_fields.Given as goal

abbrev pub invariant-loop-rest : goal.invariant-loop-rest
invariant-loop-rest l = record {
  within : ForSome l.rest (λ bs. length bs.now ≤ l.len);
  parts : part_values l.parts.items ++ fields_from l.len (option_map (λ bs. bs.now) l.rest) ≡ part_values l.fn.parts.items ++ fields_from l.len (option_map (λ bs. bs.now) l.fn.fields);
}

abbrev pub decreases-loop-rest : goal.decreases-loop-rest
decreases-loop-rest l = option_map_or (λ bs. length bs.now + 1) l.rest 0
