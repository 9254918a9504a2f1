use Rattle.std.proofs.Common.{◌≡◌, ◌+◌, length, option_map, IsUtf8}
use Rattle.std.specs.Option.{ForSome, option_map_or}
use Rattle.tags.specs.Steps.Cutting.{each_field}
use Rattle.tags.specs.Steps.Fields.{fields_of}
use Rattle.tags.specs.Steps.Gathering.{gathered_in}
use Rattle.tags.proofs.fields.gather.Given as goal

abbrev pub invariant-loop-rest : goal.invariant-loop-rest
invariant-loop-rest l = record {
  text : ForSome l.rest (λ bs. IsUtf8 bs.now);
  fields : gathered_in l.found (each_field (option_map (λ bs. bs.now) l.rest)) ≡ fields_of (each_field (option_map (λ bs. bs.now) l.fn.fields));
}

abbrev pub decreases-loop-rest : goal.decreases-loop-rest
decreases-loop-rest l = option_map_or (λ bs. length bs.now + 1) l.rest 0
