use Rattle.std.proofs.Common.{◌≡◌, ◌++◌, map, drop}
use Rattle.serde_json.specs.View.{view}
use Rattle.tags.specs.Views.{field_value}
use Rattle.machine.specs.Reply.{field_data}
use Rattle.machine.proofs.bodies.field_list.Given as goal

abbrev pub invariant-loop-field : goal.invariant-loop-field
invariant-loop-field l =
    map view l.list.items ++ map field_data (map field_value (drop l.field-index l.fields)) ≡ map field_data (map field_value l.fields)
