use Rattle.std.proofs.Common.{◌∙◌, ap}
use Rattle.serde_json.specs.Written.{has_float}
use Rattle.machine.specs.Found.{tag_found}
use Rattle.machine.proofs.Floats.{tag_without}
use Rattle.machine.proofs.bodies.add_tag.Goals as goal

pub add_item-requires : goal.add_item-requires
add_item-requires c = ap has_float c.in_ok-value.ensures ∙ tag_without (tag_found c.args.found.now)
