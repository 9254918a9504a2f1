use Rattle.std.proofs.Common.{◌≡◌, ◌++◌, false, map, drop, codes, string_bytes}
use Rattle.serde_json.specs.View.{items_of}
use Rattle.serde_json.specs.Written.{items_text}
use Rattle.machine.specs.Found.{tag_found}
use Rattle.machine.specs.Reply.{tag_data}
use Rattle.machine.proofs.bodies.tags_found.Given as goal

abbrev pub invariant-loop-found : goal.invariant-loop-found
invariant-loop-found l =
    string_bytes l.text ++ (items_text l.later (items_of (map tag_data (map tag_found (drop l.found-index l.tags)))) ++ codes "}")
    ≡ codes "{\"tags\":[" ++ (items_text false (items_of (map tag_data (map tag_found l.tags))) ++ codes "}")
