use Rattle.std.proofs.Common.{◌≡◌, ◌++◌, false, map, drop, codes, string_bytes}
use Rattle.serde_json.specs.View.{items_of}
use Rattle.serde_json.specs.Written.{items_text}
use Rattle.machine.specs.Reply.{place_data}
use Rattle.desk.specs.Steps.RowPlaces.{item_place}
use Rattle.desk.proofs.rows.places.places_reply.Given as goal

abbrev pub invariant-loop-place : goal.invariant-loop-place
invariant-loop-place l =
    string_bytes l.text ++ (items_text l.later (items_of (map place_data (map item_place (drop l.place-index l.places)))) ++ codes "}")
    ≡ codes "{\"places\":[" ++ (items_text false (items_of (map place_data (map item_place l.places))) ++ codes "}")
