use Rattle.std.proofs.Common.{◌≡◌, ◌⊎◌, length, map}
use Rattle.std.specs.Prelude.{◌↔◌, Contains}
use Rattle.dump.specs.Places.{PlaceValue}
use Rattle.machine.specs.Selections.{item_found}
use Rattle.machine.specs.Reply.{FoundPlace}
use Rattle.machine.specs.Steps.Places.{found_in}
use Rattle.desk.specs.Steps.RowPlaces.{item_place}
use Rattle.desk.proofs.Popped.{IsLeft}
use Rattle.desk.proofs.rows.places.add_items.Given as goal

abbrev pub invariant-loop-item : goal.invariant-loop-item
invariant-loop-item l =
    let Makes = λ (item : PlaceValue) (place : FoundPlace). found_in l.project item ≡ place in
    (place : FoundPlace) →
    (Contains (map item_place l.found.items) place ⊎ IsLeft item_found Makes l.items.items place) ↔ (Contains (map item_place l.fn.found.items) place ⊎ IsLeft item_found Makes l.fn.items.items place)

abbrev pub decreases-loop-item : goal.decreases-loop-item
decreases-loop-item l = length l.items.items
