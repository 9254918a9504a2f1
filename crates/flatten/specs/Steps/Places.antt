-- Places of ranges without where they lie in memory.
use Rattle.std.specs.Prelude.{◌≡◌, ℕ}
use Rattle.positions.specs.Position.{PositionValue}
use Rattle.dump.specs.Places.{PlaceValue}
use Rattle.flatten.specs.declared.places.Place.{Place}
use Rattle.flatten.specs.declared.places.Point.{Point}

abbrev pub place_value : Place → PlaceValue
place_value p = record { uri = p.key.uri.now; span = p.span.now }

-- the number of a result, and the place of an item
abbrev pub placed_value : ℕ × Place → ℕ × PlaceValue
placed_value p = (p.0, place_value p.1)

-- ---- the numbers that are in a place

abbrev pub point_value : Point → PositionValue
point_value p = record { line = p.line; character = p.character }

-- the place that the numbers say
abbrev pub by_numbers : Place → PlaceValue
by_numbers p = record { uri = p.key.uri.now; span = record { start = point_value p.key.start; «end» = point_value p.key.«end» } }

-- the numbers are those of the span
abbrev pub IsNumbered : Place → Type 0
IsNumbered p = by_numbers p ≡ place_value p

-- the place by its span and by its numbers
abbrev pub place_values : Place → PlaceValue × PlaceValue
place_values p = (place_value p, by_numbers p)

abbrev pub placed_values : ℕ × Place → ℕ × (PlaceValue × PlaceValue)
placed_values p = (p.0, place_values p.1)

abbrev pub twice : PlaceValue → PlaceValue × PlaceValue
twice place = (place, place)
