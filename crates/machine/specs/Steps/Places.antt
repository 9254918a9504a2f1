-- The places of ranges, element by element, and tests of roles.
use Rattle.std.specs.Prelude.{ℕ, Bool, true, false, List, [], ◌∷◌, Option, Some, None}
use Rattle.std.specs.List.{list_any}
use Rattle.positions.specs.Span.{SpanValue}
use Rattle.lsif.specs.Element.{IdValue, VertexValue, document, range, ElementValue}
use Rattle.dump.specs.Graph.{vertex_at}
use Rattle.dump.specs.Contained.{container}
use Rattle.dump.specs.Places.{PlaceValue}
use Rattle.dump.specs.declared.role.Role.{Role}
use Rattle.dump.specs.declared.role.Role.TheVariants.{Definitions, References}
use Rattle.machine.specs.Reply.{FoundPlace}

-- the span in the document that the vertex is
abbrev pub places_at : Option VertexValue → SpanValue → List PlaceValue
places_at (Some (document uri)) span = record { uri = uri; span = span } ∷ []
places_at (Some v) span = []
places_at None span = []

-- the span in the document of this id, where there is one
abbrev pub places_in : List ElementValue → SpanValue → Option IdValue → List PlaceValue
places_in elements span (Some d) = places_at (vertex_at elements d) span
places_in elements span None = []

abbrev pub places_spanned : List ElementValue → IdValue → Option VertexValue → List PlaceValue
places_spanned elements r (Some (range span)) = places_in elements span (container elements r)
places_spanned elements r (Some v) = []
places_spanned elements r None = []

-- the place of the range
abbrev pub places_of_range : List ElementValue → IdValue → List PlaceValue
places_of_range elements r = places_spanned elements r (vertex_at elements r)

abbrev pub same_role : Role → Role → Bool
same_role Definitions Definitions = true
same_role References References = true
same_role a b = false

-- whether there is a role, and it's one of these
abbrev pub is_wanted : List Role → Option Role → Bool
is_wanted in_roles (Some role) = list_any (λ r. same_role r role) in_roles
is_wanted in_roles None = false

abbrev pub found_in : List ℕ → PlaceValue → FoundPlace
found_in project place = record { project = project; place = place }
