-- The places that the walk gathers are those of the results.
use Rattle.std.proofs.Common.{◌≡◌, ◌∙◌, true, List, [], refl, sym, ap, subst}
use Rattle.std.specs.Prelude.{◌↔◌, Contains, Option, Some, None}
use Rattle.positions.specs.Span.{SpanValue}
use Rattle.lsif.specs.Element.{IdValue, VertexValue, meta_data, project, document, range, result_set, request_result, hover_result, moniker, package_information, event, other_vertex, ElementValue}
use Rattle.dump.specs.Graph.{vertex_at}
use Rattle.dump.specs.Contained.{is_in, container}
use Rattle.dump.specs.Places.{PlaceValue, IsAt}
use Rattle.dump.specs.declared.role.Role.{Role}
use Rattle.dump.specs.declared.role.Role.TheVariants as roles
use Rattle.machine.specs.Steps.Places.{places_at, places_in, places_spanned, places_of_range, same_role, is_wanted}
use Rattle.streams.proofs.Members.{contains_head, contains_one, not_in_nil, any_of, any_from}

-- ---- the places of a range

at_to : (v : Option VertexValue) (span : SpanValue) (place : PlaceValue) → Contains (places_at v span) place → (v ≡ Some (document place.uri)) × (span ≡ place.span)
at_to None span place at = absurd (not_in_nil place at)
at_to (Some (document uri)) span place at =
    let this : PlaceValue = record { uri = uri; span = span } in
    let same : this ≡ place = contains_one this place at in
    (ap (λ z. Some (document z.uri)) same, ap (λ z. z.span) same)
at_to (Some (meta_data b)) span place at = absurd (not_in_nil place at)
at_to (Some project) span place at = absurd (not_in_nil place at)
at_to (Some (range s)) span place at = absurd (not_in_nil place at)
at_to (Some result_set) span place at = absurd (not_in_nil place at)
at_to (Some (request_result kind)) span place at = absurd (not_in_nil place at)
at_to (Some (hover_result t)) span place at = absurd (not_in_nil place at)
at_to (Some (moniker m)) span place at = absurd (not_in_nil place at)
at_to (Some (package_information p)) span place at = absurd (not_in_nil place at)
at_to (Some (event v)) span place at = absurd (not_in_nil place at)
at_to (Some other_vertex) span place at = absurd (not_in_nil place at)

at_from : (v : Option VertexValue) (place : PlaceValue) → v ≡ Some (document place.uri) → Contains (places_at v place.span) place
at_from v place e = subst (λ w. Contains (places_at w place.span) place) (sym e) (contains_head place [])

-- what is known of the containers of a dump's ranges
abbrev pub HasContainers : List ElementValue → Type 0
HasContainers d = (v r : IdValue) → (is_in d v r ≡ true) ↔ (container d r ≡ Some v)

placed_to : (d : List ElementValue) → HasContainers d → (r : IdValue) (span : SpanValue) (place : PlaceValue) (o : Option IdValue) → container d r ≡ o
    → Contains (places_in d span o) place → vertex_at d r ≡ Some (range span) → IsAt d r place
placed_to d law r span place None e at is = absurd (not_in_nil place at)
placed_to d law r span place (Some v) e at is =
    let p = at_to (vertex_at d v) span place at in
    record { container = v; uri = p.0; contained = (law v r).1 e; span = is ∙ ap (λ s. Some (range s)) p.1 }

pub spanned_to : (d : List ElementValue) → HasContainers d → (r : IdValue) (place : PlaceValue) (v : Option VertexValue) → vertex_at d r ≡ v → Contains (places_spanned d r v) place → IsAt d r place
spanned_to d law r place None is at = absurd (not_in_nil place at)
spanned_to d law r place (Some (range span)) is at = placed_to d law r span place (container d r) refl at is
spanned_to d law r place (Some (document s)) is at = absurd (not_in_nil place at)
spanned_to d law r place (Some (meta_data b)) is at = absurd (not_in_nil place at)
spanned_to d law r place (Some project) is at = absurd (not_in_nil place at)
spanned_to d law r place (Some result_set) is at = absurd (not_in_nil place at)
spanned_to d law r place (Some (request_result kind)) is at = absurd (not_in_nil place at)
spanned_to d law r place (Some (hover_result t)) is at = absurd (not_in_nil place at)
spanned_to d law r place (Some (moniker m)) is at = absurd (not_in_nil place at)
spanned_to d law r place (Some (package_information p)) is at = absurd (not_in_nil place at)
spanned_to d law r place (Some (event v)) is at = absurd (not_in_nil place at)
spanned_to d law r place (Some other_vertex) is at = absurd (not_in_nil place at)

pub range_from : (d : List ElementValue) → HasContainers d → (r : IdValue) (place : PlaceValue) → IsAt d r place → Contains (places_of_range d r) place
range_from d law r place there =
    subst (λ v. Contains (places_spanned d r v) place) (sym there.span)
    (subst (λ o. Contains (places_in d place.span o) place) (sym ((law there.container r).0 there.contained)) (at_from (vertex_at d there.container) place there.uri))

-- ---- the roles and the results that are asked

pub role_self : (r : Role) → same_role r r ≡ true
role_self roles.Definitions = refl
role_self roles.References = refl

pub role_eq : (r s : Role) → same_role r s ≡ true → r ≡ s
role_eq roles.Definitions roles.Definitions e = refl
role_eq roles.References roles.References e = refl
role_eq roles.Definitions roles.References e = cc
role_eq roles.References roles.Definitions e = cc

pub wanted_to : (in_roles : List Role) (o : Option Role) → is_wanted in_roles o ≡ true → (role : Role) × (o ≡ Some role) × Contains in_roles role
wanted_to in_roles None e = cc
wanted_to in_roles (Some role) e =
    let a = any_of (λ r. same_role r role) in_roles e in
    (role, refl, subst (Contains in_roles) (role_eq a.0 role a.2) a.1)

pub wanted_from : (in_roles : List Role) (o : Option Role) (role : Role) → o ≡ Some role → Contains in_roles role → is_wanted in_roles o ≡ true
wanted_from in_roles o role e at = ap (is_wanted in_roles) e ∙ any_from (λ r. same_role r role) in_roles role at (role_self role)
