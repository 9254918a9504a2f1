-- What a request asks of the desk, by its method, its target and its body.
use Rattle.std.specs.Prelude.{ℕ, Bool, true, false, List, [], ◌∷◌, length, Option, Some, None, codes, option_map, option_and_then, if◌then◌else◌, ◌==◌, ◌&&◌, not}
use Rattle.std.specs.Str.{is_utf8, bytes_eq}
use Rattle.url.specs.Parser.{parse_url}
use Rattle.positions.specs.Position.{PositionValue}
use Rattle.lsif.specs.Profiles.{profile_named}
use Rattle.lsif.specs.Vertices.{serialized}
use Rattle.lsif.specs.declared.profile.Profile as profiles
use Rattle.lsif.specs.declared.profile.Profile.TheVariants.{One}
use Rattle.machine.specs.Names.{is_project_name, is_key, is_without_nul, where_so, number_in}
use Rattle.machine.specs.Requests.{ActionValue, put_dump, put_tags, remove, DocumentPositionValue, at_value, QueryValue, position_query, references, names, prefix, projects, profile, RequestValue, CommandValue}
use Rattle.machine.specs.Requests as requests
use Rattle.lsif.specs.declared.request_kind.RequestKind.{RequestKind}
use Rattle.lsif.specs.declared.request_kind.RequestKind.TheVariants.{References}
use Rattle.http_edge.specs.Values.{Values, absent, single, several}
use Rattle.http_edge.specs.Parameters.{parameter, parameters}
use Rattle.http_edge.specs.Routes.{route_of, method_of}
use Rattle.http_edge.specs.declared.route.Route.{Route}
use Rattle.http_edge.specs.declared.route.Route.TheVariants as routes
use Rattle.http_edge.specs.declared.refusal.Refusal.{Refusal}
use Rattle.http_edge.specs.declared.refusal.Refusal.TheVariants.{NoSuchRoute, MethodNotAllowed, BadParameter}

-- a message of a stream: a request of the desk, or a refusal
pub data MessageValue : Type 0 where
  request : RequestValue → MessageValue
  refused : Refusal → MessageValue

-- a target up to its first `?`, and what follows that (RFC 9112, section 3.2.1)
abbrev pub path_in : List ℕ → List ℕ
path_in [] = []
path_in (b ∷ target) = if b == 63 then [] else b ∷ path_in target

abbrev pub query_in : List ℕ → List ℕ
query_in [] = []
query_in (b ∷ target) = if b == 63 then target else query_in target

-- ---- parameters of a form

-- a parameter that has to be there once
abbrev pub required : {A : Type 0} → (List ℕ → Option A) → Values → Option A
required form absent = None
required form (single text) = form text
required form several = None

-- a parameter that may be there once, and has a default where it isn't there
abbrev pub optional : {A : Type 0} → A → (List ℕ → Option A) → Values → Option A
optional default form absent = Some default
optional default form (single text) = form text
optional default form several = None

-- both, where both are there
abbrev pub both : {A B : Type 0} → Option A → Option B → Option (A × B)
both (Some a) (Some b) = Some (a, b)
both (Some a) None = None
both None b = None

-- the name of a project that a text is
abbrev pub project_name : List ℕ → Option (List ℕ)
project_name = where_so is_project_name

-- the serialized URL that a text spells, which has no U+0000
unfoldable pub url_in : List ℕ → Option (List ℕ)
url_in text = option_and_then (where_so is_without_nul) (serialized (parse_url None text))

abbrev pub yes_or_no : List ℕ → Option Bool
yes_or_no text = if bytes_eq text (codes "yes") then Some true else (if bytes_eq text (codes "no") then Some false else None)

-- a text that isn't empty and has no U+0000
abbrev pub is_tag_text : List ℕ → Bool
is_tag_text text = not (length text == 0) && is_without_nul text

abbrev pub key_in : List (List ℕ × List ℕ) → Option (List ℕ)
key_in pairs = required (where_so is_key) (parameter (codes "key") pairs)

-- profile 1 where none is named
abbrev pub profile_in : List (List ℕ × List ℕ) → Option profiles.Profile
profile_in pairs = optional One profile_named (parameter (codes "profile") pairs)

abbrev pub uri_in : List (List ℕ × List ℕ) → Option (List ℕ)
uri_in pairs = required url_in (parameter (codes "uri") pairs)

abbrev pub position_of : ℕ × ℕ → PositionValue
position_of (line, character) = record { line = line; character = character }

abbrev pub position_in : List (List ℕ × List ℕ) → Option PositionValue
position_in pairs =
    option_map position_of (both (required number_in (parameter (codes "line") pairs)) (required number_in (parameter (codes "character") pairs)))

-- the declaration is asked for unless the parameter says otherwise
abbrev pub declaration_in : List (List ℕ × List ℕ) → Option Bool
declaration_in pairs = optional true yes_or_no (parameter (codes "declaration") pairs)

-- one project, or all where none is named
abbrev pub searched_in : List (List ℕ × List ℕ) → Option (Option (List ℕ))
searched_in pairs = optional None (λ text. option_map Some (project_name text)) (parameter (codes "project") pairs)

-- ---- requests of parameters

abbrev pub command_of : ActionValue → List ℕ × List ℕ → RequestValue
command_of action (project, key) = requests.command (record { project = project; key = key; action = action })

abbrev pub dump_put : List ℕ → List ℕ × (List ℕ × profiles.Profile) → RequestValue
dump_put body (project, (key, by)) = command_of (put_dump by body) (project, key)

abbrev pub place_of : List ℕ × (List ℕ × PositionValue) → DocumentPositionValue
place_of (project, (uri, position)) = at_value project uri position

-- a position in a document of a project
abbrev pub place_in : List ℕ → List (List ℕ × List ℕ) → Option DocumentPositionValue
place_in project pairs = option_map place_of (both (project_name project) (both (uri_in pairs) (position_in pairs)))

abbrev pub references_of : DocumentPositionValue × Bool → QueryValue
references_of (place, declared) = references place declared

-- the query of that kind at a position; one for references has a parameter more
abbrev pub query_at : RequestKind → List ℕ → List (List ℕ × List ℕ) → Option QueryValue
query_at References project pairs = option_map references_of (both (place_in project pairs) (declaration_in pairs))
query_at kind project pairs = option_map (position_query kind) (place_in project pairs)

abbrev pub names_of : List ℕ × Option (List ℕ) → QueryValue
names_of (name, project) = names name project

abbrev pub prefix_of : List ℕ × Option (List ℕ) → QueryValue
prefix_of (start, project) = prefix start project

-- exactly one of a name and a prefix, in one project or in all
abbrev pub tags_of : Values → Values → Option (Option (List ℕ)) → Option QueryValue
tags_of (single name) absent project = option_map names_of (both (where_so is_tag_text name) project)
tags_of absent (single start) project = option_map prefix_of (both (where_so is_tag_text start) project)
tags_of name start project = None

-- the request of a route, with the text of its project, its parameters and its body
unfoldable pub request_of : Route → List ℕ → List (List ℕ × List ℕ) → List ℕ → Option RequestValue
request_of routes.Lsif project pairs body = option_map (dump_put body) (both (project_name project) (both (key_in pairs) (profile_in pairs)))
request_of routes.Tags project pairs body = option_map (command_of (put_tags body)) (both (project_name project) (key_in pairs))
request_of routes.Project project pairs body = option_map (command_of remove) (both (project_name project) (key_in pairs))
request_of (routes.At kind) project pairs body = option_map requests.query (query_at kind project pairs)
request_of routes.Profile project pairs body = option_map requests.query (option_map profile (project_name project))
request_of routes.Names project pairs body =
    option_map requests.query (tags_of (parameter (codes "name") pairs) (parameter (codes "prefix") pairs) (searched_in pairs))
request_of routes.Projects project pairs body = Some (requests.query projects)

abbrev pub with_form : Option RequestValue → MessageValue
with_form None = refused BadParameter
with_form (Some asked) = request asked

abbrev pub with_method : Bool → Route → Option RequestValue → MessageValue
with_method true route asked = with_form asked
with_method false route asked = refused (MethodNotAllowed route)

abbrev pub with_route : Option (Route × List ℕ) → List ℕ → List ℕ → List ℕ → MessageValue
with_route None method query body = refused NoSuchRoute
with_route (Some found) method query body =
    with_method (bytes_eq method (method_of found.0)) found.0 (request_of found.0 found.1 (parameters query) body)

-- the route of a path that is text
abbrev pub route_in : List ℕ → Option (Route × List ℕ)
route_in path = if is_utf8 path then route_of path else None

-- what a method, a target and a body ask
unfoldable pub message_of : List ℕ → List ℕ → List ℕ → MessageValue
message_of method target body = with_route (route_in (path_in target)) method (query_in target) body
