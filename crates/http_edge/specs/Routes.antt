-- The routes, and the route of a path.
use Rattle.std.specs.Prelude.{◌≡◌, ◌≢◌, ℕ, Bool, List, [], ◌∷◌, ◌++◌, Option, Some, None, option_and_then, codes, if◌then◌else◌, ◌==◌}
use Rattle.std.specs.Str.{bytes_eq}
use Rattle.lsif.specs.declared.request_kind.RequestKind.TheVariants.{Definition, References, Hover, Declaration, Implementation}
use Rattle.http_edge.specs.declared.route.Route.{Route}
use Rattle.http_edge.specs.declared.route.Route.TheVariants.{Lsif, Tags, Project, At, Profile, Names, Projects}

-- the method that a route takes (RFC 9110, section 9)
abbrev pub method_of : Route → List ℕ
method_of Lsif = codes "PUT"
method_of Tags = codes "PUT"
method_of Project = codes "DELETE"
method_of (At kind) = codes "GET"
method_of Profile = codes "GET"
method_of Names = codes "GET"
method_of Projects = codes "GET"

-- ---- the form of a path

-- the form of a route's paths: one text; or `/projects/`, a project's name, and a text after it
pub data Form : Type 0 where
  fixed : List ℕ → Form
  of_project : List ℕ → Form

abbrev pub form_of : Route → Form
form_of Lsif = of_project (codes "/lsif")
form_of Tags = of_project (codes "/tags")
form_of Project = of_project []
form_of (At Definition) = of_project (codes "/definition")
form_of (At References) = of_project (codes "/references")
form_of (At Hover) = of_project (codes "/hover")
form_of (At Declaration) = of_project (codes "/declaration")
form_of (At Implementation) = of_project (codes "/implementation")
form_of Profile = of_project (codes "/profile")
form_of Names = fixed (codes "/names")
form_of Projects = fixed (codes "/projects")

-- bytes without a slash
abbrev pub NoSlash : List ℕ → Type 0
NoSlash [] = Unit {0}
NoSlash (b ∷ bytes) = (b ≢ 47) × NoSlash bytes

-- a path of that form, and the project's name in it: a segment that isn't empty (RFC 3986, section
-- 3.3), or no bytes where the form has none
abbrev pub HasForm : Form → List ℕ → List ℕ → Type 0
HasForm (fixed text) project path = (path ≡ text) × (project ≡ [])
HasForm (of_project suffix) project path = (path ≡ codes "/projects/" ++ (project ++ suffix)) × (project ≢ []) × NoSlash project

-- a path of the route, and the project's name in it
abbrev pub IsPathOf : Route → List ℕ → List ℕ → Type 0
IsPathOf route = HasForm (form_of route)

-- ---- the route of a path

abbrev pub all_routes : List Route
all_routes =
    Lsif ∷ Tags ∷ Project ∷ At Definition ∷ At References ∷ At Hover ∷ At Declaration ∷ At Implementation ∷ Profile ∷ Names ∷ Projects ∷ []

-- the bytes up to the first slash, without it
abbrev pub first_segment : List ℕ → List ℕ
first_segment [] = []
first_segment (b ∷ path) = if b == 47 then [] else b ∷ first_segment path

-- the bytes from the first slash on
abbrev pub after_segment : List ℕ → List ℕ
after_segment [] = []
after_segment (b ∷ path) = if b == 47 then b ∷ path else after_segment path

-- what follows that beginning of a path
abbrev pub after_prefix : List ℕ → List ℕ → Option (List ℕ)
after_prefix [] path = Some path
after_prefix (x ∷ prefix) [] = None
after_prefix (x ∷ prefix) (b ∷ path) = if x == b then after_prefix prefix path else None

abbrev pub where_follows : List ℕ → Bool → Option (List ℕ)
where_follows [] follows = None
where_follows (b ∷ segment) follows = if follows then Some (b ∷ segment) else None

-- the first segment, where it isn't empty and the text follows it
abbrev pub segment_before : List ℕ → List ℕ → Option (List ℕ)
segment_before suffix path = where_follows (first_segment path) (bytes_eq (after_segment path) suffix)

-- the project's name in a path of that form
abbrev pub project_in : Form → List ℕ → Option (List ℕ)
project_in (fixed text) path = if bytes_eq path text then Some [] else None
project_in (of_project suffix) path = option_and_then (segment_before suffix) (after_prefix (codes "/projects/") path)

abbrev pub found_or : Route → Option (List ℕ) → Option (Route × List ℕ) → Option (Route × List ℕ)
found_or route None other = other
found_or route (Some project) other = Some (route, project)

-- the first of the routes whose form the path has
abbrev pub route_among : List Route → List ℕ → Option (Route × List ℕ)
route_among [] path = None
route_among (route ∷ routes) path = found_or route (project_in (form_of route) path) (route_among routes path)

-- the route of a path and the project that it names
unfoldable pub route_of : List ℕ → Option (Route × List ℕ)
route_of path = route_among all_routes path
