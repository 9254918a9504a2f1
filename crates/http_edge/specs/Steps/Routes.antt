-- The routes as the router keeps them.
use Rattle.std.specs.Prelude.{ℕ, List, [], ◌∷◌, ◌++◌, Result, Ok, Err, codes}
use Rattle.std.specs.Borrow.{Bor}
use Rattle.matchit.specs.Rows.{RowsOf}
use Rattle.matchit.specs.Order.{placed}
use Rattle.matchit.specs.Route.{Scan, parse_route}
use Rattle.matchit.specs.Router.{RouteOf, route_from}
use Rattle.matchit.specs.declared.error.InsertError.{InsertError}
use Rattle.http_edge.specs.declared.route.Route.{Route}
use Rattle.http_edge.specs.Routes.{Form, fixed, of_project, form_of, all_routes}

-- a route and the text of its project
abbrev pub named_route : Route × Bor (List ℕ) → Route × List ℕ
named_route found = (found.0, found.1.now)

-- the form as the router reads it
abbrev pub template_text : Form → List ℕ
template_text (fixed text) = text
template_text (of_project suffix) = codes "/projects/{p}" ++ suffix

abbrev pub template_of : Route → List ℕ
template_of route = template_text (form_of route)

-- the rows with one more route
abbrev pub with_scan : Result Scan InsertError → Route → RowsOf (RouteOf Route) → RowsOf (RouteOf Route)
with_scan (Ok s) value rows = placed (s.pattern, route_from s value) rows
with_scan (Err e) value rows = rows

abbrev pub with_route : Route → RowsOf (RouteOf Route) → RowsOf (RouteOf Route)
with_route route rows = with_scan (parse_route (template_of route)) route rows

-- the rows with these routes
abbrev pub with_routes : List Route → RowsOf (RouteOf Route) → RowsOf (RouteOf Route)
with_routes [] rows = rows
with_routes (route ∷ rest) rows = with_routes rest (with_route route rows)

-- the routes as the router keeps them
unfoldable pub routes : RowsOf (RouteOf Route)
routes = with_routes all_routes []
