-- The route that the router finds for a path, and the parameter that it returns.
use Rattle.std.proofs.Common.{◌≡◌, ◌≢◌, ℕ, suc, ◌+◌, ◌-◌, ◌<◌, ◌≤◌, ◌⊎◌, inl, inr, zero, Bool, true, false, List, [], ◌∷◌, ◌++◌, length, length-append, append-nil, drop, drop-cons, add-one, get_or, Result, Ok, Err, Option, Some, None, option_map, unwrap_or, MatchOption, refl, sym, ◌∙◌, ap, subst, arith, codes, nat_eq, is_some, IsAscii}
use Rattle.std.specs.Prelude.{◌==◌, ◌&&◌, if◌then◌else◌, option_and_then}
use lib.Utf8.{encode}
use Rattle.std.specs.Borrow.{Bor}
use Rattle.std.specs.Cmp.Lexicographic.{pointwise}
use Rattle.std.specs.Str.{IsUtf8, bytes_eq}
use Rattle.std.proofs.Math.Seq.{take-append_seam}
use Rattle.std.proofs.lemmas.Slice.Eq.{bytes_eq-Decides}
use Rattle.std.proofs.lemmas.Bool.{lt-ltb, le-leb, eqb-true}
use Rattle.std.proofs.lemmas.Str.{IsUtf8-between, IsUtf8-from_ascii, IsCharBoundary-after_ascii, IsCharBoundary-at_seam}
use Rattle.matchit.specs.Rows.{RowsOf, param_token}
use Rattle.matchit.specs.Order.{lookup}
use Rattle.matchit.specs.Params.{walk, wild_from, wild_stop, part_of, named, AllText}
use Rattle.matchit.specs.Seek.{first, slash}
use Rattle.matchit.specs.Route.{Scan, parse_route}
use Rattle.matchit.specs.Router.{RouteOf, InsertsRead}
use Rattle.matchit.specs.declared.error.InsertError.{InsertError}
use Rattle.matchit.proofs.OnLiterals.{matchit_on_literals}
use Rattle.lsif.specs.declared.request_kind.RequestKind.TheVariants.{Definition}
use Rattle.http_edge.specs.Steps.Routes.{routes, template_text, template_of, with_scan, with_routes}
use Rattle.http_edge.specs.Routes.{Form, fixed, of_project, form_of, HasForm, IsPathOf, NoSlash, all_routes, first_segment, after_segment, after_prefix, where_follows, segment_before, project_in, found_or, route_among, route_of}
use Rattle.http_edge.specs.declared.route.Route.{Route}
use Rattle.http_edge.specs.declared.route.Route.TheVariants.{Lsif, At}
use Rattle.http_edge.proofs.Rows.{IsLiteral, IsSuffix, IsSimple, Matches, Each, EachOf, suffix_literal, suffix_cut, literal_simple, parts, parts_of, segment_is, sound, complete}
pub use Rattle.http_edge.proofs.Rows.{same_is}

same_all : (xs : List ℕ) → pointwise nat_eq xs xs ≡ true
same_all xs = (bytes_eq-Decides xs xs).1 refl

-- ---- the forms of the routes

-- a text that is no path below `/projects/`, or what may follow a parameter
abbrev Good : Form → Type 0
Good (fixed text) = IsLiteral text × (after_prefix (codes "/projects/") text ≡ None)
Good (of_project suffix) = IsSuffix suffix

good : (route : Route) → Good (form_of route)
good (At Definition) = grind arith
good route = grind arith

prefix_step : (x b : ℕ) (w path rest : List ℕ) (c : Bool) → (x == b) ≡ c → after_prefix (x ∷ w) (b ∷ path) ≡ Some rest
    → (after_prefix w path ≡ Some rest → path ≡ w ++ rest) → b ∷ path ≡ x ∷ (w ++ rest)
prefix_step x b w path rest true h e more = let same : x ≡ b = eqb-true x b h in ap (λ l. b ∷ l) (more (rw h at e)) ∙ ap (λ k. k ∷ (w ++ rest)) (sym same)
prefix_step x b w path rest false h e more = let f : None ≡ Some rest = rw h at e in cc f

prefix_is : (w path rest : List ℕ) → after_prefix w path ≡ Some rest → path ≡ w ++ rest
prefix_is [] path rest e = cc e
prefix_is (x ∷ w) [] rest e = cc e
prefix_is (x ∷ w) (b ∷ path) rest e = prefix_step x b w path rest (x == b) refl e (prefix_is w path rest)

-- a project is found in a path exactly where the path has the form
fixed_form : (text path project : List ℕ) (c : Bool) → bytes_eq path text ≡ c → (if c then Some [] else None) ≡ Some project → HasForm (fixed text) project path
fixed_form text path project true h e = let f : [] ≡ project = cc e in (same_is path text h, sym f)
fixed_form text path project false h e = cc e

follows : (p : List ℕ) (c : Bool) (project : List ℕ) → where_follows p c ≡ Some project → (c ≡ true) × (p ≡ project) × (p ≢ [])
follows [] c project e = cc e
follows (x ∷ p) true project e = (refl, cc e, λ f. cc f)
follows (x ∷ p) false project e = cc e

project_form : (form : Form) (path project : List ℕ) → project_in form path ≡ Some project → HasForm form project path
project_form (fixed text) path project e = fixed_form text path project (bytes_eq path text) refl e
project_form (of_project suffix) path project e = on (after_prefix (codes "/projects/") path) refl e where
  on : (o : Option (List ℕ)) → after_prefix (codes "/projects/") path ≡ o → option_and_then (segment_before suffix) o ≡ Some project → HasForm (of_project suffix) project path
  on None h f = cc f
  on (Some rest) h f =
      let g = follows (first_segment rest) (bytes_eq (after_segment rest) suffix) project f in
      let q = parts rest in
      let ends : after_segment rest ≡ suffix = same_is (after_segment rest) suffix g.0 in
      (prefix_is (codes "/projects/") path rest h ∙ ap (λ l. codes "/projects/" ++ l) (rw (← g.1, ← ends) q.0), subst (λ (p : List ℕ). p ≢ []) g.1 g.2, subst NoSlash g.1 q.1)

form_project : (form : Form) (path project : List ℕ) → Good form → HasForm form project path → project_in form path ≡ Some project
form_project (fixed text) path project g h = rw (h.0, same_all text, h.1) refl
form_project (of_project suffix) path [] g h = absurd (h.1 refl)
form_project (of_project suffix) path (x ∷ p) g h =
    let q = parts_of (x ∷ p) suffix h.2 (suffix_cut suffix g) in
    rw (h.0, q.0, q.1, same_all suffix) refl

-- a path has one form, and one project
one_form : (f g : Form) (p q path : List ℕ) → Good f → Good g → HasForm f p path → HasForm g q path → (f ≡ g) × (p ≡ q)
one_form (fixed text) (fixed other) p q path a b h i = (ap fixed (sym h.0 ∙ i.0), h.1 ∙ sym i.1)
one_form (fixed text) (of_project suffix) p q path a b h i =
    let f : None ≡ Some (q ++ suffix) = sym a.1 ∙ ap (after_prefix (codes "/projects/")) (sym h.0 ∙ i.0) in cc f
one_form (of_project suffix) (fixed text) p q path a b h i =
    let f : None ≡ Some (p ++ suffix) = sym b.1 ∙ ap (after_prefix (codes "/projects/")) (sym i.0 ∙ h.0) in cc f
one_form (of_project suffix) (of_project other) p q path a b h i =
    let e : Some (p ++ suffix) ≡ Some (q ++ other) = ap (after_prefix (codes "/projects/")) (sym h.0 ∙ i.0) in
    let same : p ++ suffix ≡ q ++ other = cc e in
    let r = parts_of p suffix h.2 (suffix_cut suffix a) in
    let s = parts_of q other i.2 (suffix_cut other b) in
    (ap of_project (sym r.1 ∙ ap after_segment same ∙ s.1), sym r.0 ∙ ap first_segment same ∙ s.0)

-- a route is known by its form
abbrev sample : Form → List ℕ
sample (fixed text) = text
sample (of_project suffix) = codes "/projects/p" ++ suffix

of_sample : (route : Route) → option_map (λ (found : Route × List ℕ). found.0) (route_of (sample (form_of route))) ≡ Some route
unfolding route_of
of_sample (At Definition) = refl
of_sample route = refl

same_route : (route other : Route) → form_of route ≡ form_of other → route ≡ other
same_route route other e =
    let f : Some route ≡ Some other = sym (of_sample route) ∙ ap (λ (f : Form). option_map (λ (found : Route × List ℕ). found.0) (route_of (sample f))) e ∙ of_sample other in cc f

-- ---- the route of a path

found_form : (list : List Route) (path : List ℕ) (route : Route) (project : List ℕ) → route_among list path ≡ Some (route, project) → IsPathOf route project path
found_form [] path route project e = cc e
found_form (r ∷ list) path route project e = on (project_in (form_of r) path) refl e (λ f. found_form list path route project f) where
  on : (o : Option (List ℕ)) → project_in (form_of r) path ≡ o → found_or r o (route_among list path) ≡ Some (route, project)
      → (route_among list path ≡ Some (route, project) → IsPathOf route project path) → IsPathOf route project path
  on None h f more = more f
  on (Some p) h f more =
      let g : ◌≡◌ {A = Route × List ℕ} (r, p) (route, project) = cc f in
      subst (λ (found : Route × List ℕ). HasForm (form_of found.0) found.1 path) g (project_form (form_of r) path p h)

pub route_form : (path : List ℕ) (route : Route) (project : List ℕ) → route_of path ≡ Some (route, project) → IsPathOf route project path
unfolding route_of
route_form path route project e = found_form all_routes path route project e

abbrev Among : Route → List Route → Type 0
Among route [] = ⊥
Among route (r ∷ list) = (r ≡ route) ⊎ Among route list

all_among : (route : Route) → Among route all_routes
all_among Lsif = inl refl
all_among (At Definition) = search (inl, inr) depth 14
all_among route = search (inl, inr) depth 14

both_true : (a b : Bool) → (a && b) ≡ true → (a ≡ true) × (b ≡ true)
both_true true b e = (refl, e)
both_true false b e = cc e

found_some : (r : Route) (o : Option (List ℕ)) (other : Option (Route × List ℕ)) → is_some other ≡ true → is_some (found_or r o other) ≡ true
found_some r None other e = e
found_some r (Some p) other e = refl

among_some : (list : List Route) (path : List ℕ) (route : Route) (project : List ℕ) → Among route list → project_in (form_of route) path ≡ Some project → is_some (route_among list path) ≡ true
among_some [] path route project a e = absurd a
among_some (r ∷ list) path route project (inl a) e = rw (a, e) refl
among_some (r ∷ list) path route project (inr a) e = found_some r (project_in (form_of r) path) (route_among list path) (among_some list path route project a e)

pub form_route : (path : List ℕ) (route : Route) (project : List ℕ) → IsPathOf route project path → route_of path ≡ Some (route, project)
unfolding route_of
form_route path route project h = on (route_of path) refl where
  on : (o : Option (Route × List ℕ)) → route_of path ≡ o → route_of path ≡ Some (route, project)
  on None e = let f : false ≡ true = sym (ap (λ (o : Option (Route × List ℕ)). is_some o) e) ∙ among_some all_routes path route project (all_among route) (form_project (form_of route) path project (good route) h) in cc f
  on (Some found) e =
      let one = one_form (form_of found.0) (form_of route) found.1 project path (good found.0) (good route) (route_form path found.0 found.1 e) h in
      let same : found.0 ≡ route = same_route found.0 route one.0 in
      e ∙ rw (same, one.1) refl

-- ---- the rows of the router

abbrev pattern_of : Form → List ℕ
pattern_of (fixed text) = text
pattern_of (of_project suffix) = codes "/projects/" ++ (param_token ∷ suffix)

abbrev names_of : Form → List (ℕ × ℕ)
names_of (fixed text) = []
names_of (of_project suffix) = (11, 12) ∷ []

abbrev pub row_of : Route → RouteOf Route
row_of route = record { pattern = pattern_of (form_of route); text = template_text (form_of route); names = names_of (form_of route); value = route }

abbrev rows_in : List Route → RowsOf (RouteOf Route)
rows_in [] = []
rows_in (route ∷ list) = (pattern_of (form_of route), row_of route) ∷ rows_in list

abbrev values_in : RowsOf (RouteOf Route) → List Route
values_in [] = []
values_in (row ∷ rows) = row.1.value ∷ values_in rows

-- the routes in the router's order
abbrev in_order : List Route
in_order = values_in routes

routes_are : routes ≡ rows_in in_order
unfolding matchit_on_literals routes
routes_are = refl

-- each of these routes has a row
abbrev all_held : RowsOf (RouteOf Route) → List Route → Bool
all_held rows [] = true
all_held rows (route ∷ list) = is_some (lookup (pattern_of (form_of route)) rows) && all_held rows list

held_among : (rows : RowsOf (RouteOf Route)) (list : List Route) (route : Route) → Among route list → all_held rows list ≡ true
    → is_some (lookup (pattern_of (form_of route)) rows) ≡ true
held_among rows [] route a h = absurd a
held_among rows (r ∷ list) route (inl e) h = rw (← e) (both_true (is_some (lookup (pattern_of (form_of r)) rows)) (all_held rows list) h).0
held_among rows (r ∷ list) route (inr a) h =
    held_among rows list route a (both_true (is_some (lookup (pattern_of (form_of r)) rows)) (all_held rows list) h).1

held_all : all_held routes all_routes ≡ true
unfolding matchit_on_literals routes
held_all = refl

held : (route : Route) → is_some (lookup (pattern_of (form_of route)) (rows_in in_order)) ≡ true
held route = rw (← routes_are) (held_among routes all_routes route (all_among route) held_all)

each_row : (Q : List ℕ → RouteOf Route → Type 0) (list : List Route) → ((route : Route) → Q (pattern_of (form_of route)) (row_of route)) → Each Q (rows_in list)
each_row Q [] f = tt
each_row Q (route ∷ list) f = (f route, each_row Q list f)

-- a path matches a row exactly where it has its form
simple_past : (w t : List ℕ) → IsLiteral w → IsSimple t → IsSimple (w ++ t)
simple_past [] t a s = s
simple_past (x ∷ w) t a s = inl (a.0, simple_past w t a.1 s)

simple : (form : Form) → Good form → IsSimple (pattern_of form)
simple (fixed text) g = literal_simple text g.0
simple (of_project suffix) g = simple_past (codes "/projects/") (param_token ∷ suffix) (grind arith) (inr (refl, g))

matches_past : (w t rest : List ℕ) → Matches t rest → Matches (w ++ t) (w ++ rest)
matches_past [] t rest m = m
matches_past (x ∷ w) t rest m = inl (w ++ rest, refl, matches_past w t rest m)

past_matched : (w t path : List ℕ) → IsLiteral w → Matches (w ++ t) path → (rest : List ℕ) × (path ≡ w ++ rest) × Matches t rest
past_matched [] t path a m = (path, refl, m)
past_matched (x ∷ w) t path a (inl m) = let r = past_matched w t m.0 a.1 m.2 in (r.0, m.1 ∙ ap (λ l. x ∷ l) r.1, r.2)
past_matched (x ∷ w) t path a (inr m) = let lt = a.0 in let e = m.0 in absurd (omega arith)

form_matches : (form : Form) (path project : List ℕ) → HasForm form project path → Matches (pattern_of form) path
form_matches (fixed text) path project h = rw h.0 (subst (λ (l : List ℕ). Matches l l) (append-nil text) (matches_past text [] [] refl))
form_matches (of_project suffix) path project h =
    rw h.0 (matches_past (codes "/projects/") (param_token ∷ suffix) (project ++ suffix) (inr (refl, (project, refl, h.1, h.2))))

below_form : (suffix path rest : List ℕ) → ((k : ℕ) → get_or path k 0 < 256) → path ≡ codes "/projects/" ++ rest → Matches (param_token ∷ suffix) rest
    → (project : List ℕ) × HasForm (of_project suffix) project path
below_form suffix path rest bytes e (inl m) = let lt : 256 < 256 = rw (e, m.1) at (bytes 10) in absurd (omega arith)
below_form suffix path rest bytes e (inr m) = (m.1.0, (e ∙ ap (λ l. codes "/projects/" ++ l) m.1.1, m.1.2, m.1.3))

matched_form : (form : Form) (path : List ℕ) → Good form → ((k : ℕ) → get_or path k 0 < 256) → Matches (pattern_of form) path → (project : List ℕ) × HasForm form project path
matched_form (fixed text) path g bytes m =
    let r = past_matched text [] path g.0 (subst (λ (l : List ℕ). Matches l path) (sym (append-nil text)) m) in
    ([], (r.1 ∙ ap (λ l. text ++ l) r.2 ∙ append-nil text, refl))
matched_form (of_project suffix) path g bytes m =
    let r = past_matched (codes "/projects/") (param_token ∷ suffix) path (grind arith) m in below_form suffix path r.0 bytes r.1 r.2

-- what the router finds is the row of the path's route
abbrev pub Hit : List ℕ → RouteOf Route → Type 0
Hit path row = (route : Route) × (project : List ℕ) × (row_of route ≡ row) × IsPathOf route project path

pub hit : (path : List ℕ) (row : RouteOf Route) → ((k : ℕ) → get_or path k 0 < 256) → first routes path ≡ Some row → Hit path row
hit path row bytes e =
    let each = each_row (λ t key. IsSimple t × (Matches t path → Hit path key)) in_order (λ route. (
      simple (form_of route) (good route),
      λ m. (let h = matched_form (form_of route) path (good route) bytes m in (route, h.0, refl, h.1)),
    )) in
    sound (Hit path) (rows_in in_order) path row each (rw routes_are at e)

pub missed : (path : List ℕ) → first routes path ≡ None → route_of path ≡ None
missed path e = on (route_of path) refl where
  on : (o : Option (Route × List ℕ)) → route_of path ≡ o → route_of path ≡ None
  on None h = h
  on (Some found) h =
      let m = form_matches (form_of found.0) path found.1 (route_form path found.0 found.1 h) in
      let all : EachOf IsSimple (rows_in in_order) = each_row (λ t key. IsSimple t) in_order (λ route. simple (form_of route) (good route)) in
      let some = complete (pattern_of (form_of found.0)) (rows_in in_order) path all (simple (form_of found.0) (good found.0)) (held found.0) m in
      let none : first (rows_in in_order) path ≡ None = rw routes_are at e in
      let f : false ≡ true = sym (ap (λ (o : Option (RouteOf Route)). is_some o) none) ∙ some in cc f

-- ---- the parameter: a row's project

from_is : (len : ℕ) (suffix : List ℕ) → 10 ≤ len → wild_from (codes "/projects/" ++ (param_token ∷ suffix)) len 0 0 ≡ (10, 10)
from_is len suffix le = rw (lt-ltb 0 len (omega arith), lt-ltb 1 len (omega arith), lt-ltb 2 len (omega arith), lt-ltb 3 len (omega arith), lt-ltb 4 len (omega arith), lt-ltb 5 len (omega arith), lt-ltb 6 len (omega arith), lt-ltb 7 len (omega arith), lt-ltb 8 len (omega arith), lt-ltb 9 len (omega arith)) refl

stop_is : (project suffix : List ℕ) → IsSuffix suffix → NoSlash project
    → wild_stop (codes "/projects/" ++ (param_token ∷ suffix)) 10 (codes "/projects/" ++ (project ++ suffix)) 10 ≡ 10 + length project
stop_is project [] s a = rw (append-nil project) (omega arith)
stop_is project (x ∷ t) s a =
    let size = length (codes "/projects/" ++ (param_token ∷ slash ∷ t)) in
    let n = length-append project (slash ∷ []) in
    rw (s.0, lt-ltb 10 size (omega arith), lt-ltb 11 size (omega arith), segment_is project t a, n) (omega arith)

part_is : (project suffix : List ℕ) → part_of (codes "/projects/" ++ (project ++ suffix)) 10 (10 + length project) ≡ project
part_is project suffix =
    let n = length-append project suffix in
    let whole = length-append (codes "/projects/") (project ++ suffix) in
    let k : 10 + length project - 10 ≡ length project = omega arith in
    rw (le-leb 10 (10 + length project) (omega arith), le-leb (10 + length project) (length (codes "/projects/" ++ (project ++ suffix))) (omega (arith, whole, n)), k) (take-append_seam project suffix)

name_is : (suffix : List ℕ) → part_of (codes "/projects/{p}" ++ suffix) 11 12 ≡ codes "p"
name_is suffix = rw (le-leb 12 (length (codes "/projects/{p}" ++ suffix)) (omega arith)) refl

walk_one : (pattern text path : List ℕ) (name : ℕ × ℕ) (stop : ℕ) → wild_from pattern (length path) 0 0 ≡ (10, 10) → wild_stop pattern 10 path 10 ≡ stop
    → walk pattern text path (name ∷ []) 0 0 ≡ (part_of text name.0 name.1, part_of path 10 stop) ∷ []
walk_one pattern text path name stop e f = rw (e, f) refl

walk_is : (project suffix : List ℕ) → IsSuffix suffix → NoSlash project
    → walk (codes "/projects/" ++ (param_token ∷ suffix)) (codes "/projects/{p}" ++ suffix) (codes "/projects/" ++ (project ++ suffix)) ((11, 12) ∷ []) 0 0 ≡ (codes "p", project) ∷ []
walk_is project suffix s a =
    let n = length-append (codes "/projects/") (project ++ suffix) in
    let path = codes "/projects/" ++ (project ++ suffix) in
    let pattern = codes "/projects/" ++ (param_token ∷ suffix) in
    walk_one pattern (codes "/projects/{p}" ++ suffix) path (11, 12) (10 + length project) (from_is (length path) suffix (omega (arith, n))) (stop_is project suffix s a)
    ∙ ap (λ (l : List ℕ). (l, part_of path 10 (10 + length project)) ∷ []) (name_is suffix)
    ∙ ap (λ (l : List ℕ). (codes "p", l) ∷ []) (part_is project suffix)

ascii : (t : List ℕ) → IsLiteral t → IsAscii t
ascii [] a i = omega arith
ascii (x ∷ t) a zero = a.0
ascii (x ∷ t) a (suc i) = ascii t a.1 i

project_text : (project suffix : List ℕ) → IsSuffix suffix → IsUtf8 (codes "/projects/" ++ (project ++ suffix)) → IsUtf8 project
project_text project suffix s u =
    let path = codes "/projects/" ++ (project ++ suffix) in
    let n = length-append project suffix in
    let m = length-append (codes "/projects/") (project ++ suffix) in
    let k = length-append (codes "/projects/") project in
    let stop = length (codes "/projects/" ++ project) in
    let one = IsCharBoundary-after_ascii path 9 u (omega (arith, m)) (omega arith) in
    let two = IsCharBoundary-at_seam path (codes "/projects/" ++ project) suffix refl (IsUtf8-from_ascii suffix (ascii suffix (suffix_literal suffix s))) in
    let size : stop - 10 ≡ length project = omega (arith, k) in
    let between = IsUtf8-between path 10 stop u (omega (arith, k)) one two in
    rw (size, take-append_seam project suffix) at between

-- the parameters that the router returns: the project, where the form has one
abbrev named_in : Form → List ℕ → Option (List ℕ)
named_in (fixed text) project = None
named_in (of_project suffix) project = Some project

abbrev Named : Form → List ℕ → List ℕ → Type 0
Named form project path =
    AllText (walk (pattern_of form) (template_text form) path (names_of form) 0 0)
    × (named (codes "p") (walk (pattern_of form) (template_text form) path (names_of form) 0 0) ≡ named_in form project)

params_are : (form : Form) (path project : List ℕ) → Good form → HasForm form project path → IsUtf8 path → Named form project path
unfolding encode
params_are (fixed text) path project g h u = (tt, refl)
params_are (of_project suffix) path project g h u =
    let text : IsUtf8 project = project_text project suffix g (rw h.0 at u) in
    subst (λ (l : List ℕ). Named (of_project suffix) project l) (sym h.0)
    (subst (λ (w : List (List ℕ × List ℕ)). AllText w × (named (codes "p") w ≡ Some project)) (sym (walk_is project suffix g h.2)) (((112 ∷ [], (refl, refl)), text, tt), refl))

handed : (form : Form) (path project : List ℕ) (got : Option (Bor (List ℕ))) (default : Bor (List ℕ)) (o : Option (List ℕ)) → o ≡ named_in form project
    → MatchOption got (o ≡ None) (λ value. o ≡ Some value.now) → HasForm form project path → default.now ≡ [] → (unwrap_or got default).now ≡ project
handed (fixed text) path project None default o e m h d = d ∙ sym h.1
handed (fixed text) path project (Some value) default o e m h d = let f : None ≡ Some value.now = sym e ∙ m in cc f
handed (of_project suffix) path project None default o e m h d = let f : Some project ≡ None = sym e ∙ m in cc f
handed (of_project suffix) path project (Some value) default o e m h d = let f : Some project ≡ Some value.now = sym e ∙ m in let g : project ≡ value.now = cc f in sym g

abbrev Gives : List ℕ → RouteOf Route → Option (Bor (List ℕ)) → Type 0
Gives path row got =
    AllText (walk row.pattern row.text path row.names 0 0)
    → MatchOption got (named (codes "p") (walk row.pattern row.text path row.names 0 0) ≡ None) (λ value. named (codes "p") (walk row.pattern row.text path row.names 0 0) ≡ Some value.now)

pub answered : (path : List ℕ) (row : RouteOf Route) (got : Option (Bor (List ℕ))) (default given : Bor (List ℕ)) → Hit path row → IsUtf8 path → Gives path row got
    → given ≡ unwrap_or got default → default.now ≡ [] → Some (row.value, given.now) ≡ route_of path
answered path row got default given h u get e d =
    let form = form_of h.0 in
    let n = params_are form path h.1 (good h.0) h.3 u in
    ap (λ (v : Bor (List ℕ)). Some (row.value, v.now)) e
    ∙ subst (λ (r : RouteOf Route). Gives path r got → Some (r.value, (unwrap_or got default).now) ≡ route_of path) h.2
    (λ g. ap (λ (p : List ℕ). Some (h.0, p)) (handed form path h.1 got default _ n.1 (g n.0) h.3 d) ∙ sym (form_route path h.0 h.1 h.3)) get

-- ---- the router takes the routes one after another

inserted : (x : Result Scan InsertError) (value : Route) (old new : RowsOf (RouteOf Route)) (u : Unit {0}) → InsertsRead x value old new (Ok u) → new ≡ with_scan x value old
inserted (Ok s) value old new u i = i.1
inserted (Err e) value old new u i = i.0

pub turned : (list : List Route) (k : ℕ) (d : Route) (old new : RowsOf (RouteOf Route)) (u : Unit {0}) → k < length list
    → InsertsRead (parse_route (template_of (get_or list k d))) (get_or list k d) old new (Ok u) → with_routes (drop k list) old ≡ routes → with_routes (drop (k + 1) list) new ≡ routes
turned list k d old new u lt i h =
    rw (add-one, inserted (parse_route (template_of (get_or list k d))) (get_or list k d) old new u i) (rw (drop-cons list k d lt) at h)

pub started : (rows : RowsOf (RouteOf Route)) → rows ≡ [] → with_routes all_routes rows ≡ routes
unfolding routes
started rows e = ap (λ (rs : RowsOf (RouteOf Route)). with_routes all_routes rs) e
