-- What requests ask.
use Rattle.std.proofs.Common.{◌≡◌, ◌≢◌, ℕ, Bool, true, false, List, Option, Some, None, refl, ap, sym, ◌∙◌}
use Rattle.std.specs.Str.{bytes_eq, IsUtf8, is_utf8}
use Rattle.std.proofs.lemmas.Bool.{false_from_ne_true}
use Rattle.std.proofs.lemmas.Str.{IsUtf8-from_is_utf8, is_utf8-from_IsUtf8}
use Rattle.std.specs.declared.alloc.AllocError.{AllocError}
use Rattle.std.specs.Prelude.{Result, Ok, Err, IfOk, option_map}
use Rattle.lsif.specs.declared.request_kind.RequestKind.{RequestKind}
use Rattle.lsif.specs.declared.request_kind.RequestKind.TheVariants.{References}
use Rattle.machine.specs.declared.request.Query.{Query}
use Rattle.machine.specs.Requests.{QueryValue, position_query, RequestValue, query_value}
use Rattle.machine.specs.Requests as requests
use Rattle.http_edge.specs.Requests.{refused, path_in, query_in, place_in, query_at, with_form, with_method, with_route, route_in, request_of, message_of}
use Rattle.http_edge.specs.Messages.{ends}
use Rattle.http_edge.specs.Parameters.{parameters}
use Rattle.http_edge.specs.Routes.{method_of, route_of}
use Rattle.http_edge.specs.declared.route.Route.{Route}
use Rattle.http_edge.specs.Steps.Requests.{Asks, AsksFor}
use Rattle.http_edge.specs.declared.request.Asked.{Asked}
use Rattle.http_edge.specs.declared.request.Asked.TheVariants.{Upload, Request, Refused}
use Rattle.http_edge.specs.declared.refusal.Refusal.TheVariants.{BodyCut, NoSuchRoute, MethodNotAllowed}

form_goes_on : (asked : Option RequestValue) → ends (with_form asked) ≡ false
form_goes_on None = refl
form_goes_on (Some q) = refl

method_goes_on : (b : Bool) (route : Route) (asked : Option RequestValue) → ends (with_method b route asked) ≡ false
method_goes_on true route asked = form_goes_on asked
method_goes_on false route asked = refl

route_goes_on : (found : Option (Route × List ℕ)) (method query body : List ℕ) → ends (with_route found method query body) ≡ false
route_goes_on None method query body = refl
route_goes_on (Some found) method query body =
    method_goes_on (bytes_eq method (method_of found.0)) found.0 (request_of found.0 found.1 (parameters query) body)

-- a request whose head and body are whole doesn't end the stream
pub message_goes_on : (method target body : List ℕ) → ends (message_of method target body) ≡ false
unfolding message_of
message_goes_on method target body = route_goes_on (route_in (path_in target)) method (query_in target) body

-- it is settled otherwise than by a cut body
pub message_whole : (method target body : List ℕ) → message_of method target body ≡ refused BodyCut → ⊥
message_whole method target body e =
    let f : true ≡ false = sym (ap ends e) ∙ message_goes_on method target body in cc f

-- ---- by route, method and parameters

pub asks_no_route : (method target : List ℕ) → None ≡ route_in (path_in target) → (body : List ℕ) → message_of method target body ≡ refused NoSuchRoute
unfolding message_of
asks_no_route method target e body = rw (← e) refl

pub asks_other_method : (method target : List ℕ) (found : Route × List ℕ) → Some found ≡ route_in (path_in target) → bytes_eq method (method_of found.0) ≡ false
    → (body : List ℕ) → message_of method target body ≡ refused (MethodNotAllowed found.0)
unfolding message_of
asks_other_method method target found e m body = rw (← e, m) refl

asks_form : (method target body : List ℕ) (found : Route × List ℕ) → Some found ≡ route_in (path_in target) → bytes_eq method (method_of found.0) ≡ true
    → message_of method target body ≡ with_form (request_of found.0 found.1 (parameters (query_in target)) body)
unfolding message_of
asks_form method target body found e m = rw (← e, m) refl

asks_value : (method target : List ℕ) (found : Route × List ℕ) (pairs : List (List ℕ × List ℕ)) (value : Option RequestValue) → Some found ≡ route_in (path_in target)
    → true ≡ bytes_eq method (method_of found.0) → pairs ≡ parameters (query_in target) → (body : List ℕ) → request_of found.0 found.1 pairs body ≡ value
    → message_of method target body ≡ with_form value
asks_value method target found pairs value e m same body is =
    asks_form method target body found e (sym m) ∙ ap with_form (rw same at is)

asks_parameters : (asked : Asked) (method target : List ℕ) (found : Route × List ℕ) (pairs : List (List ℕ × List ℕ)) → Some found ≡ route_in (path_in target)
    → true ≡ bytes_eq method (method_of found.0) → pairs ≡ parameters (query_in target) → AsksFor asked (request_of found.0 found.1 pairs) → Asks asked method target
asks_parameters (Upload upload) method target found pairs e m same asks =
    (asks.0, λ body. asks_value method target found pairs _ e m same body (asks.1 body))
asks_parameters (Request q) method target found pairs e m same asks = λ body. asks_value method target found pairs _ e m same body (asks body)
asks_parameters (Refused refusal) method target found pairs e m same asks =
    λ body. rw asks.0 (asks_value method target found pairs None e m same body (asks.1 body))

pub asks_read : (r : Result Asked AllocError) (method target : List ℕ) (found : Route × List ℕ) (pairs : List (List ℕ × List ℕ)) → Some found ≡ route_in (path_in target)
    → true ≡ bytes_eq method (method_of found.0) → pairs ≡ parameters (query_in target) → IfOk r (λ asked. AsksFor asked (request_of found.0 found.1 pairs))
    → IfOk r (λ asked. Asks asked method target)
asks_read (Ok asked) method target found pairs e m same asks = asks_parameters asked method target found pairs e m same asks
asks_read (Err fault) method target found pairs e m same asks = tt

-- ---- by what was read of the parameters

pub asks_same : (asked : Asked) (f g : List ℕ → Option RequestValue) → ((body : List ℕ) → f body ≡ g body) → AsksFor asked f → AsksFor asked g
asks_same (Upload upload) f g same asks = (asks.0, λ body. sym (same body) ∙ asks.1 body)
asks_same (Request q) f g same asks = λ body. sym (same body) ∙ asks body
asks_same (Refused refusal) f g same asks = (asks.0, λ body. sym (same body) ∙ asks.1 body)

pub asks_query : (asked : Asked) (q read : Option Query) (value : Option QueryValue) → AsksFor asked (λ body. option_map requests.query (option_map query_value q)) → q ≡ read
    → option_map query_value read ≡ value → AsksFor asked (λ body. option_map requests.query value)
asks_query asked q read value asks is says = asks_same asked _ _ (λ body. ap (option_map requests.query) (ap (option_map query_value) is ∙ says)) asks

-- each kind but references is asked by a position alone
pub query_of_place : (kind : RequestKind) (project : List ℕ) (pairs : List (List ℕ × List ℕ)) → kind ≢ References
    → query_at kind project pairs ≡ option_map (position_query kind) (place_in project pairs)
query_of_place References project pairs other = absurd (other refl)
query_of_place kind project pairs other = refl

pub text_route : (path : List ℕ) → IsUtf8 path → route_of path ≡ route_in path
text_route path u = rw (is_utf8-from_IsUtf8 path u) refl

pub no_text_route : (path : List ℕ) → (IsUtf8 path → ⊥) → None ≡ route_in path
no_text_route path u = rw (false_from_ne_true (is_utf8 path) (λ t. u (IsUtf8-from_is_utf8 path t))) refl
