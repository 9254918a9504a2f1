-- What is asked as the program has it.
use Rattle.std.specs.Prelude.{◌≡◌, ℕ, List, [], Option, Some, None}
use Rattle.machine.specs.Requests.{DocumentPositionValue, RequestValue, command, at_value, request_value}
use Rattle.machine.specs.Uploads.{HasRead, UploadValue, command_of}
use Rattle.http_edge.specs.declared.forms.Searched.{Searched}
use Rattle.http_edge.specs.declared.forms.Searched.TheVariants.{All, One}
use Rattle.http_edge.specs.declared.queries.DocumentPosition.{DocumentPosition}
use Rattle.http_edge.specs.declared.request.Asked.{Asked}
use Rattle.http_edge.specs.declared.request.Asked.TheVariants.{Upload, Request, Refused}
use Rattle.http_edge.specs.declared.refusal.Refusal.TheVariants.{BadParameter}
use Rattle.http_edge.specs.Requests.{request, refused, message_of}

abbrev pub place_value : DocumentPosition → DocumentPositionValue
place_value place = at_value place.project place.uri place.position

-- the project that is searched alone
abbrev pub searched_value : Searched → Option (List ℕ)
searched_value All = None
searched_value (One project) = Some project

-- the request that an upload is with a body
abbrev pub upload_request : List ℕ → UploadValue → RequestValue
upload_request body upload = command (command_of upload body)

-- this is the request with each body, or there is none; no byte of an upload's body has come
abbrev pub AsksFor : Asked → (List ℕ → Option RequestValue) → Type 0
AsksFor (Upload upload) asked = HasRead upload.body [] × ((body : List ℕ) → asked body ≡ Some (upload_request body upload))
AsksFor (Request q) asked = (body : List ℕ) → asked body ≡ Some (request_value q)
AsksFor (Refused refusal) asked = (refusal ≡ BadParameter) × ((body : List ℕ) → asked body ≡ None)

-- this is what the method and the target ask with each body, and an upload represents these bytes
-- of it
abbrev pub AsksAfter : Asked → List ℕ → List ℕ → List ℕ → Type 0
AsksAfter (Upload upload) method target body =
    HasRead upload.body body × ((whole : List ℕ) → message_of method target whole ≡ request (command (command_of upload whole)))
AsksAfter (Request q) method target body = (whole : List ℕ) → message_of method target whole ≡ request (request_value q)
AsksAfter (Refused refusal) method target body = (whole : List ℕ) → message_of method target whole ≡ refused refusal

-- no byte of an upload's body has come
abbrev pub Asks : Asked → List ℕ → List ℕ → Type 0
Asks asked method target = AsksAfter asked method target []
