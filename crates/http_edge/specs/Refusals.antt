-- Requests that are refused before the desk: their codes, and their replies.
use Rattle.std.specs.Prelude.{ℕ, Bool, true, false, List, codes, Option, Some, None}
use Rattle.machine.specs.Reply.{fault_body}
use Rattle.http_edge.specs.declared.route.Route.{Route}
use Rattle.http_edge.specs.declared.refusal.Refusal.{Refusal}
use Rattle.http_edge.specs.declared.refusal.Refusal.TheVariants.{BadHead, HeadTooLarge, LengthRequired, BodyTooLarge, BodyCut, NoSuchRoute, MethodNotAllowed, TransferCoding, BadParameter}

-- the status of the reply (RFC 9110, section 15), the code's name and its text, and whether nothing
-- that follows it in the stream is served
pub record RefusalRow : Type 0 where
  pub status : ℕ
  pub name : List ℕ
  pub text : List ℕ
  pub ends_stream : Bool

abbrev pub row_of : Refusal → RefusalRow
row_of BadHead = record { status = 400; name = codes "H01"; text = codes "bad head"; ends_stream = true }
row_of HeadTooLarge = record { status = 431; name = codes "H02"; text = codes "head too large"; ends_stream = true }
row_of LengthRequired = record { status = 411; name = codes "H03"; text = codes "length required"; ends_stream = true }
row_of BodyTooLarge = record { status = 413; name = codes "H04"; text = codes "body too large"; ends_stream = true }
row_of BodyCut = record { status = 400; name = codes "H05"; text = codes "body cut"; ends_stream = true }
row_of NoSuchRoute = record { status = 404; name = codes "H06"; text = codes "no such route"; ends_stream = false }
row_of (MethodNotAllowed route) = record { status = 405; name = codes "H07"; text = codes "method not allowed"; ends_stream = false }
row_of TransferCoding = record { status = 501; name = codes "H08"; text = codes "transfer coding not supported"; ends_stream = true }
row_of BadParameter = record { status = 400; name = codes "D03"; text = codes "bad parameter"; ends_stream = false }

abbrev pub body_of : Refusal → List ℕ
body_of refusal = fault_body (row_of refusal).name (row_of refusal).text

-- the route whose method a reply names as allowed
abbrev pub allow_of : Refusal → Option Route
allow_of (MethodNotAllowed route) = Some route
allow_of refusal = None
