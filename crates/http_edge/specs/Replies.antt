-- The text of replies (RFC 9112, sections 4 to 6).
use Rattle.std.specs.Prelude.{ℕ, List, [], ◌++◌, ◌&&◌, length, codes, Option, Some, None, unwrap_or, if◌then◌else◌, nat_le, nat_lt}
use Rattle.std.specs.Fmt.{decimal}
use Rattle.http.specs.StatusCode.{reason_phrase}
use Rattle.machine.specs.Reply.{ReplyValue, reply_body, reply_status}
use Rattle.http_edge.specs.Refusals.{row_of, allow_of, body_of}
use Rattle.http_edge.specs.Routes.{method_of}
use Rattle.http_edge.specs.declared.route.Route.{Route}
use Rattle.http_edge.specs.declared.refusal.Refusal.{Refusal}

-- the phrase of a status, a number of three digits
unfoldable pub phrase : ℕ → List ℕ
phrase status = if nat_le 100 status && nat_lt status 1000 then unwrap_or (reason_phrase status) [] else []

-- the field Allow, where a route's method is allowed
abbrev pub allow_text : Option Route → List ℕ
allow_text None = []
allow_text (Some route) = codes "Allow: " ++ (method_of route ++ codes "\r\n")

-- the end of the status line, and the fields that each response has
abbrev pub fixed_fields : List ℕ
fixed_fields = codes "\r\nConnection: close\r\nContent-Type: application/json\r\n"

-- a status line, the fields, among them the length of the body, and an empty line
unfoldable pub head_text : ℕ → Option Route → ℕ → List ℕ
head_text status allow body_length =
    codes "HTTP/1.1 " ++ (decimal status ++ (codes " " ++ (phrase status ++ (fixed_fields ++ (allow_text allow
    ++ (codes "Content-Length: " ++ (decimal body_length ++ codes "\r\n\r\n")))))))

-- a head and a body
abbrev pub response_text : ℕ → Option Route → List ℕ → List ℕ
response_text status allow body = head_text status allow (length body) ++ body

abbrev pub reply_text : ReplyValue → List ℕ
reply_text reply = response_text (reply_status reply) None (reply_body reply)

abbrev pub refusal_text : Refusal → List ℕ
refusal_text refusal = response_text (row_of refusal).status (allow_of refusal) (body_of refusal)

-- what a message is answered: a reply of the machine, or a refusal
pub data AnswerValue : Type 0 where
  replied : ReplyValue → AnswerValue
  turned_away : Refusal → AnswerValue

abbrev pub answer_text : AnswerValue → List ℕ
answer_text (replied r) = reply_text r
answer_text (turned_away refusal) = refusal_text refusal
