-- A head, and then its body.
use Rattle.std.proofs.Common.{◌≡◌, ℕ, ◌+◌, ◌<◌, ◌≤◌, inl, inr, List, [], ◌++◌, length, take, drop, Option, refl, sym, ◌∙◌, ap, arith, append_assoc, length-append}
use Rattle.std.proofs.lemmas.List.{take-append-le, drop-append-le, take_all, drop_all}
use Rattle.streams.specs.Streams.{AtEnd}
use Rattle.http_edge.specs.Heads.{request_head, SettlesHead}
use Rattle.http_edge.specs.Messages.{IsUnended}
use Rattle.http_edge.specs.Requests.{refused, message_of}
use Rattle.http_edge.specs.Steps.Serving.{GivesHead, Gives, MessageAfter, Says}
use Rattle.http_edge.specs.declared.reading.Message.{Message}
use Rattle.http_edge.specs.declared.reading.Message.TheVariants.{Asked, Known, OutOfMemory}
use Rattle.http_edge.specs.declared.refusal.Refusal.TheVariants.{BodyCut}
use Rattle.http_edge.specs.declared.request.Asked.TheVariants.{Upload, Request, Refused}
use Rattle.http_edge.proofs.RequestLemmas.{message_goes_on}
use Rattle.http_edge.proofs.MessageLemmas.{head-append, head_some}

-- a head that asks for a body came whole
pub head_whole : (bytes method target : List ℕ) (len : ℕ) (rest : List ℕ) (left : Option (List ℕ))
    → GivesHead bytes (request_head method target len) rest left → SettlesHead bytes (request_head method target len) rest
head_whole bytes method target len rest left given = elim given [
  | inl s ↦ s
  | inr u ↦ cc (u.3)
]

pub body_whole : (held c rest body next method target : List ℕ) (len : ℕ) (left : Option (List ℕ))
    → SettlesHead held (request_head method target len) rest → rest ++ c ≡ body ++ next → length body ≡ len
    → Gives (held ++ c) (message_of method target body) next left
body_whole held c rest body next method target len left s e fits =
    let le : len ≤ length body = omega (arith, fits) in
    let whole : take len (body ++ next) ≡ body = take-append-le len body next le ∙ take_all len body (omega (arith, fits)) in
    let after : drop len (body ++ next) ≡ next = drop-append-le len body next le ∙ ap (λ l. l ++ next) (drop_all len body (omega (arith, fits))) in
    let long = length-append body next in
    inl (
      request_head method target len,
      rest ++ c,
      head-append held c (request_head method target len) rest s,
      rw e (omega (arith, fits, long), rw whole refl, sym after),
    )

pub body_unended : (held c rest method target : List ℕ) (len : ℕ) → SettlesHead held (request_head method target len) rest → length (rest ++ c) < len
    → IsUnended (held ++ c) BodyCut
body_unended held c rest method target len s short =
    inr ((method, target, len, rest ++ c, head-append held c (request_head method target len) rest s, short), refl)

pub body_ended : (held c rest method target : List ℕ) (len : ℕ) (next : List ℕ) (left : Option (List ℕ)) → SettlesHead held (request_head method target len) rest
    → length (rest ++ c) < len → AtEnd left → next ≡ [] → Gives (held ++ c) (refused BodyCut) next left
body_ended held c rest method target len next left s short ended e =
    inr (
      ended,
      BodyCut,
      body_unended held c rest method target len s short,
      head_some (held ++ c) _ _ (head-append held c (request_head method target len) rest s),
      refl,
      e,
    )

-- the same, of buffered bytes that came one part after another
pub gives_whole : (old b held c rest body next method target : List ℕ) (len : ℕ) (left left' : Option (List ℕ))
    → held ≡ old ++ b → GivesHead held (request_head method target len) rest left' → rest ++ c ≡ body ++ next → length body ≡ len
    → Gives (old ++ (b ++ c)) (message_of method target body) next left
gives_whole old b held c rest body next method target len left left' e given f fits =
    rw (← append_assoc old b c, ← e)
    (body_whole held c rest body next method target len left (head_whole held method target len rest left' given) f fits)

pub gives_cut : (old b held c rest method target : List ℕ) (len : ℕ) (next : List ℕ) (left left' : Option (List ℕ))
    → held ≡ old ++ b → GivesHead held (request_head method target len) rest left' → length (rest ++ c) < len → AtEnd left → next ≡ []
    → Gives (old ++ (b ++ c)) (refused BodyCut) next left
gives_cut old b held c rest method target len next left left' e given short ended f =
    rw (← append_assoc old b c, ← e)
    (body_ended held c rest method target len next left (head_whole held method target len rest left' given) short ended f)

pub cut_unended : (old b held c rest method target : List ℕ) (len : ℕ) (left' : Option (List ℕ))
    → held ≡ old ++ b → GivesHead held (request_head method target len) rest left' → length (rest ++ c) < len → IsUnended (old ++ (b ++ c)) BodyCut
cut_unended old b held c rest method target len left' e given short =
    rw (← append_assoc old b c, ← e)
    (body_unended held c rest method target len (head_whole held method target len rest left' given) short)

-- ---- pieces of a body

-- one more piece
pub joined : (held bytes more body piece pending rest : List ℕ) → held ++ bytes ≡ body ++ pending → pending ++ more ≡ piece ++ rest
    → held ++ (bytes ++ more) ≡ (body ++ piece) ++ rest
joined held bytes more body piece pending rest e f =
    sym (append_assoc held bytes more) ∙ ap (λ l. l ++ more) e ∙ append_assoc body pending more ∙ ap (λ l. body ++ l) f ∙ sym (append_assoc body piece rest)

-- a body that isn't whole
pub still_short : (held bytes more body pending : List ℕ) (rest len : ℕ) → held ++ bytes ≡ body ++ pending → pending ++ more ≡ [] → length body + rest ≡ len → 0 < rest
    → length (held ++ (bytes ++ more)) < len
still_short held bytes more body pending rest len e f count some =
    let all = joined held bytes more body [] pending [] e f in
    let a = length-append (body ++ []) [] in
    let b = length-append body [] in
    rw all (omega (arith, a, b, count))

-- ---- what is asked

-- what was asked when all of the body had come
pub said : (message : Message) (method target body : List ℕ) → MessageAfter message method target body → Says message (message_of method target body)
said (Asked (Upload upload)) method target body a = (body, a.0, a.1 body)
said (Asked (Request q)) method target body a = a body
said (Asked (Refused refusal)) method target body a = a body
said (Known upload reply) method target body a = (body, a body)
said OutOfMemory method target body a = message_goes_on method target body
