-- What the program's calls read and give while a stream is served.
use Rattle.std.specs.Prelude.{◌≡◌, ◌≢◌, ℕ, ◌<◌, ◌≤◌, ◌⊎◌, Bool, true, false, List, [], ◌++◌, length, drop, Option, Some, None, Result, Ok, Err, ⊤}
use Rattle.machine.specs.State.{State}
use Rattle.machine.specs.Reply.{ReplyValue}
use Rattle.machine.specs.Requests.{command, request_value}
use Rattle.machine.specs.Runs.{KnowsReply}
use Rattle.machine.specs.Uploads.{HasRead, UploadValue, command_of}
use Rattle.streams.specs.Streams.{Moves, AtEnd}
use Rattle.http_edge.specs.Heads.{HeadValue, rejected, SettlesHead, IsHeadUnended}
use Rattle.http_edge.specs.Messages.{Settles, IsUnended, ends}
use Rattle.http_edge.specs.Requests.{MessageValue, request, refused, message_of}
use Rattle.http_edge.specs.Replies.{AnswerValue}
use Rattle.http_edge.specs.Serving.{MovesOrHides, MayAnswer, answered, after_a_stop_of_answer}
use Rattle.http_edge.specs.Steps.Heads.{head_value}
use Rattle.http_edge.specs.Steps.Requests.{AsksAfter}
use Rattle.http_edge.specs.declared.head.Head.{Head}
use Rattle.http_edge.specs.declared.reading.Message.{Message}
use Rattle.http_edge.specs.declared.reading.Message.TheVariants.{Asked, Known, OutOfMemory}
use Rattle.http_edge.specs.declared.refusal.Refusal.{Refusal}
use Rattle.http_edge.specs.declared.refusal.Refusal.TheVariants.{BadHead, BodyCut}
use Rattle.http_edge.specs.declared.request.Asked.TheVariants.{Upload, Request, Refused}

-- the bytes settle what the head says, or the input ended with them
abbrev pub GivesHead : List ℕ → HeadValue → List ℕ → Option (List ℕ) → Type 0
GivesHead bytes head rest left =
    SettlesHead bytes head rest
    ⊎ (AtEnd left × IsHeadUnended bytes × (bytes ≢ []) × (head ≡ rejected BadHead) × (rest ≡ []))

-- what a call for the next head reads and gives: the buffered bytes then begin with it
abbrev pub NextHead : {E : Type 0} → List ℕ → Option (List ℕ) → List ℕ → Option (List ℕ) → Result (Option (Head × ℕ)) E → Type 0
NextHead held left held' left' (Ok (Some found)) =
    (bytes : List ℕ) × Moves left left' bytes × (held' ≡ held ++ bytes) × GivesHead held' (head_value held' found.0) (drop found.1 held') left'
    × (found.1 ≤ length held')
NextHead held left held' left' (Ok None) =
    (bytes : List ℕ) × Moves left left' bytes × AtEnd left' × (held ++ bytes ≡ []) × (held' ≡ [])
NextHead held left held' left' (Err e) = (bytes : List ℕ) × MovesOrHides left left' bytes × IsHeadUnended (held ++ bytes)

-- what a call reads that wants a buffered byte: one is buffered then, or the input has ended
abbrev pub Refills : {E : Type 0} → List ℕ → Option (List ℕ) → List ℕ → Option (List ℕ) → Result (Unit {0}) E → Type 0
Refills held left held' left' (Ok u) = (bytes : List ℕ) × Moves left left' bytes × (held' ≡ held ++ bytes) × (held' ≡ [] → AtEnd left')
Refills held left held' left' (Err e) = (bytes : List ℕ) × MovesOrHides left left' bytes × (held ++ bytes ≡ [])

-- ---- what was read of a message

-- a message asks what the method and the target ask with each body, and an upload represents these
-- bytes of it, or its body isn't read; or memory was refused
abbrev pub MessageAfter : Message → List ℕ → List ℕ → List ℕ → Type 0
MessageAfter (Asked asked) method target body = AsksAfter asked method target body
MessageAfter (Known upload reply) method target body = (whole : List ℕ) → message_of method target whole ≡ request (command (command_of upload whole))
MessageAfter OutOfMemory method target body = ⊤

-- an upload with the reply that is known of it
pub record KnownValue : Type 0 where
  pub upload : UploadValue
  pub reply : ReplyValue

abbrev pub known_of : Message → Option KnownValue
known_of (Asked asked) = None
known_of (Known upload reply) = Some (record { upload = upload; reply = reply })
known_of OutOfMemory = None

-- where a reply is known of an upload, the machine may give it in this state
abbrev pub Knows : Bool → State → Option KnownValue → Type 0
Knows store_may_refuse m None = ⊤
Knows store_may_refuse m (Some known) = KnowsReply store_may_refuse m known.upload.project known.upload.key (Some known.reply)

-- a desk was asked for no more than a kept reply: it represents what it represented, and a crash
-- leaves what it would have left
pub record Stays (stood stands : State → Type 0) (old_leaves new_leaves : List State → Type 0) (was_reliable is_reliable : Type 0) : Type 0 where
  pub reliable : is_reliable → was_reliable
  pub state : is_reliable → (m : State) → stood m → stands m
  pub left : is_reliable → (m : State) (states : List State) → stood m → old_leaves states → new_leaves states

-- what a call for the next piece of a body reads and passes on, which is at most so long: none only
-- at the end of the input
abbrev pub TakesPiece : {E : Type 0} → ℕ → List ℕ → Option (List ℕ) → Message → List ℕ → Option (List ℕ) → Message → Result ℕ E → Type 0
TakesPiece most held left asked held' left' asked' (Ok count) =
    (bytes : List ℕ) × (piece : List ℕ) × Moves left left' bytes × (held ++ bytes ≡ piece ++ held') × (length piece ≡ count) × (count ≤ most)
    × (count ≡ 0 → AtEnd left' × (held' ≡ []))
    × ((method target body : List ℕ) → MessageAfter asked method target body → MessageAfter asked' method target (body ++ piece))
    × (known_of asked' ≡ known_of asked)
TakesPiece most held left asked held' left' asked' (Err e) = (bytes : List ℕ) × MovesOrHides left left' bytes × (held ++ bytes ≡ [])

-- what a call for a body of so many bytes reads and passes on: all of it, or what there was at the
-- end
abbrev pub ReadsBody : {E : Type 0} → ℕ → List ℕ → Option (List ℕ) → Message → List ℕ → Option (List ℕ) → Message → Result Bool E → Type 0
ReadsBody len held left asked held' left' asked' (Ok true) =
    (bytes : List ℕ) × (body : List ℕ) × Moves left left' bytes × (held ++ bytes ≡ body ++ held') × (length body ≡ len)
    × ((method target : List ℕ) → MessageAfter asked method target [] → MessageAfter asked' method target body)
    × (known_of asked' ≡ known_of asked)
ReadsBody len held left asked held' left' asked' (Ok false) =
    (bytes : List ℕ) × Moves left left' bytes × AtEnd left' × (length (held ++ bytes) < len) × (held' ≡ [])
ReadsBody len held left asked held' left' asked' (Err e) = (bytes : List ℕ) × MovesOrHides left left' bytes × (length (held ++ bytes) < len)

-- what was read of a message is this one: an upload represents its body, or is the command with one
-- that wasn't read; where memory was refused, it's any that doesn't end the stream
abbrev pub Says : Message → MessageValue → Type 0
Says (Asked (Upload upload)) message = (body : List ℕ) × HasRead upload.body body × (message ≡ request (command (command_of upload body)))
Says (Asked (Request q)) message = message ≡ request (request_value q)
Says (Asked (Refused refusal)) message = message ≡ refused refusal
Says (Known upload reply) message = (body : List ℕ) × (message ≡ request (command (command_of upload body)))
Says OutOfMemory message = ends message ≡ false

-- the bytes settle this message, or the input ended with them
abbrev pub Gives : List ℕ → MessageValue → List ℕ → Option (List ℕ) → Type 0
Gives bytes message rest left =
    Settles bytes message rest
    ⊎ (AtEnd left × (refusal : Refusal) × IsUnended bytes refusal × (bytes ≢ []) × (message ≡ refused refusal) × (rest ≡ []))

-- what a call for the body of a request reads and gives: the message of all of it, or where the
-- input ended in it its refusal
abbrev pub TakesBody : {E : Type 0} → ℕ → List ℕ → List ℕ → List ℕ → Option (List ℕ) → List ℕ → Option (List ℕ) → Result Message E → Type 0
TakesBody len method target held left held' left' (Ok asked) =
    ((bytes : List ℕ) × (body : List ℕ) × Moves left left' bytes × (held ++ bytes ≡ body ++ held') × (length body ≡ len)
    × Says asked (message_of method target body))
    ⊎ ((bytes : List ℕ) × Moves left left' bytes × AtEnd left' × (length (held ++ bytes) < len) × (held' ≡ []) × Says asked (refused BodyCut))
TakesBody len method target held left held' left' (Err e) = (bytes : List ℕ) × MovesOrHides left left' bytes × (length (held ++ bytes) < len)

-- what a call for the next message reads and gives
abbrev pub NextMessage : {E : Type 0} → List ℕ → Option (List ℕ) → List ℕ → Option (List ℕ) → Result (Option Message) E → Type 0
NextMessage held left held' left' (Ok (Some asked)) =
    (bytes : List ℕ) × (message : MessageValue) × Moves left left' bytes × Gives (held ++ bytes) message held' left' × Says asked message
NextMessage held left held' left' (Ok None) =
    (bytes : List ℕ) × Moves left left' bytes × AtEnd left' × (held ++ bytes ≡ []) × (held' ≡ [])
NextMessage held left held' left' (Err e) =
    (bytes : List ℕ) × MovesOrHides left left' bytes × (refusal : Refusal) × IsUnended (held ++ bytes) refusal

-- what was read of a message has this answer from each state that a desk represented, where it is
-- reliable; it then represents the next one, and a crash leaves one of those of which it left one
-- and of the next
pub record Responds (store_may_refuse : Bool) (stood stands : State → Type 0) (old_leaves new_leaves : List State → Type 0) (was_reliable is_reliable : Type 0)
    (asked : Message) (given : AnswerValue) : Type 0 where
  pub reliable : is_reliable → was_reliable
  pub answer : is_reliable → (m : State) (message : MessageValue) → stood m → Knows store_may_refuse m (known_of asked) → Says asked message
      → MayAnswer store_may_refuse m message given
  pub state : is_reliable → (m : State) (message : MessageValue) → stood m → Knows store_may_refuse m (known_of asked) → Says asked message
      → stands (answered m message given)
  pub left : is_reliable → (m : State) (states : List State) (message : MessageValue) → stood m → old_leaves states
      → Knows store_may_refuse m (known_of asked) → Says asked message → new_leaves (after_a_stop_of_answer m states message given)
