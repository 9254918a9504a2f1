-- The messages of a stream of bytes: its requests, one after the other.
use Rattle.std.specs.Prelude.{◌≡◌, ◌≢◌, ℕ, ◌<◌, ◌≤◌, ◌⊎◌, Bool, true, false, List, [], ◌∷◌, ◌++◌, length, take, drop, zero, suc}
use Rattle.http_edge.specs.Heads.{HeadValue, rejected, request_head, SettlesHead, IsHeadUnended}
use Rattle.http_edge.specs.Refusals.{row_of}
use Rattle.http_edge.specs.Requests.{MessageValue, request, refused, message_of}
use Rattle.http_edge.specs.declared.refusal.Refusal.{Refusal}
use Rattle.http_edge.specs.declared.refusal.Refusal.TheVariants.{BadHead, BodyCut}

-- the message of a head and of the body that it asks for, which the bytes after it begin with
abbrev pub HasBody : HeadValue → List ℕ → MessageValue → List ℕ → Type 0
HasBody (rejected refusal) bytes message rest = (message ≡ refused refusal) × (rest ≡ bytes)
HasBody (request_head method target len) bytes message rest =
    (len ≤ length bytes) × (message ≡ message_of method target (take len bytes)) × (rest ≡ drop len bytes)

-- these bytes settle the first message, whatever follows them
abbrev pub Settles : List ℕ → MessageValue → List ℕ → Type 0
Settles bytes message rest =
    (head : HeadValue) × (after : List ℕ) × SettlesHead bytes head after × HasBody head after message rest

-- they don't: the head is whole, and the body isn't
abbrev pub IsBodyUnended : List ℕ → Type 0
IsBodyUnended bytes =
    (method : List ℕ) × (target : List ℕ) × (len : ℕ) × (after : List ℕ)
    × SettlesHead bytes (request_head method target len) after × (length after < len)

-- they don't settle it, and an end of the input here is refused by that
abbrev pub IsUnended : List ℕ → Refusal → Type 0
IsUnended bytes refusal = (IsHeadUnended bytes × (refusal ≡ BadHead)) ⊎ (IsBodyUnended bytes × (refusal ≡ BodyCut))

-- the first message of an ended input, and what follows it
abbrev pub First : List ℕ → MessageValue → List ℕ → Type 0
First bytes message rest =
    Settles bytes message rest
    ⊎ ((refusal : Refusal) × IsUnended bytes refusal × (bytes ≢ []) × (message ≡ refused refusal) × (rest ≡ []))

-- nothing after these is served
abbrev pub ends : MessageValue → Bool
ends (request asked) = false
ends (refused refusal) = (row_of refusal).ends_stream

-- what holds of the messages after one
abbrev pub Unless : Bool → List MessageValue → Type 0 → Type 0
Unless true messages P = messages ≡ []
Unless false messages P = P

-- the messages of an ended input, at most so many
abbrev pub Requests : ℕ → List ℕ → List MessageValue → Type 0
Requests zero bytes messages = messages ≡ []
Requests (suc limit) bytes [] = bytes ≡ []
Requests (suc limit) bytes (message ∷ messages) =
    (rest : List ℕ) × First bytes message rest × Unless (ends message) messages (Requests limit rest messages)

abbrev pub IsPrefix : List MessageValue → List MessageValue → Type 0
IsPrefix front whole = (rest : List MessageValue) × (whole ≡ front ++ rest)

-- the list begins the messages of each input that begins with the bytes
abbrev pub BeginsEach : ℕ → List ℕ → List MessageValue → Type 0
BeginsEach limit bytes messages =
    (more : List ℕ) (all : List MessageValue) → Requests limit (bytes ++ more) all → IsPrefix messages all

-- the longest such list
abbrev pub Sure : ℕ → List ℕ → List MessageValue → Type 0
Sure limit bytes messages =
    BeginsEach limit bytes messages
    × ((others : List MessageValue) → BeginsEach limit bytes others → IsPrefix others messages)

-- the last message ends the stream
abbrev pub IsEnded : List MessageValue → Type 0
IsEnded messages =
    (front : List MessageValue) × (last : MessageValue) × (messages ≡ front ++ last ∷ []) × (ends last ≡ true)
