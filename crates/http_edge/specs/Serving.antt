-- What serving a stream reads, answers and writes.
use Rattle.std.specs.Prelude.{◌≡◌, ◌≢◌, ℕ, ◌+◌, ◌⊎◌, Bool, List, [], ◌∷◌, ◌++◌, length, Option, Some, None, Result, Ok, Err, ⊤}
use Rattle.streams.specs.Streams.{Output, Moves, AtEnd, SameCounts, OneFailure, OneZeroWrite}
use Rattle.http_edge.specs.Requests.{MessageValue, request, refused}
use Rattle.machine.specs.State.{State}
use Rattle.machine.specs.Reply.{ReplyValue, out_of_memory}
use Rattle.machine.specs.Requests.{RequestValue}
use Rattle.machine.specs.Runs.{MayReply, moved, after_a_stop}
use Rattle.streams.specs.Sending.{Writes, WritesTo}
use Rattle.std.specs.List.{flat_map}
use Rattle.http_edge.specs.Messages.{Requests, Sure, IsEnded, IsPrefix, BeginsEach}
use Rattle.http_edge.specs.Replies.{AnswerValue, replied, turned_away, answer_text}
use Rattle.http_edge.specs.declared.serve.ServeFault.{ServeFault}
use Rattle.http_edge.specs.declared.serve.ServeFault.TheVariants.{Memory, Read, Write}

-- known bytes lost these, or they aren't known any more
abbrev pub MovesOrHides : Option (List ℕ) → Option (List ℕ) → List ℕ → Type 0
MovesOrHides None new bytes = ⊤
MovesOrHides (Some old) new bytes = (rest : List ℕ) × ((new ≡ Some rest) ⊎ (new ≡ None)) × (old ≡ bytes ++ rest)

-- where serving stops with no fault: at the end of the input, or at the limit or a message that
-- ends the stream
abbrev pub StopsWell : ℕ → List ℕ → List MessageValue → Option (List ℕ) → Type 0
StopsWell limit bytes messages left =
    Requests limit bytes messages
    × (AtEnd left ⊎ (((length messages ≡ limit) ⊎ IsEnded messages) × Sure limit bytes messages))

-- ---- answers

-- a message may have this answer: a request the machine's reply; a refusal itself, or in its place
-- that memory ran out
abbrev pub MayAnswer : Bool → State → MessageValue → AnswerValue → Type 0
MayAnswer store_may_refuse m (request q) (replied r) = MayReply store_may_refuse m q r
MayAnswer store_may_refuse m (request q) (turned_away refusal) = ⊥
MayAnswer store_may_refuse m (refused refusal) (replied r) = r ≡ out_of_memory
MayAnswer store_may_refuse m (refused refusal) (turned_away other) = other ≡ refusal

-- the state after it
abbrev pub answered : State → MessageValue → AnswerValue → State
answered m (request q) (replied r) = moved m q r
answered m (request q) (turned_away refusal) = m
answered m (refused refusal) answer = m

-- the states of which a crash leaves one after it
abbrev pub after_a_stop_of_answer : State → List State → MessageValue → AnswerValue → List State
after_a_stop_of_answer m states (request q) (replied r) = after_a_stop m states q r
after_a_stop_of_answer m states (request q) (turned_away refusal) = states
after_a_stop_of_answer m states (refused refusal) answer = states

-- the messages may have these answers, one after the other, and then the machine is in that state
abbrev pub MayAnswerAll : Bool → State → List MessageValue → List AnswerValue → State → Type 0
MayAnswerAll store_may_refuse m [] [] n = n ≡ m
MayAnswerAll store_may_refuse m (message ∷ messages) (answer ∷ answers) n =
    MayAnswer store_may_refuse m message answer × MayAnswerAll store_may_refuse (answered m message answer) messages answers n
MayAnswerAll store_may_refuse m [] (answer ∷ answers) n = ⊥
MayAnswerAll store_may_refuse m (message ∷ messages) [] n = ⊥

-- the states of which a crash leaves one after all of them
abbrev pub after_a_stop_of_answers : State → List State → List MessageValue → List AnswerValue → List State
after_a_stop_of_answers m states (message ∷ messages) (answer ∷ answers) =
    after_a_stop_of_answers (answered m message answer) (after_a_stop_of_answer m states message answer) messages answers
after_a_stop_of_answers m states [] answers = states
after_a_stop_of_answers m states (message ∷ messages) [] = states

-- the requests among the messages, and the replies to them among the answers
abbrev pub requests_in : List MessageValue → List RequestValue
requests_in [] = []
requests_in (request q ∷ messages) = q ∷ requests_in messages
requests_in (refused refusal ∷ messages) = requests_in messages

abbrev pub replies_in : List MessageValue → List AnswerValue → List ReplyValue
replies_in (request q ∷ messages) (replied r ∷ answers) = r ∷ replies_in messages answers
replies_in (request q ∷ messages) (turned_away refusal ∷ answers) = replies_in messages answers
replies_in (refused refusal ∷ messages) (answer ∷ answers) = replies_in messages answers
replies_in (message ∷ messages) [] = []
replies_in [] answers = []

-- the answers as they're written
abbrev pub texts : List AnswerValue → List ℕ
texts answers = flat_map answer_text answers

-- ---- a whole call

-- the messages begin those of each input that begins with the bytes; or the input ended, and they
-- begin its messages
abbrev pub IsBegun : ℕ → List ℕ → List MessageValue → Option (List ℕ) → Type 0
IsBegun limit bytes messages left =
    BeginsEach limit bytes messages ⊎ (AtEnd left × ((all : List MessageValue) → Requests limit bytes all → IsPrefix messages all))

-- what a call reads and writes: the bytes that its reader had and has, what is known of its writer
-- before and after, and the messages that it read with their answers
pub record Session : Type 0 where
  pub unread_before : Option (List ℕ)
  pub unread_after : Option (List ℕ)
  pub output_before : Output
  pub output_after : Output
  pub messages : List MessageValue
  pub answers : List AnswerValue

abbrev pub session : Option (List ℕ) → Option (List ℕ) → Output → Output → List MessageValue → List AnswerValue → Session
session unread unread' output output' messages answers =
    record { unread_before = unread; unread_after = unread'; output_before = output; output_after = output'; messages = messages; answers = answers }

-- a call that serves at most so many requests goes so, from one state of the machine to another;
-- where the writer failed, the last answer was cut
abbrev pub Serves : Bool → ℕ → Session → State → State → Result ℕ ServeFault → Type 0
Serves store_may_refuse limit s m n (Ok count) =
    (bytes : List ℕ) × Moves s.unread_before s.unread_after bytes × StopsWell limit bytes s.messages s.unread_after × (count ≡ length s.messages)
    × MayAnswerAll store_may_refuse m s.messages s.answers n × Writes s.output_before (texts s.answers) s.output_after
Serves store_may_refuse limit s m n (Err Memory) =
    (s.messages ≡ []) × (s.answers ≡ []) × (n ≡ m) × (s.unread_after ≡ s.unread_before) × (s.output_after ≡ s.output_before)
Serves store_may_refuse limit s m n (Err Read) =
    (bytes : List ℕ) × MovesOrHides s.unread_before s.unread_after bytes × Sure limit bytes s.messages
    × MayAnswerAll store_may_refuse m s.messages s.answers n × Writes s.output_before (texts s.answers) s.output_after
Serves store_may_refuse limit s m n (Err Write) =
    (bytes : List ℕ) × (whole : List AnswerValue) × (last : AnswerValue) × (front : List ℕ) × (back : List ℕ)
    × Moves s.unread_before s.unread_after bytes × IsBegun limit bytes s.messages s.unread_after
    × (s.answers ≡ whole ++ last ∷ []) × (answer_text last ≡ front ++ back) × (back ≢ [])
    × MayAnswerAll store_may_refuse m s.messages s.answers n × WritesTo s.output_before (texts whole ++ front) s.output_after

-- a reader's failures are counted by one where reading failed, and else not at all
abbrev pub CountsRead : {A : Type 0} → ℕ → ℕ → Result A ServeFault → Type 0
CountsRead failed failed' (Ok a) = failed' ≡ failed
CountsRead failed failed' (Err Memory) = failed' ≡ failed
CountsRead failed failed' (Err Read) = failed' ≡ failed + 1
CountsRead failed failed' (Err Write) = failed' ≡ failed

-- a writer's counts of failures and of writes that took no byte stay, but where writing failed:
-- there one goes up by one
abbrev pub CountsWrite : {A : Type 0} → Output → Result A ServeFault → Output → Type 0
CountsWrite old (Ok a) new = SameCounts old new
CountsWrite old (Err Memory) new = SameCounts old new
CountsWrite old (Err Read) new = SameCounts old new
CountsWrite old (Err Write) new = OneFailure old new ⊎ OneZeroWrite old new
