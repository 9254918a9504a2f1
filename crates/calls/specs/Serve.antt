-- What `codenav serve` answers its connections.
use Rattle.std.specs.Prelude.{◌≡◌, ℕ, ◌+◌, ◌-◌, ◌<◌, min, nat_lt, Bool, List, [], ◌∷◌, Option, Some, None, Result, Ok, Err, if◌then◌else◌}
use Rattle.machine.specs.State.{State}
use Rattle.streams.specs.Streams.{Output}
use Rattle.http_edge.specs.Replies.{AnswerValue}
use Rattle.http_edge.specs.Requests.{MessageValue}
use Rattle.http_edge.specs.Serving.{Serves, session, after_a_stop_of_answers}
use Rattle.http_edge.specs.declared.serve.ServeFault.{ServeFault}
use Rattle.calls.specs.declared.serve.ServerFault.{ServerFault}
use Rattle.calls.specs.declared.serve.ServerFault.TheVariants.{Accept, Memory}

-- how many requests of a connection are answered at most
abbrev pub most_requests : ℕ
most_requests = 1

-- what the client of a connection asks, and what it's answered
pub record ConnectionValue : Type 0 where
  pub messages : List MessageValue
  pub answers : List AnswerValue

-- a connection takes the machine from one state to another: its one request is served, as far as it
-- can be read and its reply be written
abbrev pub ServesConnection : Bool → State → ConnectionValue → State → Type 0
ServesConnection store_may_refuse m c n =
    (unread : Option (List ℕ)) × (unread' : Option (List ℕ)) × (output : Output) × (output' : Output) × (result : Result ℕ ServeFault)
    × Serves store_may_refuse most_requests (session unread unread' output output' c.messages c.answers) m n result

-- connections, the newest first, take it from one state to another: each is served from the state
-- in which the one before it ended; and where a crash left one of the states at first, it leaves
-- one of the others then
abbrev pub ServesEach : Bool → State → List State → List ConnectionValue → State → List State → Type 0
ServesEach store_may_refuse m states [] n later = (n ≡ m) × (later ≡ states)
ServesEach store_may_refuse m states (c ∷ before) n later =
    (mid : State) × (held : List State) × ServesEach store_may_refuse m states before mid held × ServesConnection store_may_refuse mid c n
    × (later ≡ after_a_stop_of_answers mid held c.messages c.answers)

-- a connection that was accepted is counted
abbrev pub CountsAccept : {A : Type 0} → ℕ → Option A → ℕ → Type 0
CountsAccept accepted None accepted' = accepted' ≡ accepted
CountsAccept accepted (Some stream) accepted' = accepted' ≡ accepted + 1

-- so many connections were accepted, and each was served; or fewer, and then no other could be
-- accepted, or one more was and memory was refused before anything of it was served
abbrev pub CountsServed : ℕ → ℕ → ℕ → Result (Unit {0}) ServerFault → ℕ → Type 0
CountsServed requests served accepted (Ok u) accepted' = (served ≡ requests) × (accepted' ≡ accepted + served)
CountsServed requests served accepted (Err Accept) accepted' = (served < requests) × (accepted' ≡ accepted + served)
CountsServed requests served accepted (Err Memory) accepted' = (served < requests) × (accepted' ≡ accepted + served + 1)

-- ---- time, in one unit

-- how long a read or a write may wait when so much time of a connection is over: as long as one
-- may, or where less is left of the whole as long as that, where anything is
abbrev pub next_wait : ℕ → ℕ → ℕ → Option ℕ
next_wait wait whole elapsed = if nat_lt elapsed whole then Some (min wait (whole - elapsed)) else None
