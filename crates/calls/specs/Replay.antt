-- What `codenav replay` answers a stream.
use Rattle.std.specs.Prelude.{◌∷◌, [], ℕ, true, List, Option, Result}
use Rattle.sqlite.specs.State as sqlite
use Rattle.machine.specs.State.{State, nothing}
use Rattle.streams.specs.Streams.{Output}
use Rattle.desk.specs.TableStates.{LeavesOneOf, ServesFor}
use Rattle.http_edge.specs.Replies.{AnswerValue}
use Rattle.http_edge.specs.Requests.{MessageValue}
use Rattle.http_edge.specs.Serving.{Serves, session, after_a_stop_of_answers}
use Rattle.http_edge.specs.declared.serve.ServeFault.{ServeFault}

-- how many requests are answered at most
abbrev pub most_requests : ℕ
most_requests = 1000000

-- the bytes that were written are the replies of the abstract machine, from its empty state, to the
-- requests of the bytes that were read
abbrev pub Replays : Option (List ℕ) → Option (List ℕ) → Output → Output → Result ℕ ServeFault → Type 0
Replays unread unread' output output' result =
    (messages : List MessageValue) × (answers : List AnswerValue) × (n : State)
    × Serves true most_requests (session unread unread' output output' messages answers) nothing n result

-- the same from the state that the tables of a database represent: what the connection shows
-- represents the state after, and what a crash may leave of it, and so of the file, is what it may
-- leave of the index that served these requests
abbrev pub ReplaysFrom : State → sqlite.State → Option (List ℕ) → Option (List ℕ) → Output → Output → Result ℕ ServeFault → Type 0
ReplaysFrom m conn unread unread' output output' result =
    (messages : List MessageValue) × (answers : List AnswerValue) × (n : State)
    × Serves true most_requests (session unread unread' output output' messages answers) m n result
    × ServesFor conn n
    × LeavesOneOf conn (after_a_stop_of_answers m (m ∷ []) messages answers)
