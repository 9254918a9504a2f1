-- The requests of a served run, with the replies to them, are a run of the machine.
use Rattle.std.proofs.Common.{◌≡◌, Bool, List, [], ◌∷◌, refl}
use Rattle.machine.specs.State.{State}
use Rattle.machine.specs.Runs as machine
use Rattle.machine.specs.Runs.{moved, after_a_stop}
use Rattle.http_edge.specs.Replies.{AnswerValue, replied, turned_away}
use Rattle.http_edge.specs.Requests.{MessageValue, request, refused}
use Rattle.http_edge.specs.Serving.{MayAnswerAll, after_a_stop_of_answers, replies_in, requests_in}

pub run_of : (s : Bool) (m : State) (messages : List MessageValue) (answers : List AnswerValue) (n : State) → MayAnswerAll s m messages answers n
    → machine.Run s m (requests_in messages) (replies_in messages answers) n
run_of s m [] [] n r = r
run_of s m (request q ∷ messages) (replied a ∷ answers) n r = (r.0, run_of s (moved m q a) messages answers n r.1)
run_of s m (request q ∷ messages) (turned_away refusal ∷ answers) n r = absurd r.0
run_of s m (refused refusal ∷ messages) (answer ∷ answers) n r = run_of s m messages answers n r.1
run_of s m [] (answer ∷ answers) n r = absurd r
run_of s m (message ∷ messages) [] n r = absurd r

pub left_of : (s : Bool) (m : State) (states : List State) (messages : List MessageValue) (answers : List AnswerValue) (n : State) → MayAnswerAll s m messages answers n
    → after_a_stop_of_answers m states messages answers ≡ machine.after_a_stop_of_run m states (requests_in messages) (replies_in messages answers)
left_of s m states [] [] n r = refl
left_of s m states (request q ∷ messages) (replied a ∷ answers) n r = left_of s (moved m q a) (after_a_stop m states q a) messages answers n r.1
left_of s m states (request q ∷ messages) (turned_away refusal ∷ answers) n r = absurd r.0
left_of s m states (refused refusal ∷ messages) (answer ∷ answers) n r = left_of s m states messages answers n r.1
left_of s m states [] (answer ∷ answers) n r = absurd r
left_of s m states (message ∷ messages) [] n r = absurd r
