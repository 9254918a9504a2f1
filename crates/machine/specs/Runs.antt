-- Runs of the machine, with refusals in between, because memory ran out or the store refused; and
-- what a crash may leave.
use Rattle.std.specs.Prelude.{◌≡◌, ◌⊎◌, ℕ, Bool, true, List, [], ◌∷◌, ◌++◌, Option, Some, None, if◌then◌else◌}
use Rattle.machine.specs.Answers.{Answers}
use Rattle.machine.specs.Machine.{reply_of, reply_to, after, is_new}
use Rattle.machine.specs.State.{Accepted, State}
use Rattle.machine.specs.Reply.{ReplyValue, out_of_memory, store_refused, is_refusal}
use Rattle.machine.specs.Requests.{RequestValue, command, query}

-- the reply to a command, or to a query, from this state
abbrev pub Replies : State → RequestValue → ReplyValue → Type 0
Replies m (command c) r = r ≡ reply_to m c
Replies m (query q) r = Answers m q r

-- the machine may give this reply: its own, or that memory was refused, or, where the store may
-- refuse, that it did
pub data MayReply (store_may_refuse : Bool) (m : State) (q : RequestValue) : ReplyValue → Type 0 where
  own : {r : ReplyValue} → Replies m q r → MayReply store_may_refuse m q r
  no_memory : MayReply store_may_refuse m q out_of_memory
  no_store : store_may_refuse ≡ true → MayReply store_may_refuse m q store_refused

-- the state after this reply: a refusal leaves it
abbrev pub moved : State → RequestValue → ReplyValue → State
moved m (command c) r = if is_refusal r then m else after m c
moved m (query q) r = m

-- the machine may give these replies to these requests, one after another, and is then in this
-- state
abbrev pub Run : Bool → State → List RequestValue → List ReplyValue → State → Type 0
Run store_may_refuse m [] [] n = n ≡ m
Run store_may_refuse m (q ∷ qs) (r ∷ rs) n = MayReply store_may_refuse m q r × Run store_may_refuse (moved m q r) qs rs n
Run store_may_refuse m [] (r ∷ rs) n = ⊥
Run store_may_refuse m (q ∷ qs) [] n = ⊥

-- ---- kept replies

-- what is known of the reply to a project's commands with a key before a body has come: where one
-- is kept, that, or a refusal in its place; nothing where none is kept
abbrev pub KnowsReply : Bool → State → List ℕ → List ℕ → Option ReplyValue → Type 0
KnowsReply store_may_refuse m project key None = m.kept project key ≡ None
KnowsReply store_may_refuse m project key (Some r) =
    ((kept : Accepted) × (m.kept project key ≡ Some kept) × (r ≡ reply_of kept)) ⊎ (r ≡ out_of_memory) ⊎ ((store_may_refuse ≡ true) × (r ≡ store_refused))

-- ---- crashes

-- the states of which a crash leaves one, after this reply: where a command was refused, its own
-- state may have been reached; where it made its change, that is there; else nothing new
abbrev pub after_a_stop : State → List State → RequestValue → ReplyValue → List State
after_a_stop m states (command c) r = if is_refusal r then states ++ after m c ∷ [] else if is_new m c then after m c ∷ [] else states
after_a_stop m states (query q) r = states

-- the same after a run
abbrev pub after_a_stop_of_run : State → List State → List RequestValue → List ReplyValue → List State
after_a_stop_of_run m states (q ∷ qs) (r ∷ rs) = after_a_stop_of_run (moved m q r) (after_a_stop m states q r) qs rs
after_a_stop_of_run m states [] rs = states
after_a_stop_of_run m states (q ∷ qs) [] = states
