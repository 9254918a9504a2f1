-- Commands that are sent again, over lives with crashes in between. Histories have the newest
-- first.
use Rattle.std.specs.Prelude.{◌≡◌, ◌&&◌, ◌||◌, ℕ, Bool, true, false, bytes_eq, List, [], ◌∷◌, ◌++◌, map, if◌then◌else◌, Option, Some, None, Result, Ok, Err, Contains}
use Rattle.dump.specs.Progress.{DumpValue}
use Rattle.tags.specs.Values.{TagValue}
use Rattle.machine.specs.Judging.{judged}
use Rattle.machine.specs.State.{Change, Accepted, State, nothing, dump_after, tags_after, accepted}
use Rattle.machine.specs.Machine.{after, is_new}
use Rattle.machine.specs.Reply.{ReplyValue, is_refusal}
use Rattle.machine.specs.Requests.{CommandValue, RequestValue, command, query}
use Rattle.machine.specs.Runs.{MayReply}

-- ---- each command once

-- an accepted command: its project, its key and its change
pub record KeptValue : Type 0 where
  pub project : List ℕ
  pub key : List ℕ
  pub change : Change

abbrev pub has_key : List ℕ → List ℕ → List KeptValue → Bool
has_key project key [] = false
has_key project key (k ∷ ks) = (bytes_eq k.project project && bytes_eq k.key key) || has_key project key ks

-- the history with this command, unless its body has a fault or its key is there
abbrev pub with_command : CommandValue → Result Change ReplyValue → List KeptValue → List KeptValue
with_command c (Err fault) ks = ks
with_command c (Ok change) ks = if has_key c.project c.key ks then ks else record { project = c.project; key = c.key; change = change } ∷ ks

-- of the commands, each that has no faulty body and whose key no kept one before it has
abbrev pub once : List CommandValue → List KeptValue
once [] = []
once (c ∷ cs) = with_command c (judged c.action) (once cs)

-- ---- plain writing, which knows no keys

-- the dump of a project that the last command which writes it leaves
abbrev pub plain_dump : List KeptValue → List ℕ → Option DumpValue
plain_dump [] project = None
plain_dump (k ∷ ks) project = if bytes_eq k.project project then dump_after k.change (plain_dump ks project) else plain_dump ks project

-- its tags likewise
abbrev pub plain_tags : List KeptValue → List ℕ → Option (List TagValue)
plain_tags [] project = None
plain_tags (k ∷ ks) project = if bytes_eq k.project project then tags_after k.change (plain_tags ks project) else plain_tags ks project

-- what the reply says that was made for the kept command of this key
abbrev pub plain_kept : List KeptValue → List ℕ → List ℕ → Option Accepted
plain_kept [] project key = None
plain_kept (k ∷ ks) project key =
    if bytes_eq k.project project && bytes_eq k.key key then Some (accepted k.change (plain_dump ks k.project) (plain_tags ks k.project))
    else plain_kept ks project key

-- ---- lives

-- what happens: a command is sent and has this reply; or there is a crash
pub data Event : Type 0 where
  sent : CommandValue → ReplyValue → Event
  stop : Event

-- a state that a crash may leave, with the commands that it has beyond those that count
pub record StopValue : Type 0 where
  pub state : State
  pub commands : List CommandValue

-- a moment of a life: the state, what a crash may leave, and the commands that count
pub record Moment : Type 0 where
  pub now : State
  pub after_a_stop : List StopValue
  pub counted : List CommandValue

abbrev pub first_moment : Moment
first_moment = record { now = nothing; after_a_stop = record { state = nothing; commands = [] } ∷ []; counted = [] }

-- after a command was refused, or had another reply: then it counts
abbrev pub moment_after_reply : Bool → CommandValue → Moment → Moment
moment_after_reply true c t = record {
  now = t.now;
  after_a_stop = t.after_a_stop ++ record { state = after t.now c; commands = c ∷ [] } ∷ [];
  counted = t.counted;
}
moment_after_reply false c t = record {
  now = after t.now c;
  after_a_stop = if is_new t.now c then record { state = after t.now c; commands = [] } ∷ [] else t.after_a_stop;
  counted = c ∷ t.counted;
}

-- after a crash that left this: the commands that it has count
abbrev pub moment_after_stop : StopValue → Moment → Moment
moment_after_stop l t = record { now = l.state; after_a_stop = record { state = l.state; commands = [] } ∷ []; counted = l.commands ++ t.counted }

-- one event more; where a store may refuse, that may be the reply
abbrev pub Goes : Bool → Moment → Event → Moment → Type 0
Goes store_may_refuse t (sent c r) u = MayReply store_may_refuse t.now (command c) r × (u ≡ moment_after_reply (is_refusal r) c t)
Goes store_may_refuse t stop u = (l : StopValue) × Contains t.after_a_stop l × (u ≡ moment_after_stop l t)

-- a life from the empty state: its events, and the moment to which they lead
abbrev pub Life : Bool → List Event → Moment → Type 0
Life store_may_refuse [] u = u ≡ first_moment
Life store_may_refuse (e ∷ es) u = (t : Moment) × Life store_may_refuse es t × Goes store_may_refuse t e u

-- ---- the law

-- the state is what plain writing leaves of the commands that count, each once
pub record IsPlain (t : Moment) : Type 0 where
  pub dump : (project : List ℕ) → t.now.dump project ≡ plain_dump (once t.counted) project
  pub tags : (project : List ℕ) → t.now.tags project ≡ plain_tags (once t.counted) project
  pub kept : (project key : List ℕ) → t.now.kept project key ≡ plain_kept (once t.counted) project key

-- the events with those of a run; a query is none
abbrev pub with_run : List RequestValue → List ReplyValue → List Event → List Event
with_run (command c ∷ qs) (r ∷ rs) es = with_run qs rs (sent c r ∷ es)
with_run (query q ∷ qs) (r ∷ rs) es = with_run qs rs es
with_run [] rs es = es
with_run (q ∷ qs) [] es = es

-- the states that a crash may leave at a moment
abbrev pub states_after_a_stop : Moment → List State
states_after_a_stop t = map (λ (l : StopValue). l.state) t.after_a_stop
