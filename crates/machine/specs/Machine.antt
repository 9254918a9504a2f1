-- The abstract machine: what a command does to its state and is answered.
use Rattle.std.specs.Prelude.{Bool, true, false, Option, Some, None, Result, Ok, Err}
use Rattle.machine.specs.State.{Accepted, dump_put, tags_put, parts_removed, State, Change, accepted, changed}
use Rattle.machine.specs.Judging.{judged}
use Rattle.machine.specs.Reply.{ReplyValue, dump_accepted, tags_accepted, removed}
use Rattle.machine.specs.Requests.{CommandValue}

abbrev pub reply_of : Accepted → ReplyValue
reply_of (dump_put n) = dump_accepted n
reply_of (tags_put n) = tags_accepted n
reply_of (parts_removed b) = removed b

-- ---- a command

-- what a command does: its reply, the state after it, and whether it makes a change
pub record Effect : Type 0 where
  pub reply : ReplyValue
  pub after : State
  pub is_new : Bool

-- a command whose key is kept has the kept reply; another whose body has a fault is refused by that
-- fault; any other makes its change, and its reply is kept
abbrev pub effect_by : State → CommandValue → Option Accepted → Result Change ReplyValue → Effect
effect_by m c (Some kept) said = record { reply = reply_of kept; after = m; is_new = false }
effect_by m c None (Err fault) = record { reply = fault; after = m; is_new = false }
effect_by m c None (Ok change) = record {
  reply = reply_of (accepted change (m.dump c.project) (m.tags c.project));
  after = changed m c.project c.key change;
  is_new = true;
}

abbrev pub effect : State → CommandValue → Effect
effect m c = effect_by m c (m.kept c.project c.key) (judged c.action)

-- the reply to a command, the state after it, and whether it makes a change
abbrev pub reply_to : State → CommandValue → ReplyValue
reply_to m c = (effect m c).reply

abbrev pub after : State → CommandValue → State
after m c = (effect m c).after

abbrev pub is_new : State → CommandValue → Bool
is_new m c = (effect m c).is_new
