-- Why an index refuses and what is answered then; and what is known of commands that an index
-- serves.
use Rattle.std.specs.Prelude.{◌≡◌, [], ◌∷◌, ℕ, List, Result, IfOk, OnOk, OnErr, if◌then◌else◌}
use Rattle.tables.specs.declared.fault.TablesFault.{TablesFault}
use Rattle.tables.specs.declared.fault.TablesFault.TheVariants as faults
use Rattle.machine.specs.State.{Change, State, accepted, changed}
use Rattle.desk.specs.Indexes.{Changes, Refuses}
use Rattle.machine.specs.Machine.{after, is_new, reply_of, reply_to}
use Rattle.machine.specs.Reply.{ReplyValue, out_of_memory, store_refused}
use Rattle.machine.specs.Requests.{CommandValue}
use Rattle.desk.specs.declared.index.IndexFault.{IndexFault}
use Rattle.desk.specs.declared.index.IndexFault.TheVariants.{Refused, Memory}

abbrev pub fault_of : TablesFault → IndexFault
fault_of faults.Refused = Refused
fault_of faults.Memory = Memory
fault_of faults.Foreign = Refused
fault_of faults.OldFormat = Refused

abbrev pub refused_by : IndexFault → ReplyValue
refused_by Refused = store_refused
refused_by Memory = out_of_memory

module _ {I : Type 0} (stands : I → State → Type 0) (may_leave : I → List State → Type 0) where
  -- a change was made and its reply given, or it was refused
  abbrev pub IsAccepted : I → I → State → List ℕ → List ℕ → Change → Result ReplyValue IndexFault → Type 0
  IsAccepted old new m project key change result =
      IfOk result (λ r. r ≡ reply_of (accepted change (m.dump project) (m.tags project)))
      × Changes stands may_leave old new m (changed m project key change) result

  -- a command has its effect: the index represents the machine's next state, and where that is a
  -- new one a crash leaves it alone
  pub record IsApplied (old new : I) (m : State) (c : CommandValue) : Type 0 where
    pub state : stands new (after m c)
    pub left : (states : List State) → may_leave old states → may_leave new (if is_new m c then after m c ∷ [] else states)

  -- the reply is the machine's and the command has its effect; or it was refused, and nothing
  -- changed
  pub record IsServed (old new : I) (m : State) (c : CommandValue) (result : Result ReplyValue IndexFault) : Type 0 where
    pub reply : IfOk result (λ r. r ≡ reply_to m c)
    pub ok : OnOk result (IsApplied old new m c)
    pub err : OnErr result (Refuses stands may_leave old new m (after m c))
