-- What a call of an index finds of a state, and what it leaves: the states that the index
-- represents, and those of which a crash leaves one.
use Rattle.std.specs.Prelude.{◌≡◌, ◌++◌, [], ◌∷◌, ℕ, Bool, true, List, map, Option, Some, Result, Ok, OnOk, OnErr, IfErr, option_map}
use Rattle.dump.specs.Fault.{IsFaultless}
use Rattle.dump.specs.Progress.{DumpValue}
use Rattle.machine.specs.FoundTags.{FoundTag}
use Rattle.machine.specs.State.{State, accepted_text}
use Rattle.machine.specs.Selections.{FindsNamed, FindsPrefixed}
use Rattle.desk.specs.declared.index.IndexFault.{IndexFault}
use Rattle.desk.specs.declared.index.IndexFault.TheVariants.{Refused}
use Rattle.desk.specs.declared.index.Wanted.{Wanted}
use Rattle.desk.specs.declared.index.Wanted.TheVariants.{Name, Prefix}

-- the text of the reply that is kept for the project under the key
abbrev pub kept_text : State → List ℕ → List ℕ → Option (List ℕ)
kept_text m project key = option_map accepted_text (m.kept project key)

-- no dump of the state has a fault
abbrev pub AreFaultless : State → Type 0
AreFaultless m = (project : List ℕ) (dump : DumpValue) → m.dump project ≡ Some dump → IsFaultless (map Ok dump.elements)

-- the tags of this name, or those whose names begin with this text: of the project that is asked
-- for, where one is, and else of all
abbrev pub FindsTags : State → Option (List ℕ) → Wanted → List FoundTag → Type 0
FindsTags m asked (Name name) = FindsNamed m asked name.now
FindsTags m asked (Prefix prefix) = FindsPrefixed m asked prefix.now

module _ {I : Type 0} (stands : I → State → Type 0) (may_leave : I → List State → Type 0) where
  -- a call that changes nothing: the index represents what it represented, and a crash leaves what
  -- it would have left
  pub record ReadsOnly (old new : I) : Type 0 where
    pub state : (m : State) → stands old m → stands new m
    pub left : (m : State) (states : List State) → stands old m → may_leave old states → may_leave new states

  -- what a selection leaves, and why it may refuse
  pub record Reads {A : Type 0} (is_reliable : I → Type 0) (may_refuse : Bool) (result : Result A IndexFault) (old new : I) : Type 0 where
    -- an index that is reliable after the call was so before it
    pub reliable : is_reliable new → is_reliable old
    -- where it's reliable, the call changed nothing
    pub only : is_reliable new → ReadsOnly old new
    -- it refuses by S01 only where it keeps its state in a store
    pub refused : IfErr result (λ fault. fault ≡ Refused → may_refuse ≡ true)

  -- a change was made: the index represents this state, and a crash leaves it alone
  pub record Commits (new : I) (n : State) : Type 0 where
    pub state : stands new n
    pub left : may_leave new (n ∷ [])

  -- a change was refused: nothing changed, but a crash may leave the state to which it leads
  pub record Refuses (old new : I) (m n : State) : Type 0 where
    pub state : stands new m
    pub left : (states : List State) → may_leave old states → may_leave new (states ++ n ∷ [])

  -- a change that leads from the one state to the other: made, or refused
  abbrev pub Changes : {A E : Type 0} → I → I → State → State → Result A E → Type 0
  Changes old new m n r = OnOk r (Commits new n) × OnErr r (Refuses old new m n)
