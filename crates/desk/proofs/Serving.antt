-- What an index leaves where a change is refused before it was asked for.
use Rattle.std.specs.Prelude.{◌++◌, [], ◌∷◌, List}
use Rattle.machine.specs.State.{State}
use Rattle.desk.specs.Indexes.{ReadsOnly, Refuses}

module _ {I : Type 0} (stands : I → State → Type 0) (may_leave : I → List State → Type 0) where
  -- the index wasn't asked for anything
  pub refused_unasked : (index : I) (m n : State) → ((states : List State) → may_leave index states → may_leave index (states ++ n ∷ [])) → stands index m → Refuses stands may_leave index index m n
  refused_unasked index m n more stood = record { state = stood; left = more }

  -- it was only read
  pub refused_reading : (old new : I) (m n : State) → ReadsOnly stands may_leave old new → ((states : List State) → may_leave new states → may_leave new (states ++ n ∷ [])) → stands old m → Refuses stands may_leave old new m n
  refused_reading old new m n reads more stood = record { state = reads.state m stood; left = λ states leaves. more states (reads.left m states stood leaves) }
