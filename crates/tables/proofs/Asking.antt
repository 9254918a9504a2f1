-- What a store that is only asked says of itself.
use Rattle.std.proofs.Common.{◌≡◌, inl, inr, ◌∙◌, List, ℕ, Result, Ok, Err, IfErr, OnErr, IsTrue, []}
use Rattle.sqlite.specs.State.{State, IsNotRun}
use Rattle.sqlite.specs.declared.error.Error.{Error}
use Rattle.tables.specs.Stands.{IsAsBefore}

was_open : (sql : List ℕ) (old new : State) (e : Error) → IsNotRun old new sql [] e → IsTrue new.is_open → IsTrue old.is_open × (old.committed ≡ old.now → IsAsBefore old new)
unfolding IsNotRun
was_open sql old new e h up = elim h [
  | inl it ↦ (it.1.0.was_open, λ settled. (it.1.0.now_is, it.1.0.committed_is))
  | inr failed ↦ let back = failed.3.undone up in (failed.3.was_open up, λ settled. (back.0 ∙ settled, back.1))
]

-- one that refuses and is open was open, and is as it was where nothing was to be committed
pub refused : {X : Type 0} (sql : List ℕ) (old new : State) (r : Result X Error) → IfErr r (λ e. (params : _) → IsNotRun old new sql params e) → IsTrue new.is_open
    → OnErr r (IsTrue old.is_open × (old.committed ≡ old.now → IsAsBefore old new))
refused sql old new (Ok x) h up = tt
refused sql old new (Err e) h up = was_open sql old new e (h []) up
